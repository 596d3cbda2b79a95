-- From each visitor's own word.
use Rattle.std.proofs.lemmas.Result.{IfOk-weaker}
use Rattle.tests_workers.proofs.OwnPorts.{side_weaker, back_work, unmarked}
use Rattle.tests_workers.proofs.own_ports.visit_all.Goals as goal

pub returns : goal.returns
returns g c = record {
  worked = IfOk-weaker c.run_workers.result _ _ (λ run each. side_weaker _ _ (λ client given left is. (is.whose, back_work _ _ _ _ _ _ is.back is.leaves.0, unmarked run.core client is.upkeep is.keeps_up is.leaves.1)) 0 _ _ each) c.run_workers.ensures.left;
}
