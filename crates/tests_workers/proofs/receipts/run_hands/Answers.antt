-- What came back of the log agrees with what its receipt saw, which is the older part of the trail.
use Rattle.std.proofs.Common.{subst, IfOk}
use Rattle.bp_workers.specs.Sharing.{AgreesSoFar}
use Rattle.tests_workers.specs.declared.receipts.Log.{Log}
use Rattle.tests_workers.specs.Receipts.{HasWrites}
use Rattle.tests_workers.proofs.WritesSeen.{all_so_far}
use Rattle.tests_workers.proofs.receipts.run_hands.Goals as goal

pub returns : goal.returns
returns g c =
    all_so_far (λ (l : Log). l.last) c.expect.result.1 c.expect.result.0.core.past
    (subst (λ r. IfOk r (λ ran. AgreesSoFar (λ (l : Log) seen. HasWrites l.last seen) ran.1 ran.0.core.past)) c.expect.ensures c.run_sharing_workers-ran.ensures.agrees)
