use Rattle.std.proofs.Common.{sym, subst}
use Rattle.bp_sweep.specs.Dense.{ArePages}
use Rattle.bp_sweep.proofs.Gathering.{gathered-pages}
use Rattle.bp_sweep.proofs.dense.Gathered.into_references.Goals as goal

pub invariant_of-result : goal.invariant_of-result
invariant_of-result c = subst (λ n. ArePages c.args.self.pages.items n) (sym c.len.ensures.len) (gathered-pages c.args.self c.requires)
