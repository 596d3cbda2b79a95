use Rattle.std.proofs.Common.{ap, rules}
use Rattle.bp_mark.proofs.KeepsRule.{raise_kept}
use Rattle.bp_mark.proofs.log_end.LogEnd.raise.Goals as goal

pub fetch_max-requires : goal.fetch_max-requires
fetch_max-requires c = (search rules, search rules, raise_kept _ _ _ _ _ (ap (λ me. me.0.frontier) c.self.invariant))
