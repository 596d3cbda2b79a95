use Rattle.std.proofs.Common.{rules}
use Rattle.bp_mark.proofs.KeepsRule.{bound_kept}
use Rattle.bp_mark.proofs.log_end.LogEnd.bounds.Goals as goal

pub load-requires : goal.load-requires
load-requires c = (search rules, search rules, bound_kept _ _ _)
