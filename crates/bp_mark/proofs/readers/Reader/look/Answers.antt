use Rattle.std.proofs.Common.{rules}
use Rattle.bp_mark.proofs.KeepsRule.{look_kept}
use Rattle.bp_mark.proofs.readers.Reader.look.Goals as goal

pub load-requires : goal.load-requires
load-requires c = (search rules, search rules, look_kept _ _ _)
