use Rattle.std.proofs.Common.{rules}
use Rattle.bp_words.proofs.Steps.{tell_kept}
use Rattle.bp_words.proofs.frames.Frame.word_tells.Goals as goal

pub load-requires : goal.load-requires
load-requires c = (search rules, search rules, tell_kept _ _ _)
