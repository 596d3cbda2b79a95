use Rattle.bp_mark.proofs.KeepsRule.{last_fits}
use Rattle.bp_mark.proofs.marks.last_word.Goals as goal

pub returns : goal.returns
returns c = last_fits _ _ _ _ _ c.close_with-closed.ensures.values.2 c.word-word.ensures
