use Rattle.bp_words.proofs.Turns.{first_in, first_looks}
use Rattle.bp_words.proofs.latch_laws.the_first_is_let_in.Goals as goal

pub returns-clause-hands_over : goal.returns-clause-hands_over
returns-clause-hands_over c = first_in

pub returns-clause-looks : goal.returns-clause-looks
returns-clause-looks c = first_looks
