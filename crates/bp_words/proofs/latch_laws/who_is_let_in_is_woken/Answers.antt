use Rattle.bp_words.proofs.Turns.{hands_woken, woken_to_look, looks_for_itself}
use Rattle.bp_words.proofs.latch_laws.who_is_let_in_is_woken.Goals as goal

pub returns-clause-hands_over : goal.returns-clause-hands_over
returns-clause-hands_over c = hands_woken

pub returns-clause-to_look : goal.returns-clause-to_look
returns-clause-to_look c = woken_to_look

pub returns-clause-looks : goal.returns-clause-looks
returns-clause-looks c = looks_for_itself
