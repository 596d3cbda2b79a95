use Rattle.bp_words.proofs.Turns.{due_closes, due_stays}
use Rattle.bp_words.proofs.latch_laws.nobody_goes_ahead_of_a_writer_that_is_due.Goals as goal

pub returns-clause-closes : goal.returns-clause-closes
returns-clause-closes c = due_closes

pub returns-clause-stays : goal.returns-clause-stays
returns-clause-stays c = due_stays
