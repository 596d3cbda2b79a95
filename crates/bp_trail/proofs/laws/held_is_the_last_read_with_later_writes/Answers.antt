use Rattle.bp_trail.proofs.Sentences.{resident-read, held-is}
use Rattle.bp_trail.proofs.Ranges.{sized}
use Rattle.bp_trail.proofs.laws.held_is_the_last_read_with_later_writes.Goals as goal

pub returns-clause-there : goal.returns-clause-there
returns-clause-there c = resident-read

pub returns-clause-image : goal.returns-clause-image
returns-clause-image c = held-is

pub returns-clause-size : goal.returns-clause-size
returns-clause-size c = λ p past q l. sized p past l q
