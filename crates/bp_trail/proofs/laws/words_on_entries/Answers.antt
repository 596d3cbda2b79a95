use Rattle.bp_trail.proofs.Words.{answers, fits, says}
use Rattle.bp_trail.proofs.laws.words_on_entries.Goals as goal

pub returns-clause-replies : goal.returns-clause-replies
returns-clause-replies c = fits

pub returns-clause-words : goal.returns-clause-words
returns-clause-words c = says

pub returns-clause-table : goal.returns-clause-table
returns-clause-table c = answers
