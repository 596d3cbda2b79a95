use Rattle.bp_shared.proofs.Telling.{listed_later}
use Rattle.bp_shared.proofs.laws.receipts_have_what_was_told.Goals as goal

pub returns : goal.returns
returns c = listed_later
