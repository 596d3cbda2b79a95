use Rattle.bp_trail.proofs.Sentences.{resident-lasts}
use Rattle.bp_trail.proofs.laws.resident_was_read_and_did_not_leave.Goals as goal

pub returns : goal.returns
returns c = resident-lasts
