use Rattle.bp_trail.proofs.Replies.{totals_of-append}
use Rattle.bp_trail.proofs.laws.pieces_add_up.Goals as goal

pub returns : goal.returns
returns c = totals_of-append
