use Rattle.bp_references.proofs.DistanceLaws.{farther_is_less}
use Rattle.bp_references.proofs.laws.lesser_stamp_is_farther.Goals as goal

pub returns : goal.returns
returns c = farther_is_less
