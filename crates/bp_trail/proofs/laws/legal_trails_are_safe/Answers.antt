use Rattle.bp_trail.proofs.Eviction.{safe}
use Rattle.bp_trail.proofs.laws.legal_trails_are_safe.Goals as goal

pub returns : goal.returns
returns c = safe
