use Rattle.bp_trail.proofs.LegalLaws.{each-discards}
use Rattle.bp_trail.proofs.laws.discards_are_safe.Goals as goal

pub returns : goal.returns
returns c = each-discards
