use Rattle.bp_trail.proofs.LegalLaws.{each-durable}
use Rattle.bp_trail.proofs.laws.write_outs_stay_behind_the_log.Goals as goal

pub returns : goal.returns
returns c = each-durable
