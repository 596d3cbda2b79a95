use Rattle.bp_trail.proofs.LegalLaws.{each-finds, reads-known}
use Rattle.bp_trail.proofs.laws.read_ends_find_what_is_due.Goals as goal

pub returns-clause-each : goal.returns-clause-each
returns-clause-each c = each-finds

pub returns-clause-out : goal.returns-clause-out
returns-clause-out c = reads-known
