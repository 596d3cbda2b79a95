use Rattle.bp_trail.proofs.LegalLaws.{each-evicts, each-first, each-farthest, each-written}
use Rattle.bp_trail.proofs.laws.evictions_are_safe.Goals as goal

pub returns-clause-safe : goal.returns-clause-safe
returns-clause-safe c = each-evicts

pub returns-clause-first : goal.returns-clause-first
returns-clause-first c = each-first

pub returns-clause-farthest : goal.returns-clause-farthest
returns-clause-farthest c = each-farthest

pub returns-clause-written_first : goal.returns-clause-written_first
returns-clause-written_first c = each-written
