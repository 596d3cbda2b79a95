use Rattle.bp_trail.proofs.Crashes.{within-is}
use Rattle.bp_trail.proofs.Redoing.{plain-is, recovers, recovers-plain, recovers-whole, redo-pieces}
use Rattle.bp_trail.proofs.recovery.redo_recovers_each_page.Goals as goal

pub returns-clause-recovered : goal.returns-clause-recovered
returns-clause-recovered c = recovers

pub returns-clause-plain : goal.returns-clause-plain
returns-clause-plain c = recovers-plain

pub returns-clause-whole : goal.returns-clause-whole
returns-clause-whole c = recovers-whole

pub returns-clause-within : goal.returns-clause-within
returns-clause-within c = within-is

pub returns-clause-in_pieces : goal.returns-clause-in_pieces
returns-clause-in_pieces c = redo-pieces

pub returns-clause-plain_map : goal.returns-clause-plain_map
returns-clause-plain_map c = plain-is
