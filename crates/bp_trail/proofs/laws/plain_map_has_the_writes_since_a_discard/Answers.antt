use Rattle.bp_trail.proofs.Plain.{plain-is_writes, plain-discarded, plain-since-discard}
use Rattle.bp_trail.proofs.laws.plain_map_has_the_writes_since_a_discard.Goals as goal

pub returns-clause-writes : goal.returns-clause-writes
returns-clause-writes c = plain-is_writes

pub returns-clause-discarded : goal.returns-clause-discarded
returns-clause-discarded c = plain-discarded

pub returns-clause-since : goal.returns-clause-since
returns-clause-since c = λ q m later earlier e p image l gone none known. plain-since-discard q m e earlier p image gone known later l none
