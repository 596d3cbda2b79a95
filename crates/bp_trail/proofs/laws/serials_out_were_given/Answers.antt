use Rattle.bp_trail.proofs.LegalLaws.{passes-below, reads-below, writes-below, passes-once, reads-once, writes-once}
use Rattle.bp_trail.proofs.laws.serials_out_were_given.Goals as goal

pub returns-clause-passes : goal.returns-clause-passes
returns-clause-passes c = passes-below

pub returns-clause-reads : goal.returns-clause-reads
returns-clause-reads c = reads-below

pub returns-clause-writes : goal.returns-clause-writes
returns-clause-writes c = writes-below

pub returns-clause-passes_once : goal.returns-clause-passes_once
returns-clause-passes_once c = passes-once

pub returns-clause-reads_once : goal.returns-clause-reads_once
returns-clause-reads_once c = reads-once

pub returns-clause-writes_once : goal.returns-clause-writes_once
returns-clause-writes_once c = writes-once
