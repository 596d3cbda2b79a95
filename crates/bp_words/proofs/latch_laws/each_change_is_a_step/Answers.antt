use Rattle.bp_words.proofs.Latch.{reads_step, writes_step, pins_step, leaves_step}
use Rattle.bp_words.proofs.latch_laws.each_change_is_a_step.Goals as goal

pub returns-clause-reads : goal.returns-clause-reads
returns-clause-reads c = reads_step

pub returns-clause-writes : goal.returns-clause-writes
returns-clause-writes c = writes_step

pub returns-clause-pins : goal.returns-clause-pins
returns-clause-pins c = pins_step

pub returns-clause-leaves : goal.returns-clause-leaves
returns-clause-leaves c = leaves_step
