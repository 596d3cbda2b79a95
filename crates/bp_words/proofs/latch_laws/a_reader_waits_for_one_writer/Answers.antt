use Rattle.bp_words.proofs.Turns.{reader_waits}
use Rattle.bp_words.proofs.latch_laws.a_reader_waits_for_one_writer.Goals as goal

pub returns : goal.returns
returns c = reader_waits
