use Rattle.bp_trace.proofs.ReadBack.{number_in-decimal}
use Rattle.bp_trace.proofs.laws.printed_number_reads_back.Goals as goal

pub returns : goal.returns
returns c = number_in-decimal c.args.number c.requires
