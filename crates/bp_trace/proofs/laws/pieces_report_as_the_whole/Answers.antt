use Rattle.bp_trace.proofs.Pieces.{pieces-report}
use Rattle.bp_trace.proofs.laws.pieces_report_as_the_whole.Goals as goal

pub returns : goal.returns
returns c = pieces-report
