use Rattle.bp_trace.proofs.Pieces.{may-come}
use Rattle.bp_trace.proofs.laws.next_piece_may_come_after_a_fault.Goals as goal

pub returns : goal.returns
returns c = may-come
