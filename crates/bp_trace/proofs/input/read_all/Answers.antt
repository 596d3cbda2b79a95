-- A fault from outside says nothing of the bytes.
use Rattle.std.proofs.Common.{inl, inr}
use Rattle.bp_trace.proofs.Inputs.{from_outside}
use Rattle.bp_trace.proofs.input.read_all.Goals as goal

pub returns-in-Err-2-clause-bytes : goal.returns-in-Err-2-clause-bytes
returns-in-Err-2-clause-bytes g c = from_outside _ _ (inr c.new.ensures)

pub returns-then-is_err-clause-bytes : goal.returns-then-is_err-clause-bytes
returns-then-is_err-clause-bytes g c = from_outside _ _ (inl c.new-then-is_err.ensures)

pub returns-clause-bytes : goal.returns-clause-bytes
returns-clause-bytes g c = from_outside _ _ (inr c.new-2.ensures)
