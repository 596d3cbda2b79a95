-- How reading a trace into memory ends.
use Rattle.std.specs.Prelude.{ℕ, List, Option, Some, None, Err, IfSome}
use Rattle.std.proofs.Common.{inl, rules}
use Rattle.bp_trace.specs.declared.faults.TraceFault.{TraceFault}
use Rattle.bp_trace.specs.Input.{IsInput}
use Rattle.bp_trace.specs.Script.{IsOutside}

-- a fault from outside may come for any bytes
pub from_outside : (known : Option (List ℕ)) (e : TraceFault) → IsOutside e → IfSome known (IsInput (Err e))
from_outside None e outside = search rules
from_outside (Some bytes) e outside = inl outside
