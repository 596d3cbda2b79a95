-- All bytes of a trace in memory.
use Rattle.std.specs.Prelude.{◌≡◌, ◌⊎◌, ◌<◌, ◌≤◌, ℕ, List, length, Result, Ok, Err, Vec}
use Rattle.std.specs.declared.alloc.Global.{Global}
use Rattle.bp_trace.specs.declared.faults.InputFault.TheVariants as input_fault
use Rattle.bp_trace.specs.declared.faults.TraceFault.{TraceFault}
use Rattle.bp_trace.specs.Script.{IsOutside, fault, most_bytes}

-- what reading all of these bytes answers
abbrev pub IsInput : Result (Vec ℕ Global) TraceFault → List ℕ → Type 0
IsInput (Ok input) bytes = (input.items ≡ bytes) × (length bytes ≤ most_bytes)
IsInput (Err e) bytes = IsOutside e ⊎ ((e ≡ fault 0 input_fault.TooLong) × (most_bytes < length bytes))
