-- Why a record says no row, in words, and the fault that it is.
use Rattle.std.specs.Prelude.{Result, Ok, Err}
use Rattle.bp_trace.specs.declared.faults.InputFault.{InputFault}
use Rattle.bp_trace.specs.declared.faults.InputFault.TheVariants as input_fault
use Rattle.bp_trace.specs.declared.reasons.RowReason.{RowReason}
use Rattle.bp_trace.specs.declared.reasons.RowReason.TheVariants as reason
use Rattle.bp_trace.specs.Fields.{Refuses}

abbrev pub fault_of_reason : RowReason → InputFault
fault_of_reason (reason.FieldCount found) = input_fault.BadShape
fault_of_reason (reason.Header text) = input_fault.BadClient
fault_of_reason (reason.Client text) = input_fault.BadClient
fault_of_reason (reason.LogClient client) = input_fault.BadClient
fault_of_reason (reason.Op text) = input_fault.BadOp
fault_of_reason (reason.NotEmpty field text) = input_fault.BadShape
fault_of_reason (reason.Number field text) = input_fault.BadNumber
fault_of_reason (reason.Hex text) = input_fault.BadHex
fault_of_reason (reason.Page page pages size) = input_fault.OutOfPage
fault_of_reason (reason.Place offset count size) = input_fault.OutOfPage
fault_of_reason reason.OutOfMemory = input_fault.OutOfMemory

-- a reason is that of the fault which a definition says, unless memory ran out; and there is none
-- only where it says no fault
abbrev pub Tells : {X Y : Type 0} → Result X RowReason → Result Y InputFault → Type 0
Tells (Ok x) (Ok y) = Unit {0}
Tells (Ok x) (Err e) = ⊥
Tells (Err reason) said = Refuses (fault_of_reason reason) said
