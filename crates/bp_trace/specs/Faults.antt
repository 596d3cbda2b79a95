-- The number of each fault of a trace or of a list of references.
use Rattle.std.specs.Prelude.{ℕ}
use Rattle.bp_trace.specs.declared.faults.InputFault.{InputFault}
use Rattle.bp_trace.specs.declared.faults.InputFault.TheVariants.{TooManyPages, OutOfMemory, BadShape, BadClient, BadOp, BadNumber, BadHex, OutOfPage, TooLong, ReadFault}

abbrev pub fault_number : InputFault → ℕ
fault_number TooManyPages = 1
fault_number OutOfMemory = 22
fault_number BadShape = 40
fault_number BadClient = 41
fault_number BadOp = 42
fault_number BadNumber = 43
fault_number BadHex = 44
fault_number OutOfPage = 45
fault_number TooLong = 46
fault_number ReadFault = 47
