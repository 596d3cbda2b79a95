-- What the bytes of a trace say: the rows of its records, or the first fault.
use Rattle.std.specs.Prelude.{◌≡◌, ℕ, ◌+◌, nat_lt, if◌then◌else◌, List, [], ◌∷◌, length, Result, Ok, Err, ◌⊎◌, Vec}
use Rattle.std.specs.declared.alloc.Global.{Global}
use Rattle.csv.specs.Reading.{default_config, records, strip_bom}
use Rattle.csv.specs.declared.error.ErrorKind.{ErrorKind}
use Rattle.csv.specs.declared.error.ErrorKind.TheVariants as kind
use Rattle.bp_trace.specs.Faults.{fault_number}
use Rattle.bp_page.specs.declared.limits.Geometry.{Geometry}
use Rattle.bp_trace.specs.declared.faults.InputFault.{InputFault}
use Rattle.bp_trace.specs.declared.faults.InputFault.TheVariants as input_fault
use Rattle.bp_scripts.specs.declared.rows.Row.{Row}
use Rattle.bp_trace.specs.declared.faults.TraceFault.{TraceFault}
use Rattle.bp_trace.specs.Fields.{◌>>=◌, refused_if}
use Rattle.bp_trace.specs.Record.{row_in}

-- the most records and the most bytes of a trace
abbrev pub most_rows : ℕ
most_rows = 262144

abbrev pub most_bytes : ℕ
most_bytes = 67108864

-- the fault of the n-th record, or of the whole trace where n is 0
abbrev pub fault : ℕ → InputFault → TraceFault
fault n why = record { row = n; number = fault_number why }

-- the same, but want of memory is of the whole trace
abbrev pub fault_at : ℕ → InputFault → TraceFault
fault_at n input_fault.OutOfMemory = fault 0 input_fault.OutOfMemory
fault_at n why = fault n why

-- what is refused is the n-th record
abbrev pub at_row : {X : Type 0} → ℕ → Result X InputFault → Result X TraceFault
at_row n (Ok x) = Ok x
at_row n (Err why) = Err (fault n why)

-- the rows of the records from the n-th on, or the first fault
unfoldable pub script_from : Geometry → ℕ → List (List (List ℕ)) → Result (List Row) TraceFault
script_from g n [] = Ok []
script_from g n (r ∷ rest) = do
  within ← at_row n (refused_if (nat_lt most_rows n) input_fault.TooLong)
  row ← at_row n (row_in g n r)
  rows ← script_from g (n + 1) rest
  Ok (row ∷ rows)

-- the rows of the bytes: the records are those that csv reads, which takes a byte order mark off
abbrev pub script_of : Geometry → List ℕ → Result (List Row) TraceFault
script_of g bytes =
    if nat_lt most_bytes (length bytes) then Err (fault 0 input_fault.TooLong)
    else script_from g 1 (records default_config (strip_bom bytes))

-- why csv failed: want of memory, or else the reader
abbrev pub fault_of_kind : ErrorKind → InputFault
fault_of_kind kind.OutOfMemory = input_fault.OutOfMemory
fault_of_kind _ = input_fault.ReadFault

-- want of memory, or a reader's fault
abbrev pub IsOutside : TraceFault → Type 0
IsOutside e = (e ≡ fault 0 input_fault.OutOfMemory) ⊎ (e ≡ fault 0 input_fault.ReadFault)

-- what was answered is what a definition says, but for what comes from outside
abbrev pub Answers : Result (Vec Row Global) TraceFault → Result (List Row) TraceFault → Type 0
Answers (Ok rows) said = said ≡ Ok rows.items
Answers (Err e) said = IsOutside e ⊎ (said ≡ Err e)

-- the rows of some records
pub record IsScriptOfSome (g : Geometry) (rows : List Row) : Type 0 where
  pub found : List (List (List ℕ))
  pub read : script_from g 1 found ≡ Ok rows
