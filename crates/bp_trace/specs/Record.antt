-- What one record of a trace says: a row, or the first fault.
use Rattle.std.specs.Prelude.{ℕ, ◌+◌, ◌==◌, ◌&&◌, nat_lt, nat_le, not, Bool, true, false, if◌then◌else◌, List, length, codes, Result, Ok, Err}
use Rattle.std.specs.Str.{bytes_eq}
use Rattle.bp_page.specs.declared.limits.Geometry.{Geometry}
use Rattle.bp_trace.specs.declared.faults.InputFault.{InputFault}
use Rattle.bp_trace.specs.declared.faults.InputFault.TheVariants as input_fault
use Rattle.bp_scripts.specs.declared.rows.Step.{Step}
use Rattle.bp_scripts.specs.declared.rows.Step.TheVariants as step
use Rattle.bp_scripts.specs.declared.rows.Row.{Row}
use Rattle.bp_trace.specs.declared.record.Op.{Op}
use Rattle.bp_trace.specs.declared.record.Op.TheVariants as op
use Rattle.bp_trace.specs.Fields.{Texts, ◌>>=◌, bytes_wanted, client_in, number_wanted, or_refuse, page_in, refused_if, six_of}

-- the words of the ops
unfoldable pub op_in : List ℕ → Result Op InputFault
op_in text =
    if bytes_eq text (codes "fix") then Ok op.Fix
    else if bytes_eq text (codes "unfix") then Ok op.Unfix
    else if bytes_eq text (codes "read") then Ok op.Read
    else if bytes_eq text (codes "flush") then Ok op.Flush
    else if bytes_eq text (codes "discard") then Ok op.Discard
    else if bytes_eq text (codes "write") then Ok op.Write
    else if bytes_eq text (codes "tick") then Ok op.Tick
    else if bytes_eq text (codes "log") then Ok op.Log
    else if bytes_eq text (codes "purge") then Ok op.Purge
    else Err input_fault.BadOp

abbrev pub is_log : Op → Bool
is_log op.Log = true
is_log _ = false

abbrev pub is_blank : List ℕ → Bool
is_blank text = length text == 0

-- a field that the op leaves empty is not empty
abbrev pub has_extra : Op → Texts → Bool
has_extra op.Write t = false
has_extra op.Purge t =
    not (is_blank t.number && (is_blank t.offset && (is_blank t.bytes && is_blank t.lsn)))
has_extra _ t = not (is_blank t.offset && (is_blank t.bytes && is_blank t.lsn))

-- a write within a page of the file
abbrev pub place_in : Geometry → ℕ → ℕ → List ℕ → ℕ → Result Step InputFault
place_in g page offset bytes lsn =
    if nat_lt page g.pages && nat_le (offset + length bytes) g.size
    then Ok (step.Write page offset bytes lsn) else Err input_fault.OutOfPage

unfoldable pub write_in : Geometry → Texts → Result Step InputFault
write_in g t = do
  page ← number_wanted t.number
  offset ← number_wanted t.offset
  lsn ← number_wanted t.lsn
  bytes ← bytes_wanted t.bytes
  place_in g page offset bytes lsn

-- what each op asks for
unfoldable pub step_in : Geometry → Op → Texts → Result Step InputFault
step_in g op.Fix t = do
  page ← page_in g t.number
  Ok (step.Fix page)
step_in g op.Unfix t = do
  page ← page_in g t.number
  Ok (step.Unfix page)
step_in g op.Read t = do
  page ← page_in g t.number
  Ok (step.Read page)
step_in g op.Flush t = do
  page ← page_in g t.number
  Ok (step.Flush page)
step_in g op.Discard t = do
  page ← page_in g t.number
  Ok (step.Discard page)
step_in g op.Write t = write_in g t
step_in g op.Tick t = do
  steps ← number_wanted t.number
  Ok (step.Tick steps)
step_in g op.Log t = do
  lsn ← number_wanted t.number
  Ok (step.Log lsn)
step_in g op.Purge t = Ok step.Purge

-- the row that the fields of the n-th record say
unfoldable pub texts_row : Geometry → ℕ → Texts → Result Row InputFault
texts_row g n t = do
  client ← client_in t.client
  op ← op_in t.op
  own ← refused_if (is_log op && not (client == 0)) input_fault.BadClient
  bare ← refused_if (has_extra op t) input_fault.BadShape
  step ← step_in g op t
  Ok (record { row = n; client = client; step = step })

-- the row that the n-th record says
unfoldable pub row_in : Geometry → ℕ → List (List ℕ) → Result Row InputFault
row_in g n fields = do
  t ← or_refuse input_fault.BadShape (six_of fields)
  texts_row g n t
