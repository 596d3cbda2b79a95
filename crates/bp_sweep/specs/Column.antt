-- A column of the records of a text, in the words of csv.
use Rattle.std.specs.Prelude.{◌≡◌, ℕ, zero, suc, ◌+◌, ◌==◌, ◌&&◌, ◌||◌, nat_le, if◌then◌else◌, Bool, true, false, not, List, [], ◌∷◌, map, drop, length, Option, Some, None, Result, Err}
use Rattle.std.specs.Char.{is_ascii_digit}
use Rattle.std.specs.List.{list_all}
use Rattle.csv.specs.Reading.{ReadRecord, default_config, records, strip_bom}
use Rattle.csv.specs.Records.{field_at}
use Rattle.csv.specs.declared.reader.Reader.{Reader}
use Rattle.bp_trace.specs.declared.faults.InputFault.TheVariants.{BadShape}
use Rattle.bp_sweep.specs.declared.faults.ReferenceFault.{ReferenceFault}
use Rattle.bp_sweep.specs.Dense.{Pages}
use Rattle.bp_sweep.specs.References.{Answers, Said, text_said}

-- the fields of a record
abbrev pub Fields : Type 0
Fields = List (List ℕ)

abbrev pub rows_in : List ℕ → List Fields
rows_in bytes = records default_config (strip_bom bytes)

-- the field in a column, from 1
abbrev pub field_in : ℕ → Fields → Option (List ℕ)
field_in zero fields = None
field_in (suc i) fields = field_at fields i

-- what a field says
abbrev pub field_said : Option (List ℕ) → Said
field_said None = Err BadShape
field_said (Some field) = text_said field

-- what a record says
abbrev pub record_said : ℕ → Fields → Said
record_said column fields = field_said (field_in column fields)

-- ---- a header

-- a field without the plus or minus before it
abbrev pub without_sign : List ℕ → List ℕ
without_sign [] = []
without_sign (b ∷ later) = if (b == 43) || (b == 45) then later else b ∷ later

-- decimal digits of any value, before which a sign may stand
abbrev pub is_numeral : List ℕ → Bool
is_numeral field =
    nat_le 1 (length (without_sign field)) && list_all is_ascii_digit (without_sign field)

-- the field is there, and is no numeral
abbrev pub is_title : Option (List ℕ) → Bool
is_title None = false
is_title (Some field) = not (is_numeral field)

-- how many records are passed over as a header: the first, where its field is a title, and else
-- none
abbrev pub headers : ℕ → List Fields → ℕ
headers column [] = 0
headers column (row ∷ later) = if is_title (field_in column row) then 1 else 0

-- what reading a column of records answers
abbrev pub AnswersRows : ℕ → List Fields → Result Pages ReferenceFault → Type 0
AnswersRows column rows result =
    Answers (headers column rows + 1) (map (record_said column) (drop (headers column rows) rows))
    result

abbrev pub ReadsColumn : Result Pages ReferenceFault → ℕ → List ℕ → Type 0
ReadsColumn result column bytes = AnswersRows column (rows_in bytes) result

-- the reader had no record left, or gave this one
abbrev pub TakesRecord : {R : Type 0} → (R → Option (List ℕ)) → Reader R → Reader R → ℕ → Fields
    → Option Said → Type 0
TakesRecord rem old new column row None = (fields : Fields) × ReadRecord rem old new false fields
TakesRecord rem old new column row (Some said) =
    ReadRecord rem old new true row × (said ≡ record_said column row)
