-- A csv reader between two records, with csv's defaults, and the rows that are read from it.
use Rattle.std.specs.Prelude.{◌≡◌, ◌⊎◌, ℕ, ◌<◌, false, List, length, Option, Some, Result, Ok, Err}
use Rattle.csv.specs.Machine.{ends_at_end}
use Rattle.csv.specs.Reading.{default_config, records_from, source_of}
use Rattle.csv.specs.declared.reader.Reader.{Reader}
use Rattle.bp_scripts.specs.declared.rows.Row.{Row}
use Rattle.bp_trace.specs.declared.faults.TraceFault.{TraceFault}
use Rattle.bp_trace.specs.Script.{IsOutside}

-- a reader between two records, which has these left to give
pub record Leaves {R : Type 0} (rem : R → Option (List ℕ)) (reader : Reader R)
    (left : List (List (List ℕ))) : Type 0 where
  pub config : reader.config ≡ default_config
  pub between : ends_at_end reader.state ≡ false
  pub text : List ℕ
  pub source : source_of rem reader ≡ Some text
  -- more than the bytes that are left, so that all their records are read
  pub fuel : ℕ
  pub enough : length text < fuel
  pub records : records_from default_config fuel reader.state text ≡ left

-- the rows that were read are those of a definition, or the fault is its fault or comes from outside
abbrev pub HasRead : {A : Type 0} → Result A TraceFault → List Row → Result (List Row) TraceFault
    → Type 0
HasRead (Ok done) rows said = said ≡ Ok rows
HasRead (Err e) rows said = IsOutside e ⊎ (said ≡ Err e)
