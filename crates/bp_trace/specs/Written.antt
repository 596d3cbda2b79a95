-- How a row is written in a trace: the table of the format.
use Rattle.std.specs.Prelude.{ℕ, List, [], ◌∷◌, codes}
use Rattle.std.specs.Fmt.{decimal}
use Rattle.hex.specs.Hex.{encode_lower}
use Rattle.bp_scripts.specs.declared.rows.Row.{Row}
use Rattle.bp_scripts.specs.declared.rows.Step.{Step}
use Rattle.bp_scripts.specs.declared.rows.Step.TheVariants as step

-- the fields after the client: op, number, offset, bytes, lsn
abbrev pub with_number : List ℕ → ℕ → List (List ℕ)
with_number word n = word ∷ decimal n ∷ [] ∷ [] ∷ [] ∷ []

abbrev pub written_step : Step → List (List ℕ)
written_step (step.Fix page) = with_number (codes "fix") page
written_step (step.Unfix page) = with_number (codes "unfix") page
written_step (step.Read page) = with_number (codes "read") page
written_step (step.Flush page) = with_number (codes "flush") page
written_step (step.Discard page) = with_number (codes "discard") page
written_step (step.Write page offset bytes lsn) =
    codes "write" ∷ decimal page ∷ decimal offset ∷ encode_lower bytes ∷ decimal lsn ∷ []
written_step (step.Tick n) = with_number (codes "tick") n
written_step (step.Log lsn) = with_number (codes "log") lsn
written_step step.Purge = codes "purge" ∷ [] ∷ [] ∷ [] ∷ [] ∷ []

abbrev pub written_row : Row → List (List ℕ)
written_row row = decimal row.client ∷ written_step row.step
