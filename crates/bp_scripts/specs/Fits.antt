-- The rows of a script that a core's parameters allow.
use Rattle.std.specs.Prelude.{◌+◌, ◌<◌, ◌≤◌, length}
use Rattle.bp_scripts.specs.declared.rows.Row.{Row}
use Rattle.bp_scripts.specs.declared.rows.Step.{Step}
use Rattle.bp_scripts.specs.declared.rows.Step.TheVariants as step
use Rattle.bp_trail.specs.Parameters.{Parameters}

-- the step's page is one of the file's, and its bytes lie within the page
abbrev pub StepFits : Parameters → Step → Type 0
StepFits c (step.Fix page) = page < c.pages
StepFits c (step.Unfix page) = page < c.pages
StepFits c (step.Read page) = page < c.pages
StepFits c (step.Write page offset bytes lsn) = (page < c.pages) × (offset + length bytes ≤ c.size)
StepFits c (step.Flush page) = page < c.pages
StepFits c (step.Discard page) = page < c.pages
StepFits c (step.Tick n) = Unit {0}
StepFits c step.Purge = Unit {0}
StepFits c (step.Log lsn) = Unit {0}

-- the row's client is one of the pool's, and its step fits
pub record RowFits (c : Parameters) (row : Row) : Type 0 where
  pub client_in : row.client < c.clients
  pub step_fits : StepFits c row.step
