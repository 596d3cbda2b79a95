-- What holds of the rows of every script.
use Rattle.std.specs.Prelude.{◌≡◌, ℕ, ◌+◌, ◌^◌, ◌<◌, ◌≤◌, All, List, [], ◌∷◌, length}
use Rattle.hex.specs.Hex.{IsBytes}
use Rattle.bp_page.specs.declared.limits.Geometry.{Geometry}
use Rattle.bp_scripts.specs.declared.rows.Row.{Row}
use Rattle.bp_scripts.specs.declared.rows.Step.{Step}
use Rattle.bp_scripts.specs.declared.rows.Step.TheVariants as step
use Rattle.bp_trail.specs.Parameters.{Parameters}
use Rattle.bp_scripts.specs.Fits.{RowFits}
use Rattle.bp_trace.specs.Fields.{most_client}
use Rattle.bp_trace.specs.Script.{most_rows}

-- the log is client 0's alone
abbrev pub SpeaksForLog : ℕ → Step → Type 0
SpeaksForLog client (step.Log lsn) = client ≡ 0
SpeaksForLog client _ = Unit {0}

-- numbers that a trace can say, and bytes
abbrev pub CanBeSaid : Step → Type 0
CanBeSaid (step.Write page offset bytes lsn) = IsBytes bytes × (lsn ≤ 2 ^ 62)
CanBeSaid (step.Tick n) = n ≤ 2 ^ 62
CanBeSaid (step.Log lsn) = lsn ≤ 2 ^ 62
CanBeSaid _ = Unit {0}

-- the row is of one of the clients, and each pool over these pages that has a place for this client
-- allows it
pub record IsInRange (g : Geometry) (row : Row) : Type 0 where
  pub client : row.client ≤ most_client
  pub log : SpeaksForLog row.client row.step
  pub said : CanBeSaid row.step
  pub fits : (c : Parameters) → c.pages ≡ g.pages → c.size ≡ g.size → row.client < c.clients
      → RowFits c row

-- rows are numbered from n on, one by one
abbrev pub AreNumberedFrom : ℕ → List Row → Type 0
AreNumberedFrom n [] = Unit {0}
AreNumberedFrom n (row ∷ rows) = (row.row ≡ n) × AreNumberedFrom (n + 1) rows

-- rows that a trace over these pages can say
pub record IsScript (g : Geometry) (rows : List Row) : Type 0 where
  pub few : length rows ≤ most_rows
  pub numbered : AreNumberedFrom 1 rows
  pub in_range : All (IsInRange g) rows
