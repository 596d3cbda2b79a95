-- Which scripts clients may run.
use Rattle.std.specs.Prelude.{◌≡◌, ◌≢◌, ℕ, suc, ◌<◌, List, [], ◌∷◌, All, length, map, slice_index_or, None}
use Rattle.std.specs.declared.vec.Vec.{Vec}
use Rattle.bp_page.specs.declared.limits.Geometry.{Geometry}
use Rattle.bp_scripts.specs.declared.rows.Row.{Row}
use Rattle.bp_scripts.specs.declared.rows.Refused.{Refused}
use Rattle.bp_trail.specs.Parameters.{Parameters}
use Rattle.bp_scripts.specs.Fits.{RowFits, StepFits}
use Rattle.bp_scripts.specs.LogBound.{log_of}

-- a row of this client, inside the file and its pages; client 0 alone writes the log
pub record RowFitsClient (p : Parameters) (client : ℕ) (row : Row) : Type 0 where
  pub fits : RowFits p row
  pub own : row.client ≡ client
  pub log : 0 < client → log_of row.step ≡ None

abbrev pub ScriptFits : Parameters → ℕ → List Row → Type 0
ScriptFits p client script = All (RowFitsClient p client) script

-- the list that stands at this place
abbrev pub list_of : {X : Type 0} → ℕ → List (List X) → List X
list_of c lists = slice_index_or lists c []

abbrev pub EachScriptFits : Parameters → List (List Row) → Type 0
EachScriptFits p scripts = (c : ℕ) → c < length scripts → ScriptFits p c (list_of c scripts)

-- no row was refused since the pool did not know a ticket
abbrev pub NoneIsStrange : List Refused → Type 0
NoneIsStrange refused = All (λ r. r.number ≢ 16) refused

-- what each of some vectors holds
abbrev pub lists : {X A : Type 0} → List (Vec X A) → List (List X)
lists vectors = map (λ v. v.items) vectors

-- ---- what a player needs of its script

-- a row of this client, whose step fits
pub record IsRowOf (p : Parameters) (client : ℕ) (row : Row) : Type 0 where
  pub own : row.client ≡ client
  pub fits : StepFits p row.step

abbrev pub RowsFit : Parameters → ℕ → List Row → Type 0
RowsFit p client script = All (IsRowOf p client) script

-- so are all rows, whatever else the parameters say than the pages of this geometry
abbrev pub CanPlay : Geometry → ℕ → List Row → Type 0
CanPlay g client script =
    (p : Parameters) → p.pages ≡ g.pages → p.size ≡ g.size → RowsFit p client script

-- the same of the scripts of this client and those after it
abbrev pub EachCanPlay : Geometry → ℕ → List (List Row) → Type 0
EachCanPlay g first [] = Unit {0}
EachCanPlay g first (script ∷ scripts) = CanPlay g first script × EachCanPlay g (suc first) scripts
