-- How references are gathered, number by number.
use Rattle.std.specs.Prelude.{◌≡◌, ◌⊎◌, ℕ, ◌≤◌, List, [], ◌∷◌, ◌++◌, length, Result, Ok, Err}
use Rattle.std.specs.HashMap.{hash_map_len}
use Rattle.bp_sweep.specs.declared.dense.Gathered.{Gathered}
use Rattle.bp_sweep.specs.declared.faults.ReferenceFault.{ReferenceFault}
use Rattle.bp_sweep.specs.Dense.{AreDense, IsIndex, Pages}
use Rattle.bp_sweep.specs.References.{IsFaulty, IsOutside, Said, most_references}

-- these numbers came in, and of them these are the different ones, the newest first
pub record Holds (g : Gathered) (numbers seen : List ℕ) : Type 0 where
  pub dense : AreDense numbers g.pages.items seen
  pub index : IsIndex g.places seen
  pub few : length numbers ≤ most_references

-- some numbers came in
abbrev pub IsGathered : Gathered → Type 0
IsGathered g = (numbers : List ℕ) × (seen : List ℕ) × Holds g numbers seen

-- a number came in, or what the line said is no reference
abbrev pub Gathers : List ℕ → List ℕ → ℕ → Said → Result (Unit {0}) ReferenceFault → Gathered
    → Type 0
Gathers numbers seen line said (Ok done) new =
    (n : ℕ) × (newer : List ℕ) × (said ≡ Ok n) × Holds new (numbers ++ n ∷ []) newer
Gathers numbers seen line said (Err fault) new =
    IsOutside fault ⊎ ((fault.line ≡ line) × IsFaulty (length numbers) seen said fault.why)

abbrev pub pages_gathered : Gathered → Pages
pages_gathered g = record { pages = g.pages.items; different = hash_map_len g.places }
