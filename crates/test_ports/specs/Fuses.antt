-- A port that fails once: what it leaves on the port below.
use Rattle.std.specs.Prelude.{◌≡◌, ℕ, Bool, true, false, ◌-◌, List, replicate, Option, Some, None, Result}
use Rattle.bp_page.specs.declared.refusals.PortFault.{PortFault}
use Rattle.bp_ports.specs.Ports.{IsFailure}

-- the page that a failing write leaves, where one is wanted: all its bytes are 255
abbrev pub spoiled_page : Bool → ℕ → Option (List ℕ)
spoiled_page true size = Some (replicate size 255)
spoiled_page false size = None

-- a write by the port below of an image, with a result
abbrev pub Writing : Type 0 → Type 1
Writing P = List ℕ → Result (Unit {0}) PortFault → P → Type 0

-- that page was written below, whatever came of it; where none is wanted, the port below was not
-- asked
abbrev pub Spoils : {P : Type 0} → Writing P → Option (List ℕ) → P → P → Type 0
Spoils writes (Some page) inner after =
    (written : Result (Unit {0}) PortFault) × writes page written after
Spoils writes None inner after = after ≡ inner

-- the write that fails: the device's failure, and what it leaves below
abbrev pub FailsSpoiling : {P : Type 0} → Writing P → Option (List ℕ) → Result (Unit {0}) PortFault
    → P → P → Type 0
FailsSpoiling writes spoiled written inner after =
    IsFailure written × Spoils writes spoiled inner after

-- a call was counted down, and the spoiled page kept
abbrev pub IsNext : ℕ → Option (List ℕ) → ℕ → Option (List ℕ) → Type 0
IsNext left spoiled next kept = (next ≡ left - 1) × (kept ≡ spoiled)
