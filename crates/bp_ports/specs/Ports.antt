-- What a port says of itself.
use Rattle.std.specs.Prelude.{◌≡◌, ◌≢◌, ◌⊎◌, ℕ, Bool, true, false, ◌<◌, ◌≤◌, ◌^◌, ◌+◌, List, length, Result, Ok, Err}
use Rattle.bp_page.specs.declared.limits.Geometry.{Geometry}
use Rattle.bp_page.specs.declared.refusals.PortFault.{PortFault}
use Rattle.bp_page.specs.declared.slots.Format.{Format}
use Rattle.bp_page.specs.declared.slots.Format.TheVariants.{Plain, Headed}
use Rattle.bp_page.specs.declared.refusals.PortFault.TheVariants.{Device, Memory, WrongPage}

-- one failure more, where the count still has room for it
abbrev pub IsCounted : ℕ → ℕ → Type 0
IsCounted old new = ((old + 1 < 2 ^ 64) × (new ≡ old + 1)) ⊎ ((old + 1 ≡ 2 ^ 64) × (new ≡ old))

-- a fault of the device is counted, and nothing else is
abbrev pub Counts : {A : Type 0} → Result A PortFault → ℕ → ℕ → Type 0
Counts (Ok done) old new = new ≡ old
Counts (Err Memory) old new = new ≡ old
Counts (Err WrongPage) old new = new ≡ old
Counts (Err Device) old new = IsCounted old new

-- it failed as a device does
abbrev pub IsFailure : {A : Type 0} → Result A PortFault → Type 0
IsFailure result = result ≡ Err Device

-- it failed, and the port below was not asked
abbrev pub IsUnasked : {A P : Type 0} → Result A PortFault → P → P → Type 0
IsUnasked result inner after = IsFailure result × (after ≡ inner)

-- of a port that counts its calls down and fails once, at 1: that call fails so, and each other one
-- passes
abbrev pub FailsOrPasses : ℕ → Type 0 → Type 0 → Type 0
FailsOrPasses left fails passes = (left ≡ 1 → fails) × (left ≢ 1 → passes)

-- what a caller sees of a port: its device's pages and their size, the failures that it has
-- counted, whether the pages stand with their numbers, and what holds their bytes, where it tells
pub record PortView (S : Type 0) : Type 0 where
  pub device : Geometry
  pub failures : ℕ
  pub headed : Bool
  pub store : S

abbrev pub new_port : Geometry → PortView (Unit {0})
new_port geometry = record { device = geometry; failures = 0; headed = false; store = tt }

-- a read by a port to these pages: a failure is counted, and a page that the device lacks is one
abbrev pub ReadsPage : {S A : Type 0} → PortView S → ℕ → Result A PortFault → PortView S → Type 0
ReadsPage port page found after =
    Counts found port.failures after.failures × (port.device.pages ≤ page → IsFailure found)

-- a write by such a port: it takes no memory, and an image that is no page of the device is a
-- failure too
abbrev pub WritesPage : {S : Type 0} → PortView S → ℕ → List ℕ → Result (Unit {0}) PortFault
    → PortView S → Type 0
WritesPage port page image written after =
    Counts written port.failures after.failures × (written ≢ Err Memory)
    × (port.device.pages ≤ page → IsFailure written)
    × (length image ≢ port.device.size → IsFailure written)

-- a sync by such a port: a failure is counted, and nothing else of the port changes
abbrev pub Syncs : {S : Type 0} → PortView S → Result (Unit {0}) PortFault → PortView S → Type 0
Syncs port synced after =
    Counts synced port.failures after.failures × (after.device ≡ port.device)
    × (after.headed ≡ port.headed)

-- whether pages stand with their numbers in a file of this version
abbrev pub has_headers : Format → Bool
has_headers Plain = false
has_headers Headed = true
