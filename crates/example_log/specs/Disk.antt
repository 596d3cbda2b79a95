-- A device of pages, by the calls that were made of it: what reads may bring, and what a crash may
-- leave. Each list of calls is newest first. `tears` says whether a write that is cut off may leave any
-- bytes, or either the new ones or the old.
use Rattle.std.specs.Prelude.{◌≡◌, ◌⊎◌, ℕ, Bool, true, false, not, ◌&&◌, ◌==◌, List, [], ◌∷◌, length, Result, Ok, Err}
use Rattle.std.specs.Bool.{MatchBool}
use Rattle.std.specs.Result.{is_ok}
use Rattle.bp_page.specs.declared.refusals.PortFault.{PortFault}
use Rattle.bp_trail.specs.Lists.{some}

-- a read of a page that brought this image, or none; a write of an image to a page, and a sync, that
-- was good or not
pub data DeviceCall : Type 0 where
  Read : ℕ → List ℕ → DeviceCall
  NotRead : ℕ → DeviceCall
  Write : ℕ → List ℕ → Bool → DeviceCall
  Sync : Bool → DeviceCall

-- ---- the calls of a port

abbrev pub Reads : Type 0 → Type 1
Reads P = P → ℕ → Result (List ℕ) PortFault → P → Type 0

abbrev pub Writes : Type 0 → Type 1
Writes P = P → ℕ → List ℕ → ℕ → Result (Unit {0}) PortFault → P → Type 0

abbrev pub Syncs : Type 0 → Type 1
Syncs P = P → Result (Unit {0}) PortFault → P → Type 0

-- what a port says of one call
abbrev pub Does : {P : Type 0} → Reads P → Writes P → Syncs P → P → DeviceCall → P → Type 0
Does reads writes syncs port (DeviceCall.Read page image) after = reads port page (Ok image) after
Does reads writes syncs port (DeviceCall.NotRead page) after =
    (fault : PortFault) × reads port page (Err fault) after
Does reads writes syncs port (DeviceCall.Write page image good) after =
    (lsn : ℕ) × (written : Result (Unit {0}) PortFault)
    × writes port page image lsn written after × (good ≡ is_ok written)
Does reads writes syncs port (DeviceCall.Sync good) after =
    (synced : Result (Unit {0}) PortFault) × syncs port synced after × (good ≡ is_ok synced)

-- these calls led from the port as it was to the port as it is
abbrev pub Did : {P : Type 0} → Reads P → Writes P → Syncs P → P → List DeviceCall → P → Type 0
Did reads writes syncs port [] after = after ≡ port
Did {P} reads writes syncs port (call ∷ older) after =
    (between : P) × Did reads writes syncs port older between
    × Does reads writes syncs between call after

-- ---- what stands on the device

-- what a write that is not known to be whole may leave, beside what was there
abbrev pub Partly : Bool → List ℕ → List ℕ → Type 0
Partly tears new image = (image ≡ new) ⊎ ((tears ≡ true) × (length image ≡ length new))

-- what a read of page p may bring, where the device had `first`
abbrev pub MayBring : Bool → (ℕ → List ℕ) → List DeviceCall → ℕ → List ℕ → Type 0
MayBring tears first [] p image = image ≡ first p
MayBring tears first (DeviceCall.Write q new true ∷ older) p image =
    MatchBool (q == p) (image ≡ new) (MayBring tears first older p image)
MayBring tears first (DeviceCall.Write q new false ∷ older) p image =
    ((q ≡ p) × Partly tears new image) ⊎ MayBring tears first older p image
MayBring tears first (_ ∷ older) p image = MayBring tears first older p image

abbrev pub sync_failed : DeviceCall → Bool
sync_failed (DeviceCall.Sync good) = not good
sync_failed _ = false

abbrev pub is_good_sync : DeviceCall → Bool
is_good_sync (DeviceCall.Sync good) = good
is_good_sync _ = false

-- What a crash may leave of page p: what a read might have brought when the last good sync came,
-- before which none had failed; or what any write since may have left. The write that is under way
-- counts too, whatever comes of it
abbrev pub MayLeave : Bool → (ℕ → List ℕ) → List DeviceCall → ℕ → List ℕ → Type 0
MayLeave tears first [] p image = image ≡ first p
MayLeave tears first (DeviceCall.Write q new good ∷ older) p image =
    ((q ≡ p) × Partly tears new image) ⊎ MayLeave tears first older p image
MayLeave tears first (DeviceCall.Sync good ∷ older) p image =
    MatchBool (good && not (some sync_failed older)) (MayBring tears first older p image)
    (MayLeave tears first older p image)
MayLeave tears first (_ ∷ older) p image = MayLeave tears first older p image

-- each read brought what it may
abbrev pub Honest : Bool → (ℕ → List ℕ) → List DeviceCall → Type 0
Honest tears first [] = Unit {0}
Honest tears first (DeviceCall.Read p image ∷ older) =
    MayBring tears first older p image × Honest tears first older
Honest tears first (_ ∷ older) = Honest tears first older
