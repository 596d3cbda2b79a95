-- A file of bytes, by the calls that were made of it: what was written, and what a crash may leave.
-- Each list of calls is newest first.
use Rattle.std.specs.Prelude.{◌≡◌, ◌⊎◌, ℕ, ◌+◌, ◌<◌, ◌≤◌, Bool, true, false, not, ◌&&◌, ◌||◌, if◌then◌else◌, List, [], ◌∷◌, length, replicate, slice_index}
use Rattle.std.specs.Bool.{MatchBool}
use Rattle.bp_page.specs.Patched.{patched}
use Rattle.bp_ports.specs.Files.{Transfer, StoreSync}

-- a read of these bytes, and a write of them, from a byte on, and a sync, that was good or not. And a
-- write of the whole file, with the records that were read of it and zeros behind them, or with zeros
-- alone, of which there are so many
pub data FileCall : Type 0 where
  Read : ℕ → List ℕ → Bool → FileCall
  Write : ℕ → List ℕ → Bool → FileCall
  Again : List ℕ → Bool → FileCall
  Wipe : ℕ → Bool → FileCall
  Sync : Bool → FileCall

-- what a store says of one call, and that these calls led from it, as it was, to it, as it is
abbrev pub FileDoes : {S : Type 0} → Transfer S → Transfer S → StoreSync S → S → FileCall → S → Type 0
FileDoes reads writes syncs store (FileCall.Read start bytes good) after =
    reads store start bytes good after
FileDoes reads writes syncs store (FileCall.Write start bytes good) after =
    writes store start bytes good after
FileDoes reads writes syncs store (FileCall.Again bytes good) after = writes store 0 bytes good after
FileDoes reads writes syncs store (FileCall.Wipe size good) after =
    writes store 0 (replicate size 0) good after
FileDoes reads writes syncs store (FileCall.Sync good) after = syncs store good after

abbrev pub FileDid : {S : Type 0} → Transfer S → Transfer S → StoreSync S → S → List FileCall → S → Type 0
FileDid reads writes syncs store [] after = after ≡ store
FileDid {S} reads writes syncs store (call ∷ older) after =
    (between : S) × FileDid reads writes syncs store older between
    × FileDoes reads writes syncs between call after

-- some write or sync failed, and the file was not written as a whole since: after a sync that failed a
-- good one counts again once each byte was written again
abbrev pub failed : List FileCall → Bool
failed [] = false
failed (FileCall.Write start bytes good ∷ older) = not good || failed older
failed (FileCall.Again bytes good ∷ older) = not good
failed (FileCall.Wipe size good ∷ older) = not good
failed (FileCall.Sync good ∷ older) = not good || failed older
failed (_ ∷ older) = failed older

-- the bytes that were written last, where the file had `first`
abbrev pub written : List ℕ → List FileCall → List ℕ
written first [] = first
written first (FileCall.Write start bytes good ∷ older) = patched start bytes (written first older)
written first (FileCall.Again bytes good ∷ older) = patched 0 bytes (written first older)
written first (FileCall.Wipe size good ∷ older) = patched 0 (replicate size 0) (written first older)
written first (_ ∷ older) = written first older

-- a good sync makes durable all that was written, unless a call had failed before it
abbrev pub settles : Bool → List FileCall → Bool
settles good older = good && not (failed older)

-- the bytes that were made durable last
abbrev pub synced : List ℕ → List FileCall → List ℕ
synced first [] = first
synced first (FileCall.Sync good ∷ older) =
    if settles good older then written first older else synced first older
synced first (_ ∷ older) = synced first older

-- byte i was written since. A file that is written again as it was read keeps the bytes that were sure
abbrev pub Unsure : List FileCall → ℕ → Type 0
Unsure [] i = ⊥
Unsure (FileCall.Write start bytes good ∷ older) i =
    ((start ≤ i) × (i < start + length bytes)) ⊎ Unsure older i
Unsure (FileCall.Wipe size good ∷ older) i = (i < size) ⊎ Unsure older i
Unsure (FileCall.Sync good ∷ older) i = MatchBool (settles good older) ⊥ (Unsure older i)
Unsure (_ ∷ older) i = Unsure older i

-- What a crash may leave: of each byte what was made durable last, or anything where it was written
-- since. A write that is under way counts too, whatever comes of it.
pub record FileLeaves (first : List ℕ) (calls : List FileCall) (left : List ℕ) : Type 0 where
  pub long : length left ≡ length first
  pub each : (i : ℕ) → i < length left →
      (slice_index left i ≡ slice_index (synced first calls) i) ⊎ Unsure calls i

-- the file was written again with these bytes, and synced, and then only written again with the same
pub data IsSettled (first bytes : List ℕ) : List FileCall → Type 0 where
  settled : {before : List FileCall} → length (written first before) ≡ length bytes
      → IsSettled first bytes (FileCall.Sync true ∷ FileCall.Again bytes true ∷ before)
  again : {calls : List FileCall} (good : Bool) → IsSettled first bytes calls
      → IsSettled first bytes (FileCall.Again bytes good ∷ calls)
  resynced : {calls : List FileCall} (good : Bool) → IsSettled first bytes calls
      → IsSettled first bytes (FileCall.Sync good ∷ calls)

-- what is left of such a file
pub record SettledLeaves (bytes left : List ℕ) : Type 0 where
  pub first : List ℕ
  pub calls : List FileCall
  pub long : length first ≡ length bytes
  pub settled : IsSettled first bytes calls
  pub leaves : FileLeaves first calls left
