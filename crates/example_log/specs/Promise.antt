-- What redo promises of a device that a crash left. A log is newest first.
use Rattle.std.specs.Prelude.{◌≡◌, ◌⊎◌, ℕ, ◌<◌, Bool, true, false, List, [], ◌++◌, length}
use Rattle.bp_trail.specs.declared.records.LogRecord.{LogRecord}
use Rattle.bp_trail.specs.Trail.{Trail}
use Rattle.bp_trail.specs.Recovery.{HasFullImage, MayHave, redo, records_from}
use Rattle.bp_trail.specs.Lists.{some}
use Rattle.example_log.specs.Disk.{DeviceCall, MayBring, MayLeave, Honest, is_good_sync}
use Rattle.example_log.specs.Moments.{AtEach}

-- page p needs no whole write of its device: none tears, or the log has a full image of it, or redo
-- does not write it
abbrev pub IsMended : Bool → ℕ → ℕ → List LogRecord → ℕ → Type 0
IsMended tears size from log p =
    (tears ≡ false) ⊎ HasFullImage size (records_from from log p) ⊎ (records_from from log p ≡ [])

-- the device has these pages, and redo makes of each what it is to be
pub record MayBeRedone (tears : Bool) (size from : ℕ) (log : List LogRecord)
    (wanted pages : ℕ → List ℕ) : Type 0 where
  pub sized : (p : ℕ) → length (pages p) ≡ size
  pub mended : (p : ℕ) → IsMended tears size from log p
  pub leads : (p : ℕ) → redo from log p (pages p) ≡ wanted p

-- Whatever a crash at any moment of these calls leaves, it may be redone, to the same pages: so redo
-- may be cut off and begun again, any number of times.
abbrev pub AtEachMoment : Bool → ℕ → ℕ → List LogRecord → (ℕ → List ℕ) → (ℕ → List ℕ)
    → List DeviceCall → Type 0
AtEachMoment tears size from log wanted first calls =
    (later so_far : List DeviceCall) (left : ℕ → List ℕ) → calls ≡ later ++ so_far
    → ((p : ℕ) → MayLeave tears first so_far p (left p))
    → MayBeRedone tears size from log wanted left

-- each page is what it is to be: reads bring that, and a crash leaves that
pub record IsRedone (tears : Bool) (pages : ℕ) (wanted seen first : ℕ → List ℕ)
    (calls : List DeviceCall) : Type 0 where
  pub reads : (p : ℕ) (image : List ℕ) → p < pages → MayBring tears seen calls p image
      → image ≡ wanted p
  pub durable : (p : ℕ) (image : List ℕ) → p < pages → MayLeave tears first calls p image
      → image ≡ wanted p

-- What redo of so many pages promises, if each read brings what it may: at each moment it may be cut
-- off, and when it is done each page is what it is to be. When it began, reads brought `seen`, and a
-- loss of power would have left `first`, which is another where not all was synced
abbrev pub Recovers : ℕ → ℕ → ℕ → List LogRecord → List DeviceCall → Bool → Type 0
Recovers pages size from log calls done =
    (tears : Bool) (wanted seen first : ℕ → List ℕ) → MayBeRedone tears size from log wanted seen
    → MayBeRedone tears size from log wanted first → Honest tears seen calls
    → AtEachMoment tears size from log wanted first calls
    × (done ≡ true → IsRedone tears pages wanted seen first calls)

-- and so of the calls so far at each moment, as if it had stopped there. It is done by a good sync
abbrev pub RecoversThroughout : ℕ → ℕ → ℕ → List LogRecord → List DeviceCall → Bool → Type 0
RecoversThroughout pages size from log calls done =
    Recovers pages size from log calls done
    × AtEach (λ so_far. Recovers pages size from log so_far false) calls
    × (done ≡ true → some is_good_sync calls ≡ true)

-- What a pool leaves of page p where it is stopped: an image that went out whole, or the first one. Or
-- any bytes, where the log has a full image.
abbrev pub PoolLeaves : ℕ → ℕ → List LogRecord → (ℕ → List ℕ) → Trail → Trail → ℕ → List ℕ → Type 0
PoolLeaves size from log first synced past p image =
    MayHave first synced past p image
    ⊎ (HasFullImage size (records_from from log p) × (length image ≡ size))
