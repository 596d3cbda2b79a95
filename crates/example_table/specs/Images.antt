-- Full images: the first change of a page since the log was begun is of all its bytes, so that redo mends
-- whatever a crash leaves of the page. A log is newest first, and a list of changes oldest first.
use Rattle.std.specs.Prelude.{◌≡◌, ◌⊎◌, ℕ, ◌+◌, ◌<◌, ◌≤◌, ◌==◌, ◌||◌, Bool, true, false, IsFalse, List, [], ◌∷◌, ◌++◌, length, reverse, slice_index_or}
use Rattle.std.specs.Bool.{MatchBool}
use Rattle.bp_page.specs.Patched.{patched}
use Rattle.bp_trail.specs.declared.records.LogRecord.{LogRecord}
use Rattle.bp_trail.specs.Lists.{some, EachEntry}
use Rattle.bp_trail.specs.Recovery.{redo}
use Rattle.example_log.specs.Disk.{DeviceCall, Honest}

abbrev pub is_of : ℕ → LogRecord → Bool
is_of p r = r.page == p

-- a change of all bytes of a page of this size
abbrev pub IsFull : ℕ → LogRecord → Type 0
IsFull size r = (r.offset ≡ 0) × (length r.bytes ≡ size)

abbrev pub FirstsAreFull : ℕ → List LogRecord → Type 0
FirstsAreFull size log = EachEntry (λ older r. IsFalse (some (is_of r.page) older) → IsFull size r) log

-- each page whose flag is set has a change in the log
abbrev pub AreImaged : List Bool → List LogRecord → Type 0
AreImaged flags log = (p : ℕ) → slice_index_or flags p false ≡ true → some (is_of p) log ≡ true

-- the flag of each page that has one and a change in the log is set
abbrev pub NotesEach : List Bool → List LogRecord → Type 0
NotesEach flags log =
    (p : ℕ) → p < length flags → some (is_of p) log ≡ true → slice_index_or flags p false ≡ true

-- the flags of these changes were set too, where there is one, and no flag was taken away
pub record NotesMore (old : List Bool) (changes : List LogRecord) (new : List Bool) : Type 0 where
  pub room : length new ≡ length old
  pub kept : (p : ℕ) → slice_index_or old p false ≡ true → slice_index_or new p false ≡ true
  pub set : (p : ℕ) → p < length old → some (is_of p) changes ≡ true
      → slice_index_or new p false ≡ true

-- a change, with all other bytes of its page, which are these
abbrev pub whole_of : LogRecord → List ℕ → LogRecord
whole_of r bytes = record r { offset = 0; bytes = patched r.offset r.bytes bytes }

-- a change, with the bytes that all records so far make of its page: if reads brought what they may
pub record IsWhole (size : ℕ) (calls : List DeviceCall) (all : List LogRecord) (r made : LogRecord)
    : Type 0 where
  pub bytes : List ℕ
  pub long : length bytes ≡ size
  pub fits : r.offset + length r.bytes ≤ size
  pub made_is : made ≡ whole_of r bytes
  pub brought : (tears : Bool) (first : ℕ → List ℕ) → Honest tears first calls
      → bytes ≡ redo 0 all r.page (first r.page)

-- each is as it was asked for, or is of all bytes of its page
abbrev pub AreLogged : ℕ → List LogRecord → List LogRecord → Type 0
AreLogged size [] [] = Unit {0}
AreLogged size (r ∷ changes) (m ∷ made) =
    (m.page ≡ r.page) × ((m ≡ r) ⊎ IsFull size m) × AreLogged size changes made
AreLogged size _ _ = ⊥

-- each is as it was asked for where its page is known, also by an earlier one of them, and is else of
-- all bytes of its page
abbrev pub AreImagedOnce : ℕ → (ℕ → Bool) → List LogRecord → List LogRecord → Type 0
AreImagedOnce size known [] [] = Unit {0}
AreImagedOnce size known (r ∷ changes) (m ∷ made) =
    (m.page ≡ r.page) × MatchBool (known r.page) (m ≡ r) (IsFull size m)
    × AreImagedOnce size (λ p. is_of p r || known p) changes made
AreImagedOnce size known _ _ = ⊥

-- Changes as the log is to have them, after what it has: the first of each page is full, and they do to
-- the pages, as all records so far make them, what the changes do that were asked for
pub record AreWhole (size : ℕ) (calls : List DeviceCall) (all log changes made : List LogRecord)
    : Type 0 where
  pub pages : (p : ℕ) → some (is_of p) (reverse made) ≡ some (is_of p) (reverse changes)
  pub each : AreLogged size changes made
  pub full : FirstsAreFull size (reverse made ++ log)
  pub same : (tears : Bool) (first : ℕ → List ℕ) → Honest tears first calls → (p : ℕ)
      → redo 0 (reverse made) p (redo 0 all p (first p))
      ≡ redo 0 (reverse changes) p (redo 0 all p (first p))
