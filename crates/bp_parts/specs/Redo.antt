-- From where redo of a file in parts has to begin.
use Rattle.std.specs.Prelude.{◌≡◌, ℕ, ◌<◌, ◌≤◌, min, [], List, Option, Some, None, slice_index_or}
use Rattle.bp_trail.specs.Trail.{Trail}
use Rattle.bp_trail.specs.Saved.{first_lsn}
use Rattle.bp_shared.specs.Sessions.{SessionValue, new_session}

-- the lesser of two, where there are both
abbrev pub earlier : Option ℕ → Option ℕ → Option ℕ
earlier None other = other
earlier (Some one) None = Some one
earlier (Some one) (Some other) = Some (min one other)

-- the trail of a part, as its session saw it
abbrev pub seen_in : List SessionValue → ℕ → Trail
seen_in sessions part = (slice_index_or sessions part (new_session [] 0)).seen

-- of the first so many parts this is the least LSN of all unsaved writes, or none where each page
-- of theirs is saved
abbrev pub IsRedoFromAll : ℕ → List SessionValue → Option ℕ → Type 0
IsRedoFromAll parts sessions (Some lsn) =
    ((part : ℕ) × (p : ℕ) × (part < parts) × (first_lsn (seen_in sessions part) p ≡ Some lsn))
    × ((part p later : ℕ) → part < parts → first_lsn (seen_in sessions part) p ≡ Some later
    → lsn ≤ later)
IsRedoFromAll parts sessions None =
    (part p : ℕ) → part < parts → first_lsn (seen_in sessions part) p ≡ None
