-- How far off the next reference of a page is.
use Rattle.std.specs.Prelude.{◌≡◌, ℕ, ◌+◌, ◌<◌, ◌==◌, if◌then◌else◌, List, [], ◌∷◌, length, drop, slice_index}

-- how many references come before the next one of a page; pages that do not come again are due
-- after all references, in the order of their numbers
abbrev pub due : ℕ → List ℕ → ℕ
due page [] = page
due page (other ∷ later) = if page == other then 0 else due page later + 1

-- when a page is due, by the index of its next reference from this one on
abbrev pub due_from : ℕ → ℕ → List ℕ → ℕ
due_from i page references = i + due page (drop i references)

-- for each reference, when its page is due after it
pub record AreDue (references next : List ℕ) : Type 0 where
  pub count : length next ≡ length references
  pub each : (i : ℕ) → i < length references
      → slice_index next i ≡ due_from (i + 1) (slice_index references i) references

-- when each of so many pages is due after so many references
pub record BeginsDue (pages count : ℕ) (latest : List ℕ) : Type 0 where
  pub all : length latest ≡ pages
  pub each : (page : ℕ) → page < pages → slice_index latest page ≡ count + page
