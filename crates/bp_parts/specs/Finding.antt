-- The first unsaved page of a file in parts.
use Rattle.std.specs.Prelude.{◌≡◌, ℕ, ◌+◌, ◌*◌, ◌<◌, ◌≤◌, true, false, List, Option, Some, None}
use Rattle.bp_trail.specs.Saved.{unsaved}
use Rattle.bp_shared.specs.Sessions.{SessionValue}
use Rattle.bp_parts.specs.Redo.{seen_in}

-- where a page of a part is in the file
abbrev pub in_file : ℕ → ℕ → Option ℕ → Option ℕ
in_file parts part None = None
in_file parts part (Some page) = Some (page * parts + part)

-- one of the first so many parts has this page of the file, and it is unsaved
pub record IsUnsavedIn (parts n pages : ℕ) (sessions : List SessionValue) (whole : ℕ) : Type 0 where
  pub part : ℕ
  pub page : ℕ
  pub below : part < n
  pub inside : page < pages
  pub place : whole ≡ page * parts + part
  pub is_unsaved : unsaved (seen_in sessions part) page ≡ true

-- of the first so many of the parts, each of so many pages, this is the first unsaved page of the file
-- from this number on, or there is none
abbrev pub FindsInFile : ℕ → ℕ → ℕ → ℕ → List SessionValue → Option ℕ → Type 0
FindsInFile parts n pages from sessions (Some whole) =
    (from ≤ whole) × IsUnsavedIn parts n pages sessions whole
    × ((part page : ℕ) → part < n → page < pages → from ≤ page * parts + part
    → page * parts + part < whole → unsaved (seen_in sessions part) page ≡ false)
FindsInFile parts n pages from sessions None =
    (part page : ℕ) → part < n → page < pages → from ≤ page * parts + part
    → unsaved (seen_in sessions part) page ≡ false
