-- The next of the unsaved pages.
use Rattle.std.specs.Prelude.{◌≡◌, ℕ, ◌<◌, ◌≤◌, true, false, Option, Some, None}
use Rattle.bp_trail.specs.Trail.{Trail}
use Rattle.bp_trail.specs.Saved.{unsaved}

-- from this number on, below that one, no page is unsaved
abbrev pub AreSaved : ℕ → ℕ → Trail → Type 0
AreSaved from end past = (p : ℕ) → from ≤ p → p < end → unsaved past p ≡ false

-- the first unsaved page from this number on, or none of so many pages
abbrev pub FindsUnsaved : ℕ → ℕ → Trail → Option ℕ → Type 0
FindsUnsaved pages from past (Some page) =
    (from ≤ page) × (page < pages) × (unsaved past page ≡ true) × AreSaved from page past
FindsUnsaved pages from past None = AreSaved from pages past
