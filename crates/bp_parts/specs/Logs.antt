-- The log writer of all parts.
use Rattle.std.specs.Prelude.{◌≡◌, ℕ, ◌<◌, ◌≤◌, List, length, slice_index_or}
use Rattle.bp_mark.specs.Marks.{MarkName, LogEndValue}

-- those from one place on to another are the log ends of the marks of their places, each raised so
-- far
abbrev pub AreEndsFrom : (ℕ → MarkName) → ℕ → ℕ → ℕ → List LogEndValue → Type 0
AreEndsFrom mark frontier start end ends =
    (i : ℕ) (d : LogEndValue) → start ≤ i → i < end
    → slice_index_or ends i d ≡ record { mark = mark i; frontier = frontier }

abbrev pub AreEndsOf : (ℕ → MarkName) → ℕ → List LogEndValue → Type 0
AreEndsOf mark frontier ends = AreEndsFrom mark frontier 0 (length ends) ends
