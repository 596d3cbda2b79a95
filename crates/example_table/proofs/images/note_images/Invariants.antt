-- What is noted was so, or is of the changes so far, and these are noted.
use Rattle.std.proofs.Common.{◌≡◌, ◌⊎◌, ℕ, true, false, take, slice_index_or}
use Rattle.bp_trail.specs.Lists.{some}
use Rattle.example_table.specs.Images.{NotesMore, is_of}
use Rattle.example_table.proofs.images.note_images.Given as goal

abbrev pub invariant-loop-change : goal.invariant-loop-change
invariant-loop-change l =
    ((p : ℕ) → slice_index_or l.imaged.items p false ≡ true → (slice_index_or l.fn.imaged.items p false ≡ true) ⊎ (some (is_of p) (take l.change-index l.changes) ≡ true))
    × NotesMore l.fn.imaged.items (take l.change-index l.changes) l.imaged.items
