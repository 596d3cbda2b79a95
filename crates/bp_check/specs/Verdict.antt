-- The first entry that is not lawful. The entries are in the order of time; those of a past are newest
-- first.
use Rattle.std.specs.Prelude.{ℕ, ◌<◌, List, ◌++◌, length, take, reverse, slice_index_or}
use Rattle.bp_trail.specs.declared.entries.Entry.{Entry}
use Rattle.bp_trail.specs.Parameters.{Parameters}
use Rattle.bp_trail.specs.Trail.{Trail}
use Rattle.bp_trail.specs.Legal.{IsLawful, Legal}

-- the entries before this place are legal, and the entry there is not lawful after them
pub record IsFirstUnlawful (c : Parameters) (entries : List Entry) (place : ℕ) : Type 0 where
  pub within : place < length entries
  pub before : Legal c (reverse (take place entries))
  pub unlawful : (d : Entry)
      → ¬ (IsLawful c (reverse (take place entries)) (slice_index_or entries place d))

-- the same of entries that come after a past
pub record IsFirstUnlawfulAfter (c : Parameters) (past : Trail) (entries : List Entry)
    (place : ℕ) : Type 0 where
  pub within : place < length entries
  pub before : Legal c (reverse (take place entries) ++ past)
  pub unlawful : (d : Entry)
      → ¬ (IsLawful c (reverse (take place entries) ++ past) (slice_index_or entries place d))
