-- What the code keeps of each page: a block in a slot, and the number of that slot.
use Rattle.std.specs.Prelude.{◌≡◌, ℕ, ◌<◌, ◌≤◌, nat_eq, Bool, true, false, List, map, length, count_by, Option, Some, None, is_some, IsSomeAnd, unwrap_or, slice_index_or}
use Rattle.std.specs.Map.{lookup}
use Rattle.bp_replacer.specs.declared.histories.Block.{Block}
use Rattle.bp_references.specs.Shift.{IsBounded}
use Rattle.bp_replacer.specs.Histories.{no_block}
use Rattle.bp_replacer.specs.Queue.{Waiting, IsWaiting}

-- what stands in a slot
abbrev pub slot : List (Option Block) → ℕ → Option Block
slot slots at = slice_index_or slots at None

-- the blocks of the pages, by the numbers of their slots
abbrev pub blocks_in : List (Option Block) → List (ℕ × ℕ) → List (ℕ × Block)
blocks_in slots places = map (λ e. (e.0, unwrap_or (slot slots e.1) no_block)) places

-- a block has bounded stamps, its page waits where it isn't held, and only where it has a history
pub record IsSound (k : ℕ) (b : Block) : Type 0 where
  pub bounded : IsBounded k b.stamps b.last
  pub free_waits : b.held ≡ false → b.waits ≡ true
  pub waits_known : b.waits ≡ true → 0 < b.last

-- each page with a number has a sound block in that slot, and no other page has that number
pub record IsKept (k : ℕ) (slots : List (Option Block)) (places : List (ℕ × ℕ)) : Type 0 where
  pub sound : (page at : ℕ) → lookup (nat_eq page) places ≡ Some at
      → IsSomeAnd (slot slots at) (IsSound k)
  pub apart : (p q at : ℕ) → lookup (nat_eq p) places ≡ Some at → lookup (nat_eq q) places ≡ Some at
      → p ≡ q

-- ---- the queue of the pages that are not held

abbrev pub waits_in : Option Block → Bool
waits_in None = false
waits_in (Some b) = b.waits

-- a page that is marked so waits since its newest reference or an earlier one, and each block has
-- room in the queue
pub record IsQueued (slots : List (Option Block)) (places : List (ℕ × ℕ))
    (queue : Waiting) : Type 0 where
  pub waiting : (page at : ℕ) (b : Block) → lookup (nat_eq page) places ≡ Some at
      → slot slots at ≡ Some b → b.waits ≡ true
      → IsWaiting queue.pages page b.last
  pub few : length queue.pages ≤ count_by waits_in slots
  pub room : count_by is_some slots ≤ queue.room
