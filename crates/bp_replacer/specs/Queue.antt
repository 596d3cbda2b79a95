-- Pages that wait.
use Rattle.std.specs.Prelude.{◌≡◌, ℕ, ◌≤◌, List, length, Contains}
use Rattle.std.specs.Ordering.{nat_cmp, ordering_then}
use Rattle.std.specs.BinaryHeap.{IsHeap}
use Rattle.std.specs.declared.cmp.Ordering.{Ordering}
use Rattle.std.specs.declared.cmp.Reverse.{Reverse}

-- the pages, each with a time before it, in any order, and how many there is room for
pub record Waiting : Type 0 where
  pub pages : List (ℕ × ℕ)
  pub room : ℕ

-- the page waits since this time or an earlier one
abbrev pub IsWaiting : List (ℕ × ℕ) → ℕ → ℕ → Type 0
IsWaiting pages page by = (time : ℕ) × (time ≤ by) × Contains pages (time, page)

-- ---- the heap that holds them

-- the least time is the greatest in the heap's order
abbrev pub by_time : Reverse (ℕ × ℕ) → Reverse (ℕ × ℕ) → Ordering
by_time a b = ordering_then (nat_cmp b.0.0 a.0.0) (nat_cmp b.0.1 a.0.1)

pub record IsInOrder (items : List (Reverse (ℕ × ℕ))) (count : ℕ) : Type 0 where
  pub heap : IsHeap by_time items
  pub counted : count ≡ length items
