-- Lists in the order of a number of their elements, no two of which have the same.
use Rattle.std.specs.Prelude.{◌≡◌, ◌≢◌, ℕ, ◌<◌, ◌≤◌, List, length, slice_index_or, Option, Some}
use Rattle.std.specs.Prelude.{None}

abbrev pub IsRisingBy : {X : Type 0} → (X → ℕ) → List X → Type 0
IsRisingBy {X} key xs =
    (i j : ℕ) (d : X) → i < j → j < length xs
    → key (slice_index_or xs i d) < key (slice_index_or xs j d)

-- where an element with this number stands or would stand: after those with a lower one
pub record IsPlaceFor {X : Type 0} (key : X → ℕ) (xs : List X) (n at : ℕ) : Type 0 where
  pub in_range : at ≤ length xs
  pub below : (k : ℕ) (d : X) → k < at → key (slice_index_or xs k d) < n
  pub not_below : (k : ℕ) (d : X) → at ≤ k → k < length xs → n ≤ key (slice_index_or xs k d)

-- the element at this place has the number, and no other has it
pub record StandsAt {X : Type 0} (key : X → ℕ) (xs : List X) (n at : ℕ) : Type 0 where
  pub in_range : at < length xs
  pub here : (d : X) → key (slice_index_or xs at d) ≡ n
  pub alone : (k : ℕ) (d : X) → k < length xs → k ≢ at → key (slice_index_or xs k d) ≢ n

-- no element has the number
abbrev pub StandsNowhere : {X : Type 0} → (X → ℕ) → List X → ℕ → Type 0
StandsNowhere {X} key xs n = (k : ℕ) (d : X) → k < length xs → key (slice_index_or xs k d) ≢ n

-- the place of the element with this number, if there is one
abbrev pub IsPlaceOf : {X : Type 0} → (X → ℕ) → List X → ℕ → Option ℕ → Type 0
IsPlaceOf key xs n (Some at) = StandsAt key xs n at
IsPlaceOf key xs n None = StandsNowhere key xs n
