-- A tree of winners while a change of one seat goes up, and while a pass goes over it.
use Rattle.std.specs.Prelude.{◌≡◌, ◌≢◌, ◌⊎◌, ℕ, ◌*◌, ◌+◌, ◌/◌, ◌<◌, ◌≤◌, List, length, Option}
use Rattle.bp_references.specs.Candidates.{Candidate}
use Rattle.bp_replacer.specs.Seats.{seat_at}
use Rattle.bp_replacer.specs.Tree.{blocks, node, HasLeaves, IsFromBelow, IsWon, IsBelow, leaf_of}
use Rattle.bp_replacer.specs.Young.{since, IsKnown}

-- neither of the two nodes below this one has the number of the seat
abbrev pub IsUntold : List ℕ → ℕ → ℕ → Type 0
IsUntold nodes seat i = (node nodes (2 * i) ≢ seat) × (node nodes (2 * i + 1) ≢ seat)

-- a seat was changed, and the nodes up to one above it are right again: not yet the node right
-- above that one, nor those further above that were told of the seat
pub record IsWonUpTo (nodes : List ℕ) (seats : List (Option Candidate))
    (seat at : ℕ) : Type 0 where
  pub leaves : HasLeaves nodes seats
  pub on_way : IsBelow at (leaf_of seats seat)
  pub from_below : (i : ℕ) → 1 ≤ i → i < blocks (length seats) → i ≢ at / 2 → IsFromBelow nodes i
  pub won : (i : ℕ) → 1 ≤ i → i < blocks (length seats) → i ≢ at / 2
      → (at ≤ i) ⊎ IsUntold nodes seat i → IsWon nodes seats i

-- while a pass goes from the last node to the root: this node and those after it are right
pub record IsWonFrom (nodes : List ℕ) (seats : List (Option Candidate)) (at : ℕ) : Type 0 where
  pub leaves : HasLeaves nodes seats
  pub from_below : (i : ℕ) → 1 ≤ i → at ≤ i → i < blocks (length seats) → IsFromBelow nodes i
  pub won : (i : ℕ) → 1 ≤ i → at ≤ i → i < blocks (length seats) → IsWon nodes seats i

-- ---- a pass copies block by block

-- the seats of this block are not copied yet
abbrev pub NotYet : List ℕ → ℕ → Type 0
NotYet times block = (k : ℕ) → k / 16 ≡ block → since times k ≡ 0

-- the seats of a block were copied, and of each other seat all stayed
pub record IsCopied (known : List (Option Candidate)) (times : List ℕ)
    (seats : List (Option Candidate)) (block : ℕ) (known' : List (Option Candidate))
    (times' : List ℕ) : Type 0 where
  pub length_is : length known' ≡ length seats
  pub known_is : (k : ℕ) → k / 16 ≡ block
      → IsKnown (seat_at known' k) (since times' k) (seat_at seats k)
  pub same_known : (k : ℕ) → k / 16 ≢ block → seat_at known' k ≡ seat_at known k
  pub same_times : (k : ℕ) → k / 16 ≢ block → since times' k ≡ since times k
