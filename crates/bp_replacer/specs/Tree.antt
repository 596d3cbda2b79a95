-- A tree of winners over blocks of seats in a row: below the node i stand the nodes 2 i and 2 i + 1,
-- and the last nodes are its leaves, one for each block.
use Rattle.std.specs.Prelude.{◌≡◌, ◌≢◌, ◌⊎◌, ℕ, ◌*◌, ◌+◌, ◌-◌, ◌/◌, ◌<◌, ◌≤◌, nat_lt, zero, suc, Bool, true, List, length, slice_index_or, Option, Some, None}
use Rattle.bp_references.specs.Candidates.{Candidate}
use Rattle.bp_replacer.specs.declared.block.Leader.{Leader}
use Rattle.bp_replacer.specs.Seats.{winner, seat_at}

-- how many blocks of so many seats there are, at least one
unfoldable pub blocks : ℕ → ℕ
blocks seats = (seats - 1) / 16 + 1

-- nobody stands there, or one who was last referenced before a time
abbrev pub is_aged : ℕ → Option Candidate → Bool
is_aged time None = true
is_aged time (Some e) = nat_lt e.1 time

-- ---- the first of a block

-- the times of whoever stands at a seat, the greatest numbers where nobody does
abbrev pub stamp_at : Option Candidate → ℕ
stamp_at None = 18446744073709551615
stamp_at (Some e) = e.0

abbrev pub last_at : Option Candidate → ℕ
last_at None = 18446744073709551615
last_at (Some e) = e.1

pub record IsLeader (seats : List (Option Candidate)) (l : Leader) : Type 0 where
  pub stamp : l.stamp ≡ stamp_at (seat_at seats l.seat)
  pub last : l.last ≡ last_at (seat_at seats l.seat)

-- nobody in the block comes before whoever stands at this seat, which is one of the block or past
-- all seats
pub record IsFirstOfBlock (seats : List (Option Candidate)) (block seat : ℕ) : Type 0 where
  pub inside : seat < length seats → seat / 16 ≡ block
  pub first : (k : ℕ) → k / 16 ≡ block
      → winner (seat_at seats seat) (seat_at seats k) ≡ seat_at seats seat

-- if this is another seat than the changed one, nobody else in its block comes before it
pub record IsFirstBut (seats : List (Option Candidate)) (changed seat : ℕ) : Type 0 where
  pub inside : seat < length seats → seat / 16 ≡ changed / 16
  pub first : (k : ℕ) → k / 16 ≡ changed / 16 → k ≢ changed
      → seat ≢ changed → winner (seat_at seats seat) (seat_at seats k) ≡ seat_at seats seat

-- the first in a block of those of whom P holds
pub record IsFirstIn (seats : List (Option Candidate)) (block : ℕ) (P : Candidate → Type 0)
    (first : Option Candidate) : Type 0 where
  pub there : (x : Candidate) → first ≡ Some x
      → (k : ℕ) × (k / 16 ≡ block) × (seat_at seats k ≡ Some x) × P x
  pub none_before : (k : ℕ) (x : Candidate) → k / 16 ≡ block
      → seat_at seats k ≡ Some x → P x → winner first (Some x) ≡ first

-- ---- the nodes

-- the number of a seat that a node has
abbrev pub node : List ℕ → ℕ → ℕ
node nodes i = slice_index_or nodes i 0

-- there are twice as many nodes as blocks, and each leaf has the first of its block
pub record HasLeaves (nodes : List ℕ) (seats : List (Option Candidate)) : Type 0 where
  pub size : length nodes ≡ 2 * blocks (length seats)
  pub firsts : (b : ℕ) → b < blocks (length seats)
      → IsFirstOfBlock seats b (node nodes (blocks (length seats) + b))

-- of the two nodes below, it has the one whose candidate comes first
abbrev pub IsWon : List ℕ → List (Option Candidate) → ℕ → Type 0
IsWon nodes seats i =
    seat_at seats (node nodes i)
    ≡ winner (seat_at seats (node nodes (2 * i))) (seat_at seats (node nodes (2 * i + 1)))

-- it has the number of one of the two nodes below
abbrev pub IsFromBelow : List ℕ → ℕ → Type 0
IsFromBelow nodes i =
    (node nodes (2 * i) ≡ node nodes i) ⊎ (node nodes (2 * i + 1) ≡ node nodes i)

-- each other node has the winner of the two nodes below it
pub record IsTournament (nodes : List ℕ) (seats : List (Option Candidate)) : Type 0 where
  pub leaves : HasLeaves nodes seats
  pub from_below : (i : ℕ) → 1 ≤ i → i < blocks (length seats) → IsFromBelow nodes i
  pub won : (i : ℕ) → 1 ≤ i → i < blocks (length seats) → IsWon nodes seats i

-- the node that stands so many steps above another
abbrev pub above : ℕ → ℕ → ℕ
above zero i = i
above (suc steps) i = above steps i / 2

abbrev pub IsBelow : ℕ → ℕ → Type 0
IsBelow i j = (steps : ℕ) × (above steps j ≡ i)

-- the leaf above a seat
abbrev pub leaf_of : List (Option Candidate) → ℕ → ℕ
leaf_of seats k = blocks (length seats) + k / 16

-- the first of those below a node
pub record IsFirstBelow (seats : List (Option Candidate)) (i : ℕ) (P : Candidate → Type 0)
    (first : Option Candidate) : Type 0 where
  pub there : (x : Candidate) → first ≡ Some x
      → (k : ℕ) × IsBelow i (leaf_of seats k) × (seat_at seats k ≡ Some x) × P x
  pub none_before : (k : ℕ) (x : Candidate) → IsBelow i (leaf_of seats k)
      → seat_at seats k ≡ Some x → P x → winner first (Some x) ≡ first
