-- The seats in hand, of which there are four; a number past the seats stands for none.
use Rattle.std.specs.Prelude.{◌≡◌, ◌≢◌, ◌⊎◌, ℕ, ◌<◌, List, length, slice_index_or, set, Option, Some}
use Rattle.bp_references.specs.Candidates.{Candidate}
use Rattle.bp_replacer.specs.Seats.{winner, seat_at}

abbrev pub hand_at : List ℕ → ℕ → ℕ
hand_at hands i = slice_index_or hands i 0

-- a seat is in hand, or it is not
abbrev pub InHand : List ℕ → ℕ → Type 0
InHand hands k = (i : ℕ) × (i < 4) × (hand_at hands i ≡ k)

abbrev pub IsFree : List ℕ → ℕ → Type 0
IsFree hands k = (i : ℕ) → i < 4 → hand_at hands i ≢ k

-- a seat takes this place in hand
pub record TakesPlace (hands : List ℕ) (seat : ℕ) (hands' : List ℕ) (other : ℕ) : Type 0 where
  pub place : ℕ
  pub in_range : place < 4
  pub is_there : place < length hands
  pub now : hands' ≡ set hands place seat
  pub was : hand_at hands place ≡ other

-- a seat takes the place of another one, or is itself that other
abbrev pub IsExchanged : List ℕ → ℕ → List ℕ → ℕ → Type 0
IsExchanged hands seat hands' other =
    ((hands' ≡ hands) × (other ≡ seat)) ⊎ TakesPlace hands seat hands' other

-- of the candidate at a seat: it is this one, if it was last referenced before a time
pub record IsAgedAt (seats : List (Option Candidate)) (seat time : ℕ)
    (aged : Option Candidate) : Type 0 where
  pub there : (x : Candidate) → aged ≡ Some x → (seat_at seats seat ≡ Some x) × (x.1 < time)
  pub is : (x : Candidate) → seat_at seats seat ≡ Some x → x.1 < time → aged ≡ Some x

-- of the candidates at the first so many seats in hand that were last referenced before a time, the
-- first
pub record IsHeld (seats : List (Option Candidate)) (hands : List ℕ) (count time : ℕ)
    (held : Option Candidate) : Type 0 where
  pub there : (x : Candidate) → held ≡ Some x → (k : ℕ) × (seat_at seats k ≡ Some x) × (x.1 < time)
  pub none_before : (i : ℕ) → i < count → (x : Candidate)
      → seat_at seats (hand_at hands i) ≡ Some x → x.1 < time → winner held (Some x) ≡ held
