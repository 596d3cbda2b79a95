-- The seats whose candidates wait to come of age.
use Rattle.std.specs.Prelude.{◌≡◌, ◌⊎◌, ℕ, ◌+◌, ◌<◌, ◌≤◌, List, [], ◌∷◌, Contains, length, slice_index_or, set, Option, Some, None, if◌then◌else◌}
use Rattle.bp_references.specs.Candidates.{Candidate}
use Rattle.bp_replacer.specs.Hands.{IsFree}
use Rattle.bp_replacer.specs.Seats.{seat_at, same_seat, Lags}

-- the time since which a seat waits, 0 where it does not
abbrev pub since : List ℕ → ℕ → ℕ
since times k = slice_index_or times k 0

-- it waits since this time or an earlier one
pub record IsYoung (waits by : ℕ) : Type 0 where
  pub some : 0 < waits
  pub early : waits ≤ by

-- each that waits is in the queue
abbrev pub AreQueued : List ℕ → List (ℕ × ℕ) → Type 0
AreQueued times pages = (k : ℕ) → 0 < since times k → Contains pages (since times k, k)

-- none waits since before a time
abbrev pub NoneBelow : List ℕ → ℕ → Type 0
NoneBelow times time = (k : ℕ) → 0 < since times k → time ≤ since times k

-- ---- a tree that lags behind those who do not wait

-- whoever stands there waits
abbrev pub AreYoung : ℕ → Option Candidate → Type 0
AreYoung waits here = (x : Candidate) → here ≡ Some x → IsYoung waits x.1

-- whoever stands there is known, or waits
abbrev pub Covers : Option Candidate → ℕ → Option Candidate → Type 0
Covers known waits here = Lags known here ⊎ AreYoung waits here

-- at each seat that is not in hand
pub record AreCovered (known : List (Option Candidate)) (times : List ℕ)
    (seats : List (Option Candidate)) (hands : List ℕ) : Type 0 where
  pub length_is : length known ≡ length seats
  pub as_many : length times ≡ length seats
  pub covers : (k : ℕ) → IsFree hands k
      → Covers (seat_at known k) (since times k) (seat_at seats k)

-- a seat waits since this time or a later one, if that is changed
pub record IsLater (time seat : ℕ) (times times' : List ℕ) : Type 0 where
  pub from : ℕ
  pub late : time ≤ from
  pub times_are : (times' ≡ times) ⊎ (times' ≡ set times seat from)

-- the tree lets a seat wait
pub record IsApart (known : List (Option Candidate)) (times : List ℕ)
    (seats : List (Option Candidate)) (seat time : ℕ) (known' : List (Option Candidate))
    (times' : List ℕ) : Type 0 where
  pub known_is : known' ≡ set known seat None
  pub young : AreYoung (since times' seat) (seat_at seats seat)
  pub later : IsLater time seat times times'

-- a seat waits anew: not, or since no earlier than this time
abbrev pub WaitsAnew : ℕ → ℕ → Option Candidate → Type 0
WaitsAnew time waits here = (waits ≡ 0) ⊎ ((time ≤ waits) × AreYoung waits here)

-- where a seat waits, the tree knows nobody, and else who stands there
abbrev pub IsKnown : Option Candidate → ℕ → Option Candidate → Type 0
IsKnown known waits here = (waits ≡ 0 → known ≡ here) × (0 < waits → known ≡ None)

pub record AreKnown (known : List (Option Candidate)) (times : List ℕ)
    (seats : List (Option Candidate)) : Type 0 where
  pub length_is : length known ≡ length seats
  pub known_is : (k : ℕ) → IsKnown (seat_at known k) (since times k) (seat_at seats k)

-- all seats wait anew
pub record AreAnew (time : ℕ) (times : List ℕ) (seats : List (Option Candidate)) : Type 0 where
  pub as_many : length times ≡ length seats
  pub anew : (k : ℕ) → WaitsAnew time (since times k) (seat_at seats k)

-- the tree is brought up to date at one seat, or lets it wait
abbrev pub IsSettledAt : List (Option Candidate) → List ℕ → List (Option Candidate) → ℕ → ℕ
    → List (Option Candidate) → List ℕ → Type 0
IsSettledAt known times seats seat time known' times' =
    ((times' ≡ times) × (known' ≡ set known seat (seat_at seats seat)))
    ⊎ IsApart known times seats seat time known' times'

-- or it is so at all seats; at a number past the seats nothing changes
abbrev pub IsSettled : List (Option Candidate) → List ℕ → List (Option Candidate) → ℕ → ℕ
    → List (Option Candidate) → List ℕ → Type 0
IsSettled known times seats seat time known' times' =
    ((seat < length seats) × IsSettledAt known times seats seat time known' times')
    ⊎ ((AreAnew time times' seats × AreKnown known' times' seats)
    ⊎ ((length seats ≤ seat) × (times' ≡ times) × (known' ≡ known)))

-- somebody is known who does not stand there
abbrev pub stray : Option Candidate → Option Candidate → ℕ
stray None here = 0
stray (Some x) here = if same_seat (Some x) here then 0 else 1

abbrev pub astray : List (Option Candidate) → List (Option Candidate) → ℕ
astray [] seats = 0
astray (known ∷ others) [] = 0
astray (known ∷ others) (here ∷ seats) = stray known here + astray others seats
