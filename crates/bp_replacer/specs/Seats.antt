-- Candidates that are entered by seats: each stands at a seat of its own, as a page stands in a
-- frame.
use Rattle.std.specs.Prelude.{◌≡◌, ℕ, ◌≢◌, ◌<◌, ◌≤◌, ◌&&◌, ◌==◌, Bool, true, false, IsFalse, List, [], ◌∷◌, length, slice_index_or, set, Option, Some, None, if◌then◌else◌}
use Rattle.bp_references.specs.Candidates.{Candidate, Entered, is_before}

-- the candidates that are seated, by seats, and the correlated period
pub record Seated : Type 0 where
  pub correlated : ℕ
  pub seats : List (Option Candidate)

-- who stands at the seats
abbrev pub seated_in : List (Option Candidate) → List Candidate
seated_in [] = []
seated_in (None ∷ seats) = seated_in seats
seated_in (Some e ∷ seats) = e ∷ seated_in seats

-- the same candidates, of as many frames as there are seats
abbrev pub entered : Seated → Entered
entered c =
    record { frames = length c.seats; correlated = c.correlated; entries = seated_in c.seats }

abbrev pub seat_at : List (Option Candidate) → ℕ → Option Candidate
seat_at seats k = slice_index_or seats k None

abbrev pub seat_of : Seated → ℕ → Option Candidate
seat_of c seat = slice_index_or c.seats seat None

-- one seat changed
abbrev pub with_seat : Seated → ℕ → Option Candidate → Seated
with_seat c seat e = record c { seats = set c.seats seat e }

-- ---- who comes first

-- of two seats, the one that comes first; an empty one comes last
abbrev pub winner : Option Candidate → Option Candidate → Option Candidate
winner None b = b
winner (Some a) None = Some a
winner (Some a) (Some b) = if is_before b a then Some b else Some a

-- the first of those at the seats of whom P holds, none where it holds of none
pub record IsFirst (seats : List (Option Candidate)) (P : Candidate → Type 0)
    (first : Option Candidate) : Type 0 where
  pub there : (x : Candidate) → first ≡ Some x → (k : ℕ) × (seat_at seats k ≡ Some x) × P x
  pub none_before : (k : ℕ) (x : Candidate) → seat_at seats k ≡ Some x → P x
      → winner first (Some x) ≡ first

-- nobody at the seats comes before this one
abbrev pub LeadsAll : List (Option Candidate) → Option Candidate → Type 0
LeadsAll seats first = (k : ℕ) → winner first (seat_at seats k) ≡ first

-- somebody stands at this seat, and is that one
pub record IsFirstAt (seats : List (Option Candidate)) (P : Candidate → Type 0)
    (seat : ℕ) : Type 0 where
  pub in_range : seat < length seats
  pub stands : seat_at seats seat ≢ None
  pub first : IsFirst seats P (seat_at seats seat)

-- ---- a tree that may lag behind who stands at the seats

-- whether the same stands at two seats
abbrev pub same_seat : Option Candidate → Option Candidate → Bool
same_seat None None = true
same_seat (Some a) (Some b) = a.0 == b.0 && a.1 == b.1 && a.2 == b.2
same_seat _ _ = false

-- whoever stands there does not come before the one that is known, and was not last referenced
-- before that one
pub record FollowsOn (known : Candidate) (here : Option Candidate) : Type 0 where
  pub not_before : (x : Candidate) → here ≡ Some x → IsFalse (is_before x known)
  pub no_earlier : (x : Candidate) → here ≡ Some x → known.1 ≤ x.1

-- of who is known at a seat and who stands there: where nobody is known, nobody stands
abbrev pub Lags : Option Candidate → Option Candidate → Type 0
Lags None here = here ≡ None
Lags (Some known) here = FollowsOn known here
