-- The pages that may be replaced, and which of them goes first.
use Rattle.std.specs.Prelude.{◌≡◌, ◌≢◌, ℕ, ◌-◌, ◌==◌, ◌&&◌, ◌||◌, nat_lt, Bool, false, IsTrue, List, [], ◌∷◌, Option, Some, None, unwrap_or, if◌then◌else◌}
use Rattle.std.specs.Option.{is_some, option_map_or}

-- what decides between pages: the K-th stamp, the time of the newest reference, and the page
abbrev pub Candidate : Type 0
Candidate = ℕ × ℕ × ℕ

-- by the K-th stamp, then by the last time, then by the page, each from the least
abbrev pub is_before : Candidate → Candidate → Bool
is_before a b = nat_lt a.0 b.0 || (a.0 == b.0 && (nat_lt a.1 b.1 || (a.1 == b.1 && nat_lt a.2 b.2)))

-- of two, the one that comes first
abbrev pub earlier : Candidate → Candidate → Candidate
earlier a b = if is_before b a then b else a

-- the candidates that are entered, in any order, how many may be, and the correlated period
pub record Entered : Type 0 where
  pub frames : ℕ
  pub correlated : ℕ
  pub entries : List Candidate

-- the K-th stamp and the last time that a list has of a page
abbrev pub find_entry : List Candidate → ℕ → Option (ℕ × ℕ)
find_entry [] page = None
find_entry (e ∷ es) page = if e.2 == page then Some (e.0, e.1) else find_entry es page

-- what an entered page was entered with
abbrev pub entry_of : Entered → ℕ → Option (ℕ × ℕ)
entry_of c page = find_entry c.entries page

abbrev pub is_entered : Entered → ℕ → Bool
is_entered c page = is_some (entry_of c page)

-- the triple of an entered page
abbrev pub candidate_of : Entered → ℕ → Candidate
candidate_of c page =
    let entry : ℕ × ℕ = unwrap_or (entry_of c page) (0, 0) in (entry.0, entry.1, page)

-- entered, and last referenced more than the correlated period before t
abbrev pub is_eligible : Entered → ℕ → ℕ → Bool
is_eligible c t page = option_map_or (λ e. nat_lt c.correlated (t - e.1)) (entry_of c page) false

-- the eligible page that comes before every other one
pub record IsVictim (c : Entered) (t page : ℕ) : Type 0 where
  pub eligible : IsTrue (is_eligible c t page)
  pub first : (q : ℕ) → IsTrue (is_eligible c t q) → q ≢ page
      → IsTrue (is_before (candidate_of c page) (candidate_of c q))

-- no page stands twice in a list
abbrev pub NoPageTwice : List Candidate → Type 0
NoPageTwice [] = Unit {0}
NoPageTwice (e ∷ es) = (find_entry es e.2 ≡ None) × NoPageTwice es

-- what `new` was given
pub record SameLimits (old new : Entered) : Type 0 where
  pub frames : new.frames ≡ old.frames
  pub correlated : new.correlated ≡ old.correlated
