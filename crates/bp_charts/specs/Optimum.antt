-- What a pool does that knows the references to come, and lets the page go that is due last.
use Rattle.std.specs.Prelude.{◌≡◌, ℕ, ◌+◌, ◌-◌, ◌<◌, ◌≤◌, ◌==◌, Bool, true, false, if◌then◌else◌, List, [], ◌∷◌}
use Rattle.bp_charts.specs.Due.{due}
use Rattle.bp_charts.specs.declared.farthest.Optimum.{Optimum}

-- which pages are in frames, and how many
pub record Held : Type 0 where
  pub has : ℕ → Bool
  pub count : ℕ

abbrev pub nothing_held : Held
nothing_held = record { has = λ page. false; count = 0 }

abbrev pub with_one : ℕ → Held → Held
with_one page held =
    record { has = λ other. if page == other then true else held.has other; count = held.count + 1 }

abbrev pub without_one : ℕ → Held → Held
without_one page held =
    record {
      has = λ other. if page == other then false else held.has other;
      count = held.count - 1;
    }

-- the page is in a frame, and none in a frame is due later
pub record IsLast (held : Held) (later : List ℕ) (page : ℕ) : Type 0 where
  pub here : held.has page ≡ true
  pub last : (other : ℕ) → held.has other ≡ true → due other later ≤ due page later

abbrev pub nobody_counted : Optimum
nobody_counted = record { hits = 0; faults = 0; evictions = 0 }

abbrev pub one_hit : Optimum → Optimum
one_hit c = record { hits = c.hits + 1; faults = c.faults; evictions = c.evictions }

abbrev pub one_load : Optimum → Optimum
one_load c = record { hits = c.hits; faults = c.faults + 1; evictions = c.evictions }

abbrev pub one_exchange : Optimum → Optimum
one_exchange c = record { hits = c.hits; faults = c.faults + 1; evictions = c.evictions + 1 }

-- what references come to, over a pool of so many frames that holds these pages
pub data Comes (frames : ℕ) : Held → List ℕ → Optimum → Type 0 where
  ends : {held : Held} → Comes frames held [] nobody_counted
  hit : {held : Held} {page : ℕ} {later : List ℕ} {c : Optimum} → held.has page ≡ true
      → Comes frames held later c → Comes frames held (page ∷ later) (one_hit c)
  load : {held : Held} {page : ℕ} {later : List ℕ} {c : Optimum} → held.has page ≡ false
      → held.count < frames → Comes frames (with_one page held) later c
      → Comes frames held (page ∷ later) (one_load c)
  exchange : {held : Held} {page victim : ℕ} {later : List ℕ} {c : Optimum} → held.has page ≡ false
      → frames ≤ held.count → IsLast held later victim
      → Comes frames (with_one page (without_one victim held)) later c
      → Comes frames held (page ∷ later) (one_exchange c)

-- over frames that are empty at first
abbrev pub IsOptimum : ℕ → List ℕ → Optimum → Type 0
IsOptimum frames references c = Comes frames nothing_held references c
