-- How the stamps of a page change with one more reference.
use Rattle.std.proofs.Common.{◌≡◌, refl, sym, ◌∙◌, ap, ℕ, zero, suc, ◌+◌, ◌-◌, ◌<◌, ◌≤◌, nat_lt, Bool, true, false, ◌==◌, if◌then◌else◌, List, [], ◌∷◌, length, inl, inr, arith}
use Rattle.std.proofs.lemmas.Bool.{cases_lt, ne_eqb, lt-ltb, le-ltb}
use Rattle.bp_references.specs.Burst.{Reference, Burst, time, first_time, width, is_opened_by_hit, opens_burst, add_reference, bursts}
use Rattle.bp_references.specs.Burst.Reference.{hit, fault}
use Rattle.bp_references.specs.Stamp.{burst_at, counted_widths, burst_stamp, stamp, IsTimed}

-- ---- the newest burst

-- some references have a burst, and the newest of both is one
pub record Newest (c : ℕ) (r : Reference) (before : List Reference) : Type 0 where
  pub rest : List Reference
  pub older : List Burst
  pub is : bursts c (r ∷ before) ≡ (r ∷ rest) ∷ older

pub newest : (c : ℕ) (r : Reference) (before : List Reference) → Newest c r before
newest c r before = go (opens_burst c r before) refl (bursts c before) refl
  where
    go : (opens : Bool) → opens_burst c r before ≡ opens → (all : List Burst) → bursts c before ≡ all → Newest c r before
    go true e all i = record { rest = []; older = all; is = rw (e, i) refl }
    go false e [] i = record { rest = []; older = []; is = rw (e, i) refl }
    go false e (b ∷ older) i = record { rest = b; older = older; is = rw (e, i) refl }

-- ---- first times

abbrev pub AllStarted : List Burst → Type 0
AllStarted all = (place : ℕ) → place < length all → 1 ≤ first_time (burst_at all place)

started_alone : (r : Reference) (all : List Burst) → 1 ≤ time r → AllStarted all → AllStarted ((r ∷ []) ∷ all)
started_alone r all positive started zero lt = positive
started_alone r all positive started (suc place) lt = started place (omega arith)

started_with : (r : Reference) (b : Burst) (older : List Burst) → 1 ≤ time r → AllStarted (b ∷ older) → AllStarted ((r ∷ b) ∷ older)
started_with r [] older positive started zero lt = positive
started_with r (q ∷ b) older positive started zero lt = started zero (omega arith)
started_with r b older positive started (suc place) lt = started (suc place) (omega arith)

add_reference-started : (opens : Bool) (r : Reference) (all : List Burst) → 1 ≤ time r → AllStarted all → AllStarted (add_reference opens r all)
add_reference-started true r all positive started = started_alone r all positive started
add_reference-started false r [] positive started = started_alone r [] positive started
add_reference-started false r (b ∷ older) positive started = started_with r b older positive started

pub bursts-started : (c : ℕ) (references : List Reference) → IsTimed references → AllStarted (bursts c references)
bursts-started c [] timed = λ place lt. absurd (omega arith)
bursts-started c (r ∷ older) timed = add_reference-started (opens_burst c r older) r (bursts c older) timed.from_one (bursts-started c older timed.older)

-- ---- one more burst, and one more reference in the newest

counted_widths-cons : (b : Burst) (all : List Burst) (place : ℕ) → counted_widths (b ∷ all) (suc place) ≡ (if is_opened_by_hit b then width (burst_at all 0) else 0) + counted_widths all place
counted_widths-cons b all zero = omega arith
counted_widths-cons b all (suc place) = omega (arith, counted_widths-cons b all place)

-- an old stamp put later by a width, unless it is absent
abbrev pub widened : ℕ → ℕ → ℕ
widened w old = if old == 0 then 0 else old + w

-- each stamp moves on by one place, and takes on the width of the burst that was the newest where a hit opens the new one
moved : (b : Burst) (all : List Burst) → AllStarted all → (place : ℕ) → burst_stamp (b ∷ all) (suc place) ≡ widened (if is_opened_by_hit b then width (burst_at all 0) else 0) (burst_stamp all place)
moved b all started place = elim (cases_lt place (length all)) [
  | inl lt ↦
      let there : burst_stamp all place ≡ first_time (burst_at all place) + counted_widths all place = rw (lt-ltb place (length all) lt) refl in
      let some : (burst_stamp all place == 0) ≡ false = ne_eqb _ _ (λ none. omega (arith, started place lt)) in
      rw (some, counted_widths-cons b all, lt-ltb (suc place) (length (b ∷ all)) (omega arith)) (omega arith)
  | inr past ↦
      let absent : burst_stamp all place ≡ 0 = rw (le-ltb place (length all) past) refl in
      rw (absent, le-ltb (suc place) (length (b ∷ all)) (omega arith)) refl
]

counted_widths-with : (r q : Reference) (rest : List Reference) (older : List Burst) (place : ℕ) → counted_widths ((r ∷ q ∷ rest) ∷ older) place ≡ counted_widths ((q ∷ rest) ∷ older) place
counted_widths-with r q rest older zero = refl
counted_widths-with r q rest older (suc zero) = refl
counted_widths-with r q rest older (suc (suc place)) = ap (λ n. n + (if is_opened_by_hit (burst_at older place) then width (burst_at older (suc place)) else 0)) (counted_widths-with r q rest older (suc place))

first_time-with : (r q : Reference) (rest : List Reference) (older : List Burst) (place : ℕ) → first_time (burst_at ((r ∷ q ∷ rest) ∷ older) place) ≡ first_time (burst_at ((q ∷ rest) ∷ older) place)
first_time-with r q rest older zero = refl
first_time-with r q rest older (suc place) = refl

-- one more reference in the newest burst changes no stamp
stays : (r q : Reference) (rest : List Reference) (older : List Burst) (place : ℕ) → burst_stamp ((r ∷ q ∷ rest) ∷ older) place ≡ burst_stamp ((q ∷ rest) ∷ older) place
stays r q rest older place = rw (first_time-with r q rest older place, counted_widths-with r q rest older place) refl

-- the newest stamp is the first time of the newest burst
first_stamp : (b : Burst) (all : List Burst) → burst_stamp (b ∷ all) 0 ≡ first_time b
first_stamp b all = rw (lt-ltb 0 (length (b ∷ all)) (omega arith)) (omega arith)

-- ---- what a reference does

-- a place below K has the stamp of its burst
told : (k c place : ℕ) (references : List Reference) → place < k → stamp k c (suc place) references ≡ burst_stamp (bursts c references) place
told k c place references within = rw (lt-ltb place k within) refl

unwidened : (n : ℕ) → widened 0 n ≡ n
unwidened zero = refl
unwidened (suc n) = rw (ne_eqb (suc n) 0 (λ e. omega arith)) (omega arith)

module _ (k c t : ℕ) where
  -- a hit that opens a burst gives its time, and puts each other stamp later by the width of the newest burst
  pub newest_stamp_at_hit : (r : Reference) (older : List Reference) → 1 ≤ k → nat_lt c (t - time r) ≡ true → stamp k c 1 (hit t ∷ r ∷ older) ≡ t
  newest_stamp_at_hit r older k_positive opens = rw (lt-ltb 0 k k_positive, opens) (first_stamp (hit t ∷ []) (bursts c (r ∷ older)))

  pub stamp_at_hit : (i : ℕ) (r : Reference) (older : List Reference) → IsTimed (r ∷ older) → nat_lt c (t - time r) ≡ true → suc i < k
      → stamp k c (suc (suc i)) (hit t ∷ r ∷ older) ≡ widened (time r - stamp k c 1 (r ∷ older)) (stamp k c (suc i) (r ∷ older))
  stamp_at_hit i r older timed opens within =
      let n = newest c r older in
      let all : List Burst = bursts c (r ∷ older) in
      let cut : bursts c (hit t ∷ r ∷ older) ≡ (hit t ∷ []) ∷ all = ap (λ o. add_reference o (hit t) all) opens in
      let width_is : width (burst_at all 0) ≡ time r - burst_stamp all 0 = rw (n.is, first_stamp (r ∷ n.rest) n.older) refl in
      told k c (suc i) (hit t ∷ r ∷ older) within
      ∙ ap (λ bs. burst_stamp bs (suc i)) cut
      ∙ moved (hit t ∷ []) all (bursts-started c (r ∷ older) timed) i
      ∙ ap (λ w. widened w (burst_stamp all i)) (width_is ∙ ap (λ x. time r - x) (sym (told k c 0 (r ∷ older) (omega arith))))
      ∙ ap (widened (time r - stamp k c 1 (r ∷ older))) (sym (told k c i (r ∷ older) (omega arith)))

  -- a hit within the newest burst changes no stamp
  pub stamp_at_correlated_hit : (i : ℕ) (r : Reference) (older : List Reference) → nat_lt c (t - time r) ≡ false → stamp k c i (hit t ∷ r ∷ older) ≡ stamp k c i (r ∷ older)
  stamp_at_correlated_hit zero r older joins = refl
  stamp_at_correlated_hit (suc i) r older joins =
      let n = newest c r older in
      ap (λ x. if nat_lt i k then x else 0) (rw (joins, n.is) (stays (hit t) r n.rest n.older i))

  -- a fault gives its time, and moves each other stamp by one place
  pub newest_stamp_at_fault : (older : List Reference) → 1 ≤ k → stamp k c 1 (fault t ∷ older) ≡ t
  newest_stamp_at_fault older k_positive = rw (lt-ltb 0 k k_positive) (first_stamp (fault t ∷ []) (bursts c older))

  pub stamp_at_fault : (i : ℕ) (older : List Reference) → IsTimed older → suc i < k → stamp k c (suc (suc i)) (fault t ∷ older) ≡ stamp k c (suc i) older
  stamp_at_fault i older timed within =
      told k c (suc i) (fault t ∷ older) within
      ∙ moved (fault t ∷ []) (bursts c older) (bursts-started c older timed) i
      ∙ unwidened (burst_stamp (bursts c older) i)
      ∙ sym (told k c i older (omega arith))
