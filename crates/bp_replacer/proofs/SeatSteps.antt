-- Candidates at seats: who is seated, and the victim among them.
use Rattle.std.proofs.Common.{◌≡◌, ℕ, zero, suc, ◌-◌, ◌<◌, nat_lt, Bool, true, false, List, [], ◌∷◌, length, filter, Option, Some, None, refl, sym, ap, inl, inr, arith}
use Rattle.std.proofs.lemmas.Bool.{cases_Bool, lt-ltb}
use Rattle.std.proofs.lemmas.Bool.Decides.{nat_tests}
use Rattle.std.proofs.lemmas.Option.{none-some, same_Some}
use Rattle.bp_references.specs.Candidates.{Candidate, is_eligible, IsVictim, NoPageTwice}
use Rattle.bp_replacer.specs.Seats.{Seated, entered, seated_in, IsFirst, seat_at}
use Rattle.bp_references.proofs.Lists.{IsIn, in_filtered, filtered_in}
use Rattle.bp_replacer.proofs.SeatLaws.{not_before_winner}
use Rattle.bp_references.proofs.VictimLaws.{is_old, earliest_victim, none_eligible}

-- ---- who is seated

pub in_seated : (seats : List (Option Candidate)) (x : Candidate) → IsIn x (seated_in seats) → (k : ℕ) × (k < length seats) × (seat_at seats k ≡ Some x)
in_seated [] x there = absurd there
in_seated (None ∷ seats) x there = let found = in_seated seats x there in (suc found.0, omega (arith, found.1), found.2)
in_seated (Some e ∷ seats) x (inl is) = (zero, omega arith, ap Some is)
in_seated (Some e ∷ seats) x (inr there) = let found = in_seated seats x there in (suc found.0, omega (arith, found.1), found.2)

pub seated_at : (seats : List (Option Candidate)) (k : ℕ) (x : Candidate) → seat_at seats k ≡ Some x → IsIn x (seated_in seats)
seated_at [] k x is = absurd (none-some x is)
seated_at (None ∷ seats) zero x is = absurd (none-some x is)
seated_at (Some e ∷ seats) zero x is = inl (same_Some e x is)
seated_at (None ∷ seats) (suc k) x is = seated_at seats k x is
seated_at (Some e ∷ seats) (suc k) x is = inr (seated_at seats k x is)

filter_nothing : (p : Candidate → Bool) (xs : List Candidate) → ((x : Candidate) → IsIn x xs → p x ≡ false) → filter p xs ≡ []
filter_nothing p [] fails = refl
filter_nothing p (x ∷ xs) fails = let this = fails x (inl refl) in rw this (filter_nothing p xs (λ y there. fails y (inr there)))

-- ---- the victim

-- more than the period before t
old_before : (period t last : ℕ) → nat_lt period (t - last) ≡ true → last < t - period
old_before period t last old = grind (arith, nat_tests)

before_old : (period t last : ℕ) → last < t - period → nat_lt period (t - last) ≡ true
before_old period t last before = lt-ltb period (t - last) (omega arith)

module _ (c : Seated) (t : ℕ) (once : NoPageTwice (seated_in c.seats)) where
  pub first_victim : (m : Candidate) → IsFirst c.seats (λ x. x.1 < t - c.correlated) (Some m) → IsVictim (entered c) t m.2
  first_victim m first = earliest_victim (entered c) t once m (record {
    there =
        let at = first.there m refl in
        filtered_in (is_old c.correlated t) (seated_in c.seats) m (seated_at c.seats at.0 m at.1) (before_old c.correlated t m.1 at.2);
    none_before = λ x there.
        let kept = in_filtered (is_old c.correlated t) (seated_in c.seats) x there in
        let at = in_seated c.seats x kept.0 in
        not_before_winner m x (first.none_before at.0 x at.2 (old_before c.correlated t x.1 kept.1));
  })

  pub no_victim : IsFirst c.seats (λ x. x.1 < t - c.correlated) None → (page : ℕ) → is_eligible (entered c) t page ≡ false
  no_victim first = none_eligible (entered c) t once (filter_nothing (is_old c.correlated t) (seated_in c.seats) (λ x there. elim (cases_Bool (is_old c.correlated t x)) [
    | inr fails ↦ fails
    | inl passes ↦ (let at = in_seated c.seats x there in absurd (none-some x (sym (first.none_before at.0 x at.2 (old_before c.correlated t x.1 passes)))))
  ]))
