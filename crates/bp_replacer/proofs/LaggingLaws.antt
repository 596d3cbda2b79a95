-- A tree that lags behind the seats: who comes first in it, and how far behind it is.
use Rattle.std.proofs.Common.{◌≡◌, true, false, Option, Some, None, refl, sym, ap, subst, arith}
use Rattle.std.proofs.lemmas.Bool.{eq-eqb, true≢false}
use Rattle.std.proofs.lemmas.Bool.Decides.{nat_tests}
use Rattle.std.proofs.lemmas.Option.{none-some, same_Some}
use Rattle.bp_references.specs.Candidates.{Candidate, is_before}
use Rattle.bp_replacer.specs.Seats.{same_seat, Lags}
use Rattle.bp_references.proofs.VictimLaws.{not_before_itself}

-- ---- two that are the same

pub alike_seats : (a b : Option Candidate) → same_seat a b ≡ true → a ≡ b
alike_seats None None same = refl
alike_seats None (Some b) same = absurd (true≢false (sym same))
alike_seats (Some a) None same = absurd (true≢false (sym same))
alike_seats (Some a) (Some b) same =
    let stamp : a.0 ≡ b.0 = grind (arith, nat_tests) in
    let last : a.1 ≡ b.1 = grind (arith, nat_tests) in
    let page : a.2 ≡ b.2 = grind (arith, nat_tests) in
    λ i. Some (stamp i, last i, page i)

pub itself : (a : Option Candidate) → same_seat a a ≡ true
itself None = refl
itself (Some a) = rw (eq-eqb a.0 a.0 refl, eq-eqb a.1 a.1 refl, eq-eqb a.2 a.2 refl) refl

-- ---- what may lag

pub settled_lags : (here : Option Candidate) → Lags here here
settled_lags None = refl
settled_lags (Some x) = record {
  not_before = λ y is. subst (λ z. is_before z x ≡ false) (same_Some x y is) (not_before_itself x);
  no_earlier = λ y is. omega (arith, ap (λ (c : Candidate). c.1) (same_Some x y is));
}

pub nobody_lags : (known : Option Candidate) → Lags known None
nobody_lags None = refl
nobody_lags (Some x) = record { not_before = λ y is. absurd (none-some y is); no_earlier = λ y is. absurd (none-some y is) }
