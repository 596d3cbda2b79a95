-- The first of a block, while a scan goes over its seats.
use Rattle.std.proofs.Common.{◌≡◌, ◌⊎◌, ℕ, ◌+◌, ◌*◌, ◌/◌, ◌<◌, ◌≤◌, nat_lt, true, false, min, List, length, set, Option, Some, None, refl, sym, ap, ◌∙◌, subst, inl, inr, arith}
use Rattle.std.proofs.lemmas.Bool.{cases_eq, cases_lt}
use Rattle.std.proofs.lemmas.Bool.Decides.{nat_tests}
use Rattle.std.proofs.lemmas.Option.{none-some}
use Rattle.std.proofs.lemmas.List.{get_or_past, get_or-set_other, length-set}
use Rattle.bp_references.specs.Candidates.{Candidate}
use Rattle.bp_replacer.specs.Seats.{winner, seat_at}
use Rattle.bp_replacer.specs.Tree.{is_aged, stamp_at, last_at, IsLeader, IsFirstOfBlock, IsFirstIn}
use Rattle.bp_replacer.specs.declared.block.Leader.{Leader}
use Rattle.bp_replacer.proofs.SeatLaws.{winner_is, leads_left, leads_right, leads_later, seat_within}

pub nobody_before : (a : Option Candidate) → winner a None ≡ a
nobody_before None = refl
nobody_before (Some x) = refl

-- ---- the first of all

-- nobody from the start of the block up to this seat comes before whoever stands at the other
pub record Leads (seats : List (Option Candidate)) (block upto seat : ℕ) : Type 0 where
  pub inside : seat < length seats → (seat / 16 ≡ block) × (seat < upto)
  pub first : (k : ℕ) → 16 * block ≤ k → k < upto → winner (seat_at seats seat) (seat_at seats k) ≡ seat_at seats seat

pub leads_none : (seats : List (Option Candidate)) (block seat : ℕ) → length seats ≤ seat → Leads seats block (16 * block) seat
leads_none seats block seat past = record {
  inside = λ lt. absurd (omega arith);
  first = λ k from below. absurd (omega arith);
}

-- one seat more
pub leads_more : (seats : List (Option Candidate)) (block upto a w : ℕ) → 16 * block ≤ upto → upto < 16 * block + 16 → Leads seats block upto a → (w ≡ a) ⊎ (w ≡ upto) → seat_at seats w ≡ winner (seat_at seats a) (seat_at seats upto) → Leads seats block (upto + 1) w
leads_more seats block upto a w from below l either first = record {
  inside = λ lt. elim either [
    | inl old ↦ (let inside = l.inside (omega (arith, old)) in (ap (λ n. n / 16) old ∙ inside.0, omega (arith, old, inside.1)))
    | inr new ↦ (omega (arith, new), omega (arith, new))
  ];
  first = λ k start less. subst (λ (e : Option Candidate). winner e (seat_at seats k) ≡ e) (sym first) (elim (cases_eq k upto) [
    | inl is ↦ subst (λ n. winner (winner (seat_at seats a) (seat_at seats upto)) (seat_at seats n) ≡ winner (seat_at seats a) (seat_at seats upto)) (sym is) (leads_right (seat_at seats a) (seat_at seats upto))
    | inr apart ↦ leads_later (winner (seat_at seats a) (seat_at seats upto)) (seat_at seats a) (seat_at seats k) (leads_left (seat_at seats a) (seat_at seats upto)) (l.first k start (omega arith))
  ]);
}

-- all of the block
pub leads_block : (seats : List (Option Candidate)) (block upto seat : ℕ) → min (16 * block + 16) (length seats) ≤ upto → Leads seats block upto seat → IsFirstOfBlock seats block seat
leads_block seats block upto seat end l = record {
  inside = λ lt. (l.inside lt).0;
  first = λ k here. elim (cases_lt k upto) [
    | inl less ↦ l.first k (omega (arith, here)) less
    | inr past ↦ subst (λ (e : Option Candidate). winner (seat_at seats seat) e ≡ seat_at seats seat) (sym (get_or_past seats k None (omega (arith, here, end)))) (nobody_before (seat_at seats seat))
  ];
}

-- the next seat is changed
pub leads_put : (seats : List (Option Candidate)) (block upto seat : ℕ) (e : Option Candidate) → upto < length seats → Leads seats block upto seat → Leads (set seats upto e) block upto seat
leads_put seats block upto seat e lt l = record {
  inside = λ within. l.inside (omega (arith, length-set seats upto e));
  first = λ k from less. (λ j. winner (own j) (get_or-set_other seats upto k e None (omega arith) j)) ∙ l.first k from less ∙ sym own;
}
  where
    own : seat_at (set seats upto e) seat ≡ seat_at seats seat
    own = get_or-set_other seats upto seat e None (λ is. (let inside = l.inside (omega (arith, is)) in omega (arith, inside.1, is)))

pub leader_put : (seats : List (Option Candidate)) (block upto : ℕ) (l : Leader) (e : Option Candidate) → upto < length seats → Leads seats block upto l.seat → IsLeader seats l → IsLeader (set seats upto e) l
leader_put seats block upto l e lt leads known = record { stamp = known.stamp ∙ ap stamp_at (sym own); last = known.last ∙ ap last_at (sym own) }
  where
    own : seat_at (set seats upto e) l.seat ≡ seat_at seats l.seat
    own = get_or-set_other seats upto l.seat e None (λ is. (let inside = leads.inside (omega (arith, is)) in omega (arith, inside.1, is)))

-- ---- the first of those last referenced before a time

pub aged_some : (time : ℕ) (e : Option Candidate) → is_aged time e ≡ true → (x : Candidate) → e ≡ Some x → x.1 < time
aged_some time e aged x is = (let old : nat_lt x.1 time ≡ true = ap (is_aged time) (sym is) ∙ aged in grind (arith, nat_tests))

pub young_some : (time : ℕ) (e : Option Candidate) → is_aged time e ≡ false → (x : Candidate) → e ≡ Some x → time ≤ x.1
young_some time e young x is = (let late : nat_lt x.1 time ≡ false = ap (is_aged time) (sym is) ∙ young in grind (arith, nat_tests))

pub record LeadsAged (seats : List (Option Candidate)) (block upto time : ℕ) (first : Option Candidate) : Type 0 where
  pub there : (x : Candidate) → first ≡ Some x → (k : ℕ) × (k / 16 ≡ block) × (seat_at seats k ≡ Some x) × (x.1 < time)
  pub none_before : (k : ℕ) (x : Candidate) → 16 * block ≤ k → k < upto → seat_at seats k ≡ Some x → x.1 < time → winner first (Some x) ≡ first

pub aged_none : (seats : List (Option Candidate)) (block time seat : ℕ) → length seats ≤ seat → LeadsAged seats block (16 * block) time (seat_at seats seat)
aged_none seats block time seat past = record {
  there = λ x is. absurd (none-some x (sym (get_or_past seats seat None past) ∙ is));
  none_before = λ k x from less. absurd (omega arith);
}

pub aged_more : (seats : List (Option Candidate)) (block upto time : ℕ) (a w : Option Candidate) → 16 * block ≤ upto → upto < 16 * block + 16 → LeadsAged seats block upto time a → ((x : Candidate) → seat_at seats upto ≡ Some x → x.1 < time) → w ≡ winner a (seat_at seats upto) → LeadsAged seats block (upto + 1) time w
aged_more seats block upto time a w from below l aged first = subst (LeadsAged seats block (upto + 1) time) (sym first) (record {
  there = λ x is. elim (winner_is a (seat_at seats upto)) [
    | inl old ↦ l.there x (sym old ∙ is)
    | inr new ↦ (upto, omega arith, sym new ∙ is, aged x (sym new ∙ is))
  ];
  none_before = λ k x start less is old. elim (cases_eq k upto) [
    | inl here ↦ subst (λ (e : Option Candidate). winner (winner a (seat_at seats upto)) e ≡ winner a (seat_at seats upto)) (ap (seat_at seats) (sym here) ∙ is) (leads_right a (seat_at seats upto))
    | inr apart ↦ leads_later (winner a (seat_at seats upto)) a (Some x) (leads_left a (seat_at seats upto)) (l.none_before k x start (omega arith) is old)
  ];
})

-- one that was not
pub aged_less : (seats : List (Option Candidate)) (block upto time : ℕ) (a : Option Candidate) → LeadsAged seats block upto time a → ((x : Candidate) → seat_at seats upto ≡ Some x → time ≤ x.1) → LeadsAged seats block (upto + 1) time a
aged_less seats block upto time a l young = record {
  there = l.there;
  none_before = λ k x start less is old. elim (cases_eq k upto) [
    | inl here ↦ absurd (omega (arith, old, young x (ap (seat_at seats) (sym here) ∙ is)))
    | inr apart ↦ l.none_before k x start (omega arith) is old
  ];
}

pub aged_block : (seats : List (Option Candidate)) (block upto time : ℕ) (first : Option Candidate) → min (16 * block + 16) (length seats) ≤ upto → LeadsAged seats block upto time first → IsFirstIn seats block (λ x. x.1 < time) first
aged_block seats block upto time first end l = record {
  there = l.there;
  none_before = λ k x here is old. l.none_before k x (omega (arith, here)) (omega (arith, here, end, seat_within seats k x is)) is old;
}
