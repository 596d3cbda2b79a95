-- The seats in hand: whether a seat is one of them, who goes, and who of them comes first.
use Rattle.std.proofs.Common.{◌≡◌, ◌≢◌, ◌∙◌, ◌⊎◌, ℕ, zero, suc, ◌+◌, ◌<◌, List, Option, Some, None, sym, ap, subst, inl, inr, arith}
use Rattle.std.proofs.lemmas.Bool.{cases_eq}
use Rattle.std.proofs.lemmas.List.{get_or-set_same, get_or-set_other}
use Rattle.std.proofs.lemmas.Option.{none-some}
use Rattle.bp_references.specs.Candidates.{Candidate}
use Rattle.bp_replacer.specs.Seats.{winner, seat_at}
use Rattle.bp_replacer.specs.Hands.{hand_at, InHand, IsFree, IsExchanged, IsAgedAt, IsHeld}
use Rattle.bp_replacer.proofs.SeatLaws.{winner_is, leads_left, leads_right, leads_later}

pub in_hand_or_free : (hands : List ℕ) (k : ℕ) → InHand hands k ⊎ IsFree hands k
in_hand_or_free hands k = up 4
  where
    up : (n : ℕ) → ((i : ℕ) × (i < n) × (hand_at hands i ≡ k)) ⊎ ((i : ℕ) → i < n → hand_at hands i ≢ k)
    up zero = inr (λ i lt. absurd (omega (arith, lt)))
    up (suc n) = elim (cases_eq (hand_at hands n) k) [
      | inl same ↦ inl (n, omega arith, same)
      | inr other ↦ elim (up n) [
        | inl there ↦ inl (there.0, omega (arith, there.1), there.2)
        | inr free ↦ inr (λ i lt. elim (cases_eq i n) [
          | inl is ↦ subst (λ m. hand_at hands m ≢ k) (sym is) other
          | inr less ↦ free i (omega (arith, lt, less))
        ])
      ]
    ]

pub free_not_in_hand : (hands : List ℕ) (k : ℕ) → InHand hands k → IsFree hands k → ⊥
free_not_in_hand hands k there free = free there.0 there.1 there.2

-- whoever is not in hand now, nor went, was not in hand before, nor came
pub exchanged_free : (hands : List ℕ) (seat : ℕ) (hands' : List ℕ) (other : ℕ) → IsExchanged hands seat hands' other → (k : ℕ) → IsFree hands' k → k ≢ other → IsFree hands k
exchanged_free hands seat hands' other x k free apart i lt is = elim x [
  | inl same ↦ free i lt (ap (λ hs. hand_at hs i) same.0 ∙ is)
  | inr t ↦ elim (cases_eq i t.place) [
    | inl here ↦ apart (sym is ∙ ap (hand_at hands) here ∙ t.was)
    | inr there ↦ free i lt (ap (λ hs. hand_at hs i) t.now ∙ get_or-set_other hands t.place i seat 0 there ∙ is)
  ]
]

pub exchanged_apart : (hands : List ℕ) (seat : ℕ) (hands' : List ℕ) (other : ℕ) → IsExchanged hands seat hands' other → (k : ℕ) → IsFree hands' k → k ≢ other → k ≢ seat
exchanged_apart hands seat hands' other x k free apart is = elim x [
  | inl same ↦ apart (is ∙ sym same.1)
  | inr t ↦ free t.place t.in_range (ap (λ hs. hand_at hs t.place) t.now ∙ get_or-set_same hands t.place seat 0 t.is_there ∙ sym is)
]

-- one more in hand
pub held_one_more : (seats : List (Option Candidate)) (hands : List ℕ) (count time : ℕ) (held aged : Option Candidate) → IsHeld seats hands count time held → IsAgedAt seats (hand_at hands count) time aged → IsHeld seats hands (count + 1) time (winner held aged)
held_one_more seats hands count time held aged h a = record {
  there = λ x is. elim (winner_is held aged) [
    | inl which ↦ h.there x (sym which ∙ is)
    | inr which ↦ (let at = a.there x (sym which ∙ is) in (hand_at hands count, at.0, at.1))
  ];
  none_before = λ i lt x here old. elim (cases_eq i count) [
    | inl same ↦
        let is : aged ≡ Some x = a.is x (subst (λ n. seat_at seats (hand_at hands n) ≡ Some x) same here) old in
        subst (λ e. winner (winner held aged) e ≡ winner held aged) is (leads_right held aged)
    | inr other ↦ leads_later (winner held aged) held (Some x) (leads_left held aged) (h.none_before i (omega (arith, lt, other)) x here old)
  ];
}

pub none_held : (seats : List (Option Candidate)) (hands : List ℕ) (time : ℕ) → IsHeld seats hands 0 time None
none_held seats hands time = record {
  there = λ x is. absurd (none-some x is);
  none_before = λ i lt. absurd (omega (arith, lt));
}
