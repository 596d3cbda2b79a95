-- Who comes first of two seats.
use Rattle.std.proofs.Common.{◌≡◌, ◌⊎◌, ℕ, ◌<◌, true, false, List, length, Option, Some, None, refl, sym, ap, ◌∙◌, subst, inl, inr, arith}
use Rattle.std.proofs.lemmas.Bool.{cases_Bool, cases_lt, true≢false}
use Rattle.std.proofs.lemmas.Bool.Decides.{nat_tests}
use Rattle.std.proofs.lemmas.Option.{none-some, same_Some}
use Rattle.std.proofs.lemmas.List.{get_or_past}
use Rattle.bp_references.specs.Candidates.{Candidate, is_before}
use Rattle.bp_replacer.specs.Seats.{winner, seat_at}
use Rattle.bp_references.proofs.VictimLaws.{not_before_itself, not_before_earlier, not_both}

-- ---- of two

pub winner_is : (a b : Option Candidate) → (winner a b ≡ a) ⊎ (winner a b ≡ b)
winner_is None b = inr refl
winner_is (Some a) None = inl refl
winner_is (Some a) (Some b) = elim (cases_Bool (is_before b a)) [
  | inl lower ↦ inr (rw lower refl)
  | inr higher ↦ inl (rw higher refl)
]

pub not_before_winner : (a b : Candidate) → winner (Some a) (Some b) ≡ Some a → is_before b a ≡ false
not_before_winner a b leads = elim (cases_Bool (is_before b a)) [
  | inr higher ↦ higher
  | inl lower ↦ (let same : b ≡ a = same_Some b a (rw lower at leads) in subst (λ x. is_before x a ≡ false) (sym same) (not_before_itself a))
]

pub winner_from_not_before : (a b : Candidate) → is_before b a ≡ false → winner (Some a) (Some b) ≡ Some a
winner_from_not_before a b not = rw not refl

pub leads_itself : (a : Option Candidate) → winner a a ≡ a
leads_itself None = refl
leads_itself (Some a) = winner_from_not_before a a (not_before_itself a)

pub winner_swapped : (a b : Option Candidate) → winner a b ≡ winner b a
winner_swapped None None = refl
winner_swapped None (Some b) = refl
winner_swapped (Some a) None = refl
winner_swapped (Some a) (Some b) = elim (cases_Bool (is_before b a)) [
  | inl lower ↦ (let later = not_both b a lower in rw (lower, later) refl)
  | inr higher ↦ elim (cases_Bool (is_before a b)) [
    | inl lower ↦ rw (higher, lower) refl
    | inr same ↦ rw (higher, same) (ap Some (alike a b higher same))
  ]
]
  where
    alike : (a b : Candidate) → is_before b a ≡ false → is_before a b ≡ false → a ≡ b
    alike a b ba ab =
        let stamp : a.0 ≡ b.0 = grind (arith, nat_tests) in
        let last : a.1 ≡ b.1 = grind (arith, nat_tests) in
        let page : a.2 ≡ b.2 = grind (arith, nat_tests) in
        λ i. (stamp i, last i, page i)

-- the winner leads both
pub leads_left : (a b : Option Candidate) → winner (winner a b) a ≡ winner a b
leads_left None None = refl
leads_left None (Some b) = refl
leads_left (Some a) None = leads_itself (Some a)
leads_left (Some a) (Some b) = elim (cases_Bool (is_before b a)) [
  | inl lower ↦ rw lower (winner_from_not_before b a (later a b lower))
  | inr higher ↦ rw higher (leads_itself (Some a))
]
  where
    later : (a b : Candidate) → is_before b a ≡ true → is_before a b ≡ false
    later a b lower = elim (cases_Bool (is_before a b)) [
      | inr higher ↦ higher
      | inl sooner ↦ absurd (true≢false (sym lower ∙ not_both a b sooner))
    ]

pub leads_right : (a b : Option Candidate) → winner (winner a b) b ≡ winner a b
leads_right None b = leads_itself b
leads_right (Some a) None = refl
leads_right (Some a) (Some b) = elim (cases_Bool (is_before b a)) [
  | inl lower ↦ rw lower (leads_itself (Some b))
  | inr higher ↦ rw higher (winner_from_not_before a b higher)
]

pub leads_later : (c b a : Option Candidate) → winner c b ≡ c → winner b a ≡ b → winner c a ≡ c
leads_later None b a cb ba = sym (ap (λ x. winner x a) cb) ∙ ba ∙ cb
leads_later (Some c) None a cb ba = ap (winner (Some c)) ba ∙ cb
leads_later (Some c) (Some b) None cb ba = refl
leads_later (Some c) (Some b) (Some a) cb ba = winner_from_not_before c a (not_before_earlier a b c (not_before_winner b a ba) (not_before_winner c b cb))

-- ---- at seats

pub seat_within : (seats : List (Option Candidate)) (k : ℕ) (x : Candidate) → seat_at seats k ≡ Some x → k < length seats
seat_within seats k x is = elim (cases_lt k (length seats)) [
  | inl lt ↦ lt
  | inr ge ↦ absurd (none-some x (sym (get_or_past seats k None ge) ∙ is))
]
