-- The elements of a list, by look at each in turn and by places.
use Rattle.std.proofs.Common.{◌≡◌, ◌⊎◌, ℕ, zero, suc, ◌<◌, Bool, true, List, [], ◌∷◌, length, filter, get_or, sym, ◌∙◌, ap, subst, refl, inl, inr, arith}
use Rattle.std.specs.List.{insert, remove, Contains}
use Rattle.std.proofs.lemmas.Bool.{cases_Bool}

module _ {X : Type 0} where
  abbrev pub IsIn : X → List X → Type 0
  IsIn x [] = ⊥
  IsIn x (y ∷ ys) = (y ≡ x) ⊎ IsIn x ys

  -- ---- by places

  pub in_at : (xs : List X) (i : ℕ) (d : X) → i < length xs → IsIn (get_or xs i d) xs
  in_at [] i d lt = absurd (omega arith)
  in_at (x ∷ xs) zero d lt = inl refl
  in_at (x ∷ xs) (suc i) d lt = inr (in_at xs i d (omega arith))

  pub place_in : (xs : List X) (x : X) → IsIn x xs → (i : ℕ) × (i < length xs) × ((d : X) → get_or xs i d ≡ x)
  place_in [] x there = absurd there
  place_in (y ∷ ys) x (inl is) = (zero, omega arith, λ d. is)
  place_in (y ∷ ys) x (inr there) = let at = place_in ys x there in (suc at.0, omega (arith, at.1), at.2)

  -- ---- edits

  pub in_inserted : (xs : List X) (i : ℕ) (y x : X) → IsIn x (insert xs i y) → (y ≡ x) ⊎ IsIn x xs
  in_inserted xs zero y x there = there
  in_inserted [] (suc i) y x there = there
  in_inserted (z ∷ zs) (suc i) y x (inl is) = inr (inl is)
  in_inserted (z ∷ zs) (suc i) y x (inr there) = elim (in_inserted zs i y x there) [ inl is ↦ inl is | inr old ↦ inr (inr old) ]

  pub in_removed : (xs : List X) (i : ℕ) (x : X) → IsIn x (remove xs i) → IsIn x xs
  in_removed [] zero x there = there
  in_removed [] (suc i) x there = there
  in_removed (y ∷ ys) zero x there = inr there
  in_removed (y ∷ ys) (suc i) x (inl is) = inl is
  in_removed (y ∷ ys) (suc i) x (inr there) = inr (in_removed ys i x there)

  -- ---- filters

  pub in_filtered : (p : X → Bool) (xs : List X) (x : X) → IsIn x (filter p xs) → IsIn x xs × (p x ≡ true)
  in_filtered p [] x there = absurd there
  in_filtered p (y ∷ ys) x there = elim (cases_Bool (p y)) [
    | inl passes ↦ elim (rw passes at there) [
      | inl is ↦ (inl is, ap p (sym is) ∙ passes)
      | inr rest ↦ (let found = in_filtered p ys x rest in (inr found.0, found.1))
    ]
    | inr fails ↦ (let found = in_filtered p ys x (rw fails at there) in (inr found.0, found.1))
  ]

  pub filtered_in : (p : X → Bool) (xs : List X) (x : X) → IsIn x xs → p x ≡ true → IsIn x (filter p xs)
  filtered_in p [] x there passes = absurd there
  filtered_in p (y ∷ ys) x (inl is) passes = rw (ap p is ∙ passes) (inl is)
  filtered_in p (y ∷ ys) x (inr there) passes = elim (cases_Bool (p y)) [
    | inl stays ↦ rw stays (inr (filtered_in p ys x there passes))
    | inr goes ↦ rw goes (filtered_in p ys x there passes)
  ]

  -- ---- and `Contains`

  pub in_contained : (xs : List X) (x : X) → Contains xs x → IsIn x xs
  in_contained xs x there = subst (λ y. IsIn y xs) there.2 (in_at xs there.0 x there.1)

  -- what is elsewhere is left where one element is taken out
  pub in_rest : (xs : List X) (i : ℕ) (d x : X) → i < length xs → (get_or xs i d ≡ x → ⊥) → IsIn x xs → IsIn x (remove xs i)
  in_rest [] i d x lt other there = absurd there
  in_rest (y ∷ ys) zero d x lt other (inl is) = absurd (other is)
  in_rest (y ∷ ys) zero d x lt other (inr there) = there
  in_rest (y ∷ ys) (suc i) d x lt other (inl is) = inl is
  in_rest (y ∷ ys) (suc i) d x lt other (inr there) = inr (in_rest ys i d x (omega arith) other there)
