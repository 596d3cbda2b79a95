-- Lists in a strict order, and what an edit leaves of it.
use Rattle.std.proofs.Common.{◌≡◌, ℕ, zero, suc, ◌<◌, ◌≤◌, Bool, true, false, List, [], ◌∷◌, length, filter, get_or, sym, ◌∙◌, subst, inl, inr, arith}
use Rattle.std.specs.List.{insert, remove, AllPairs}
use Rattle.std.specs.List.Sorted.{IsPartitionedBy}
use Rattle.std.proofs.lemmas.Bool.{cases_Bool, cases_lt, cases_order, false≢true}
use Rattle.bp_references.proofs.Lists.{IsIn, in_at, place_in, in_inserted, in_removed, in_filtered}

module _ {X : Type 0} (lt : X → X → Bool) where
  -- each comes before all after it, by look at each in turn
  abbrev pub Ordered : List X → Type 0
  Ordered [] = Unit {0}
  Ordered (x ∷ xs) = ((y : X) → IsIn y xs → lt x y ≡ true) × Ordered xs

  pub ordered_from_pairs : (xs : List X) → AllPairs (λ a b. lt a b ≡ true) xs → Ordered xs
  ordered_from_pairs [] pairs = tt
  ordered_from_pairs (x ∷ xs) pairs = (
    λ y there. (let at = place_in xs y there in subst (λ z. lt x z ≡ true) (at.2 y) (pairs zero (suc at.0) y (omega arith) (omega (arith, at.1)))),
    ordered_from_pairs xs (λ i j d less in_range. pairs (suc i) (suc j) d (omega arith) (omega arith)),
  )

  pub pairs_from_ordered : (xs : List X) → Ordered xs → AllPairs (λ a b. lt a b ≡ true) xs
  pairs_from_ordered [] ordered i j d less in_range = absurd (omega arith)
  pairs_from_ordered (x ∷ xs) ordered zero zero d less in_range = absurd (omega arith)
  pairs_from_ordered (x ∷ xs) ordered zero (suc j) d less in_range = ordered.0 (get_or xs j d) (in_at xs j d (omega arith))
  pairs_from_ordered (x ∷ xs) ordered (suc i) zero d less in_range = absurd (omega arith)
  pairs_from_ordered (x ∷ xs) ordered (suc i) (suc j) d less in_range = pairs_from_ordered xs ordered.1 i j d (omega arith) (omega arith)

  -- ---- edits

  -- a new element after those that come before it, and before the others
  inserted : (xs : List X) (at : ℕ) (x : X) → Ordered xs → ((k : ℕ) (d : X) → k < at → k < length xs → lt (get_or xs k d) x ≡ true) → ((k : ℕ) (d : X) → at ≤ k → k < length xs → lt x (get_or xs k d) ≡ true) → Ordered (insert xs at x)
  inserted xs zero x ordered before after = (λ y there. (let at = place_in xs y there in subst (λ z. lt x z ≡ true) (at.2 y) (after at.0 y (omega arith) at.1)), ordered)
  inserted [] (suc at) x ordered before after = (λ y there. absurd there, tt)
  inserted (z ∷ zs) (suc at) x ordered before after = (
    λ y there. elim (in_inserted zs at x y there) [
      | inl is ↦ subst (λ w. lt z w ≡ true) is (before zero x (omega arith) (omega arith))
      | inr old ↦ ordered.0 y old
    ],
    inserted zs at x ordered.1 (λ k d less in_range. before (suc k) d (omega arith) (omega arith)) (λ k d le in_range. after (suc k) d (omega arith) (omega arith)),
  )

  removed : (xs : List X) (at : ℕ) → Ordered xs → Ordered (remove xs at)
  removed [] zero ordered = tt
  removed [] (suc at) ordered = tt
  removed (x ∷ xs) zero ordered = ordered.1
  removed (x ∷ xs) (suc at) ordered = (λ y there. ordered.0 y (in_removed xs at y there), removed xs at ordered.1)

  filtered : (p : X → Bool) (xs : List X) → Ordered xs → Ordered (filter p xs)
  filtered p [] ordered = tt
  filtered p (x ∷ xs) ordered = elim (cases_Bool (p x)) [
    | inl stays ↦ rw stays (λ y there. ordered.0 y (in_filtered p xs y there).0, filtered p xs ordered.1)
    | inr goes ↦ rw goes (filtered p xs ordered.1)
  ]

  pub pairs_inserted : (xs : List X) (at : ℕ) (x : X) → AllPairs (λ a b. lt a b ≡ true) xs → ((k : ℕ) (d : X) → k < at → k < length xs → lt (get_or xs k d) x ≡ true) → ((k : ℕ) (d : X) → at ≤ k → k < length xs → lt x (get_or xs k d) ≡ true)
      → AllPairs (λ a b. lt a b ≡ true) (insert xs at x)
  pairs_inserted xs at x pairs before after = pairs_from_ordered (insert xs at x) (inserted xs at x (ordered_from_pairs xs pairs) before after)

  pub pairs_removed : (xs : List X) (at : ℕ) → AllPairs (λ a b. lt a b ≡ true) xs → AllPairs (λ a b. lt a b ≡ true) (remove xs at)
  pairs_removed xs at pairs = pairs_from_ordered (remove xs at) (removed xs at (ordered_from_pairs xs pairs))

  pub pairs_filtered : (p : X → Bool) (xs : List X) → AllPairs (λ a b. lt a b ≡ true) xs → AllPairs (λ a b. lt a b ≡ true) (filter p xs)
  pairs_filtered p xs pairs = pairs_from_ordered (filter p xs) (filtered p xs (ordered_from_pairs xs pairs))

  -- ---- places

  module _ (transitive : (a b c : X) → lt a b ≡ true → lt b c ≡ true → lt a c ≡ true) (xs : List X) (pairs : AllPairs (λ a b. lt a b ≡ true) xs) where
    -- those before x come first
    pub before_partitions : (x : X) → IsPartitionedBy (λ e. lt e x) xs
    before_partitions x i j d le in_range before = elim (cases_lt i j) [
      | inl less ↦ transitive (get_or xs i d) (get_or xs j d) x (pairs i j d less in_range) before
      | inr ge ↦ (let is : i ≡ j = omega arith in rw is before)
    ]

    -- the place for an element of the list is its own
    pub place_is : (irreflexive : (a : X) → lt a a ≡ false) (x : X) (at i : ℕ) → ((k : ℕ) (d : X) → k < at → lt (get_or xs k d) x ≡ true) → ((k : ℕ) (d : X) → at ≤ k → k < length xs → lt (get_or xs k d) x ≡ false) → i < length xs → ((d : X) → get_or xs i d ≡ x) → at ≡ i
    place_is irreflexive x at i before not_before in_range here = elim (cases_order at i) [
      | inl is ↦ is
      | inr differ ↦ elim differ [
        | inl less ↦ absurd (false≢true (sym (not_before at x (omega arith) (omega arith)) ∙ subst (λ y. lt (get_or xs at x) y ≡ true) (here x) (pairs at i x less in_range)))
        | inr more ↦ absurd (false≢true (sym (irreflexive x) ∙ subst (λ y. lt y x ≡ true) (here x) (before i x more)))
      ]
    ]
