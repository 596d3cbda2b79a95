-- Lists in the order of a number of their elements: halving finds a place, and one element more or fewer keeps the order.
use Rattle.std.proofs.Common.{◌≡◌, ◌≢◌, ℕ, zero, suc, ◌+◌, ◌-◌, ◌<◌, ◌≤◌, nat_lt, Bool, true, false, ◌||◌, cond, List, [], ◌∷◌, ◌++◌, length, length-append, get_or, set, filter, refl, sym, ap, ◌∙◌, subst, inl, inr, arith}
use Rattle.std.specs.Prelude.{All}
use Rattle.std.specs.List.{insert, remove}
use Rattle.std.specs.List.Sorted.{IsPartitionedBy, IsPartitionPoint}
use Rattle.std.proofs.lemmas.Bool.{cases_lt, cases_order, lt-ltb, ltb-true, ltb-false}
use Rattle.std.proofs.lemmas.List.Edits.{length-insert, get_or-insert_below, get_or-insert_at, get_or-insert_above, length-remove, get_or-remove_below, get_or-remove_above}
use Rattle.std.proofs.lemmas.List.{get_or_push, get_or_default, get_or-set_other, length-set}
use Rattle.std.proofs.lemmas.List.Elements.{All-filter}
use Rattle.std.proofs.lemmas.Grind.{get_or-set_at}
use Rattle.bp_frames.specs.Rising.{IsRisingBy, IsPlaceFor, StandsAt, StandsNowhere}
use Rattle.bp_trail.specs.Lists.{some}
use Rattle.bp_trail.proofs.Counting.{get-left}

module _ {X : Type 0} where
  pub some-none : (p : X → Bool) (xs : List X) → ((k : ℕ) (e : X) → k < length xs → p (get_or xs k e) ≡ false) → some p xs ≡ false
  some-none p [] none = refl
  some-none p (x ∷ xs) none = ap (λ b. b || some p xs) (none 0 x (omega arith)) ∙ some-none p xs (λ k e l. none (suc k) e (omega arith))

  -- one element alone may pass
  pub some-alone : (p : X → Bool) (xs : List X) (at : ℕ) (d : X) → at < length xs → ((k : ℕ) (e : X) → k < length xs → k ≢ at → p (get_or xs k e) ≡ false) → some p xs ≡ p (get_or xs at d)
  some-alone p [] at d lt others = absurd (omega arith)
  some-alone p (x ∷ xs) zero d lt others = ap (λ b. p x || b) (some-none p xs (λ k e l. others (suc k) e (omega arith) (λ i. absurd (omega (arith, i))))) ∙ or-false (p x)
    where
      or-false : (b : Bool) → (b || false) ≡ b
      or-false true = refl
      or-false false = refl
  some-alone p (x ∷ xs) (suc at) d lt others =
      ap (λ b. b || some p xs) (others 0 x (omega arith) (λ i. absurd (omega (arith, i))))
      ∙ some-alone p xs at d (omega arith) (λ k e l n. others (suc k) e (omega arith) (λ i. n (omega (arith, i))))

  -- a filter that one element alone fails
  pub filter-all : (p : X → Bool) (xs : List X) → ((k : ℕ) (e : X) → k < length xs → p (get_or xs k e) ≡ true) → filter p xs ≡ xs
  filter-all p [] all = refl
  filter-all p (x ∷ xs) all = ap (λ b. cond b (x ∷ filter p xs) (filter p xs)) (all 0 x (omega arith)) ∙ ap (λ ys. x ∷ ys) (filter-all p xs (λ k e l. all (suc k) e (omega arith)))

  pub filter-but_one : (p : X → Bool) (xs : List X) (at : ℕ) (d : X) → at < length xs → p (get_or xs at d) ≡ false → ((k : ℕ) (e : X) → k < length xs → k ≢ at → p (get_or xs k e) ≡ true) → filter p xs ≡ remove xs at
  filter-but_one p [] at d lt fails others = absurd (omega arith)
  filter-but_one p (x ∷ xs) zero d lt fails others =
      ap (λ b. cond b (x ∷ filter p xs) (filter p xs)) fails ∙ filter-all p xs (λ k e l. others (suc k) e (omega arith) (λ i. absurd (omega (arith, i))))
  filter-but_one p (x ∷ xs) (suc at) d lt fails others =
      ap (λ b. cond b (x ∷ filter p xs) (filter p xs)) (others 0 x (omega arith) (λ i. absurd (omega (arith, i))))
      ∙ ap (λ ys. x ∷ ys) (filter-but_one p xs at d (omega arith) fails (λ k e l n. others (suc k) e (omega arith) (λ i. n (omega (arith, i)))))

-- what halving by `below n` finds
pub place-from_partition : {X : Type 0} (key : X → ℕ) (xs : List X) (n at : ℕ) → at ≤ length xs → IsPartitionPoint (λ x. nat_lt (key x) n ≡ true) (λ x. nat_lt (key x) n ≡ false) xs at → IsPlaceFor key xs n at
place-from_partition key xs n at bound parts = record {
  in_range = bound;
  below = λ k d lt. ltb-true (key (get_or xs k d)) n (parts.0 k d (omega arith) lt);
  not_below = λ k d le lt. ltb-false (key (get_or xs k d)) n (parts.1 k d le lt);
}

module _ {X : Type 0} (key : X → ℕ) (xs : List X) (rising : IsRisingBy key xs) where
  pub rising-partitions : (n : ℕ) → IsPartitionedBy (λ x. nat_lt (key x) n) xs
  rising-partitions n i j d le in_range below = elim (cases_lt i j) [
    | inl less ↦ lt-ltb (key (get_or xs i d)) n (omega (arith, rising i j d less in_range, ltb-true (key (get_or xs j d)) n below))
    | inr ge ↦ let is : i ≡ j = omega arith in rw is below
  ]

  -- the place for a number is that of the element with the number, if there is one
  pub stands-at : (n at : ℕ) (d : X) → IsPlaceFor key xs n at → at < length xs → key (get_or xs at d) ≡ n → StandsAt key xs n at
  stands-at n at d place lt is = record {
    in_range = lt;
    here = λ e. same e;
    alone = λ k e l other here. elim (cases_order k at) [
      | inl same ↦ other same
      | inr differ ↦ elim differ [
        | inl less ↦ absurd (omega (arith, place.below k e less, here))
        | inr more ↦ absurd (omega (arith, rising at k e more l, same e, here))
      ]
    ];
  }
    where
      same : (e : X) → key (get_or xs at e) ≡ n
      same e = ap key (get_or_default xs at e d lt) ∙ is

  pub stands-nowhere : (n at : ℕ) → IsPlaceFor key xs n at → ((d : X) → at < length xs → key (get_or xs at d) ≢ n) → StandsNowhere key xs n
  stands-nowhere n at place other k e l here = elim (cases_order k at) [
    | inl same ↦ other e (omega (arith, same, l)) (ap (λ i. key (get_or xs i e)) (sym same) ∙ here)
    | inr differ ↦ elim differ [
      | inl less ↦ absurd (omega (arith, place.below k e less, here))
      | inr more ↦ absurd (omega (arith, rising at k e more l, place.not_below at e (omega arith) (omega arith), here))
    ]
  ]

  pub rising-removed : (at : ℕ) → at < length xs → IsRisingBy key (remove xs at)
  rising-removed at lt i j d less in_range =
      let shrunk = length-remove xs at lt in
      let both : (a b : X) → get_or (remove xs at) i d ≡ a → get_or (remove xs at) j d ≡ b → key a < key b → key (get_or (remove xs at) i d) < key (get_or (remove xs at) j d) = λ a b is_a is_b holds. rw (is_a, is_b) holds in
      elim (cases_lt j at) [
        | inl j_below ↦ both (get_or xs i d) (get_or xs j d) (get_or-remove_below xs at d i (omega arith) lt) (get_or-remove_below xs at d j j_below lt) (rising i j d less (omega arith))
        | inr j_above ↦ elim (cases_lt i at) [
          | inl i_below ↦ both (get_or xs i d) (get_or xs (j + 1) d) (get_or-remove_below xs at d i i_below lt) (get_or-remove_above xs at d j j_above lt) (rising i (j + 1) d (omega arith) (omega arith))
          | inr i_above ↦ both (get_or xs (i + 1) d) (get_or xs (j + 1) d) (get_or-remove_above xs at d i i_above lt) (get_or-remove_above xs at d j j_above lt) (rising (i + 1) (j + 1) d (omega arith) (omega arith))
        ]
      ]

  pub rising-inserted : (x : X) (at : ℕ) → IsPlaceFor key xs (key x) at → StandsNowhere key xs (key x) → IsRisingBy key (insert xs at x)
  rising-inserted x at place absent i j d less in_range =
      let new = insert xs at x in
      let grown = length-insert xs at x place.in_range in
      let below : (k : ℕ) → k < at → get_or new k d ≡ get_or xs k d = λ k lt. get_or-insert_below xs at x d k lt place.in_range in
      let here : get_or new at d ≡ x = get_or-insert_at xs at x d place.in_range in
      let above : (k : ℕ) → at < k → get_or new k d ≡ get_or xs (k - 1) d = λ k lt. subst (λ q. get_or new q d ≡ get_or xs (k - 1) d) {x = k - 1 + 1} (omega arith) (get_or-insert_above xs at x d (k - 1) (omega arith) place.in_range) in
      let both : (a b : X) → get_or new i d ≡ a → get_or new j d ≡ b → key a < key b → key (get_or new i d) < key (get_or new j d) = λ a b is_a is_b holds. rw (is_a, is_b) holds in
      let over : (k : ℕ) → at ≤ k → k < length xs → key x < key (get_or xs k d) = λ k le lt. omega (arith, place.not_below k d le lt, absent k d lt) in
      elim (cases_order j at) [
        | inl j_here ↦ both (get_or xs i d) x (below i (omega arith)) (ap (λ k. get_or new k d) j_here ∙ here) (place.below i d (omega arith))
        | inr differ ↦ elim differ [
          | inl j_below ↦ both (get_or xs i d) (get_or xs j d) (below i (omega arith)) (below j j_below) (rising i j d less (omega arith))
          | inr j_above ↦ elim (cases_order i at) [
            | inl i_here ↦ both x (get_or xs (j - 1) d) (ap (λ k. get_or new k d) i_here ∙ here) (above j j_above) (over (j - 1) (omega arith) (omega arith))
            | inr i_differs ↦ elim i_differs [
              | inl i_below ↦ both (get_or xs i d) (get_or xs (j - 1) d) (below i i_below) (above j j_above) (rising i (j - 1) d (omega arith) (omega arith))
              | inr i_above ↦ both (get_or xs (i - 1) d) (get_or xs (j - 1) d) (above i i_above) (above j j_above) (rising (i - 1) (j - 1) d (omega arith) (omega arith))
            ]
          ]
        ]
      ]

  -- one more at the end, above all others
  pub rising-pushed : (x : X) → All (λ y. key y < key x) xs → IsRisingBy key (xs ++ x ∷ [])
  rising-pushed x above i j d less in_range = elim (cases_lt j (length xs)) [
    | inl inside ↦ rw (get-left xs (x ∷ []) i d (omega arith), get-left xs (x ∷ []) j d inside) (rising i j d less inside)
    | inr end ↦
        let grown = length-append xs (x ∷ []) in
        let at_end : length xs ≡ j = omega arith in
        rw (get-left xs (x ∷ []) i d (omega arith), get_or_push xs x d j at_end) (above i d (omega arith))
  ]

-- what is left of a list in order is in order
module _ {X : Type 0} (key : X → ℕ) where
  rising-tail : (x : X) (xs : List X) → IsRisingBy key (x ∷ xs) → IsRisingBy key xs
  rising-tail x xs rising i j d less in_range = rising (suc i) (suc j) d (omega arith) (omega arith)

  above-first : (x : X) (xs : List X) → IsRisingBy key (x ∷ xs) → All (λ y. key x < key y) xs
  above-first x xs rising k d lt = rising 0 (suc k) d (omega arith) (omega arith)

  rising-first : (x : X) (xs : List X) → All (λ y. key x < key y) xs → IsRisingBy key xs → IsRisingBy key (x ∷ xs)
  rising-first x xs above rising zero zero d less in_range = absurd (omega arith)
  rising-first x xs above rising zero (suc j) d less in_range = above j d (omega arith)
  rising-first x xs above rising (suc i) zero d less in_range = absurd (omega arith)
  rising-first x xs above rising (suc i) (suc j) d less in_range = rising i j d (omega arith) (omega arith)

  pub rising-rest : (ys xs zs : List X) → zs ≡ ys ++ xs → IsRisingBy key zs → IsRisingBy key xs
  rising-rest [] xs zs is rising = rw (sym is) rising
  rising-rest (y ∷ ys) xs zs is rising = rising-rest ys xs (ys ++ xs) refl (rising-tail y (ys ++ xs) (rw is at rising))

  pub rising-front : (xs ys zs : List X) → zs ≡ xs ++ ys → IsRisingBy key zs → IsRisingBy key xs
  rising-front xs ys zs is rising i j d less in_range =
      rw (sym (get-left xs ys i d (omega arith)), sym (get-left xs ys j d in_range)) ((rw is at rising) i j d less (omega (arith, length-append xs ys)))

  pub rising-filter : (p : X → Bool) (xs : List X) → IsRisingBy key xs → IsRisingBy key (filter p xs)
  rising-filter p [] rising = rising
  rising-filter p (x ∷ xs) rising = go (p x) (rising-filter p xs (rising-tail x xs rising))
    where
      go : (b : Bool) → IsRisingBy key (filter p xs) → IsRisingBy key (cond b (x ∷ filter p xs) (filter p xs))
      go true rest = rising-first x (filter p xs) (All-filter p (λ y. key x < key y) xs (above-first x xs rising)) rest
      go false rest = rest

  -- an element may change for one with the same number
  pub rising-set : (xs : List X) (at : ℕ) (x : X) → at < length xs → ((d : X) → key (get_or xs at d) ≡ key x) → IsRisingBy key xs → IsRisingBy key (set xs at x)
  rising-set xs at x lt same rising i j d less in_range =
      let number : (k : ℕ) → k < length xs → key (get_or (set xs at x) k d) ≡ key (get_or xs k d) = λ k inside. elim (cases_order k at) [
        | inl here ↦ ap key (get_or-set_at xs at k x d here lt) ∙ sym (same d) ∙ ap (λ n. key (get_or xs n d)) (sym here)
        | inr apart ↦ ap key (get_or-set_other xs at k x d (λ e. elim apart [ inl less ↦ absurd (omega (arith, e, less)) | inr more ↦ absurd (omega (arith, e, more)) ]))
      ] in
      rw (number i (omega (arith, length-set xs at x)), number j (omega (arith, length-set xs at x))) (rising i j d less (omega (arith, length-set xs at x)))
