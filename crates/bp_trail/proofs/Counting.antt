-- Counts, tests, filters and reversed lists.
use Rattle.std.proofs.Common.{◌≡◌, ℕ, zero, suc, ◌+◌, ◌<◌, Bool, true, false, not, cond, ◌&&◌, List, [], ◌∷◌, ◌++◌, length, length-append, get_or, map, filter, reverse, refl, sym, ◌∙◌, ap, subst, arith}
use Rattle.std.specs.Prelude.{All}
use Rattle.std.specs.List.{sum_by}
use Rattle.std.specs.List.Sorted.{IsPermutation}
use Rattle.std.proofs.lemmas.List.Sorted.{sum_by-IsPermutation}
use Rattle.std.proofs.lemmas.List.Sums.{sum_by-cons}
use Rattle.std.proofs.lemmas.Bool.{true≢false, or_parts, or_left, or_right}
use Rattle.std.proofs.lemmas.Bool.Decides.{nat_tests}
use Rattle.std.proofs.lemmas.List.{reverse-append}
use Rattle.std.proofs.lemmas.List.Elements.{filter-append}
use Rattle.bp_trail.specs.Lists.{some, count}

module _ {X : Type 0} where
  pub some-at : (p : X → Bool) (xs : List X) (i : ℕ) (d : X) → i < length xs → p (get_or xs i d) ≡ true → some p xs ≡ true
  some-at p [] i d lt here = absurd (omega arith)
  some-at p (x ∷ xs) zero d lt here = or_left (p x) (some p xs) here
  some-at p (x ∷ xs) (suc i) d lt here = or_right (p x) (some p xs) (some-at p xs i d (omega arith) here)

  pub count-cons : (p : X → Bool) (x : X) (xs : List X) → count p (x ∷ xs) ≡ cond (p x) 1 0 + count p xs
  count-cons p x xs = go (p x)
    where
      go : (b : Bool) → length (cond b (x ∷ filter p xs) (filter p xs)) ≡ cond b 1 0 + count p xs
      go true = omega arith
      go false = omega arith

  pub none-count : (p : X → Bool) (xs : List X) → some p xs ≡ false → count p xs ≡ 0
  none-count p [] h = refl
  none-count p (x ∷ xs) h = let a = or_parts (p x) (some p xs) h in omega (arith, count-cons p x xs, ap {B = ℕ} (λ b. cond b 1 0) a.0, none-count p xs a.1)

  pub some-count : (p : X → Bool) (xs : List X) → some p xs ≡ true → 0 < count p xs
  some-count p [] h = absurd (true≢false (sym h))
  some-count p (x ∷ xs) h = grind (arith, nat_tests, count-cons p x xs, some-count p xs)

  pub count-all : (xs : List X) → count (λ x. true) xs ≡ length xs
  count-all [] = refl
  count-all (x ∷ xs) = let k = count-all xs in omega arith

  pub count-agree : (p q : X → Bool) → ((x : X) → p x ≡ q x) → (xs : List X) → count p xs ≡ count q xs
  count-agree p q same [] = refl
  count-agree p q same (x ∷ xs) = omega (arith, count-cons p x xs, count-cons q x xs, ap {B = ℕ} (λ b. cond b 1 0) (same x), count-agree p q same xs)

  -- two tests that agree but at elements that r passes, of which there are none
  pub count-agree_but : (p q r : X → Bool) → ((x : X) → r x ≡ false → p x ≡ q x) → (xs : List X) → some r xs ≡ false → count p xs ≡ count q xs
  count-agree_but p q r same [] h = refl
  count-agree_but p q r same (x ∷ xs) h = let parts = or_parts (r x) (some r xs) h in omega (arith, count-cons p x xs, count-cons q x xs, ap {B = ℕ} (λ b. cond b 1 0) (same x parts.0), count-agree_but p q r same xs parts.1)

  pub count-filter : (p q : X → Bool) (xs : List X) → count p (filter q xs) ≡ count (λ x. q x && p x) xs
  count-filter p q [] = refl
  count-filter p q (x ∷ xs) = go (q x) refl (count-filter p q xs)
    where
      go : (b : Bool) → q x ≡ b → count p (filter q xs) ≡ count (λ x. q x && p x) xs → count p (filter q (x ∷ xs)) ≡ count (λ x. q x && p x) (x ∷ xs)
      go true e ih = omega (arith, ap (λ b. count p (cond b (x ∷ filter q xs) (filter q xs))) e, count-cons p x (filter q xs), count-cons (λ x. q x && p x) x xs, ap {B = ℕ} (λ b. cond (b && p x) 1 0) e, ih)
      go false e ih = omega (arith, ap (λ b. count p (cond b (x ∷ filter q xs) (filter q xs))) e, count-cons (λ x. q x && p x) x xs, ap {B = ℕ} (λ b. cond (b && p x) 1 0) e, ih)

  pub count-sum : (p : X → Bool) (xs : List X) → count p xs ≡ sum_by (λ x. cond (p x) 1 0) xs
  count-sum p [] = refl
  count-sum p (x ∷ xs) = omega (arith, count-cons p x xs, sum_by-cons (λ (y : X). cond (p y) 1 0) x xs, count-sum p xs)

  -- in any order
  pub count-permutation : (p : X → Bool) (xs ys : List X) → IsPermutation xs ys → count p ys ≡ count p xs
  count-permutation p xs ys moved = count-sum p ys ∙ sum_by-IsPermutation (λ x. cond (p x) 1 0) xs ys moved ∙ sym (count-sum p xs)

  pub count-append : (p : X → Bool) (xs ys : List X) → count p (xs ++ ys) ≡ count p xs + count p ys
  count-append p [] ys = omega arith
  count-append p (x ∷ xs) ys = omega (arith, count-cons p x (xs ++ ys), count-cons p x xs, count-append p xs ys)

  -- how many are left
  pub length-split : (p : X → Bool) (xs : List X) → length (filter (λ x. not (p x)) xs) + count p xs ≡ length xs
  length-split p [] = refl
  length-split p (x ∷ xs) = go (p x) (length-split p xs)
    where
      go : (b : Bool) → length (filter (λ x. not (p x)) xs) + count p xs ≡ length xs
          → length (cond (not b) (x ∷ filter (λ x. not (p x)) xs) (filter (λ x. not (p x)) xs)) + length (cond b (x ∷ filter p xs) (filter p xs)) ≡ suc (length xs)
      go true h = omega arith
      go false h = omega arith

  pub reverse-push : (xs : List X) (x : X) → reverse (xs ++ x ∷ []) ≡ x ∷ reverse xs
  reverse-push xs x = reverse-append xs (x ∷ [])

  append-none : (ys : List X) → ys ++ [] ≡ ys
  append-none [] = refl
  append-none (y ∷ ys) = ap (λ zs. y ∷ zs) (append-none ys)

  pub filter-reverse : (p : X → Bool) (xs : List X) → reverse (filter p xs) ≡ filter p (reverse xs)
  filter-reverse p [] = refl
  filter-reverse p (x ∷ xs) = reverse-filtered (p x) refl (filter-reverse p xs) ∙ sym (ap (filter p) (reverse-append (x ∷ []) xs) ∙ filter-append p (reverse xs) (x ∷ []))
    where
      last : (b : Bool) → p x ≡ b → filter p (x ∷ []) ≡ cond b (x ∷ []) []
      last b e = ap (λ b. cond b (x ∷ []) []) e

      reverse-filtered : (b : Bool) → p x ≡ b → reverse (filter p xs) ≡ filter p (reverse xs) → reverse (filter p (x ∷ xs)) ≡ filter p (reverse xs) ++ filter p (x ∷ [])
      reverse-filtered true e ih = ap (λ b. reverse (cond b (x ∷ filter p xs) (filter p xs))) e ∙ reverse-append (x ∷ []) (filter p xs) ∙ ap (λ ys. ys ++ x ∷ []) ih ∙ sym (ap (λ ys. filter p (reverse xs) ++ ys) (last true e))
      reverse-filtered false e ih = ap (λ b. reverse (cond b (x ∷ filter p xs) (filter p xs))) e ∙ ih ∙ sym (ap (λ ys. filter p (reverse xs) ++ ys) (last false e) ∙ append-none (filter p (reverse xs)))

module _ {X Y : Type 0} where
  pub count-map : (f : X → Y) (p : Y → Bool) (xs : List X) → count p (map f xs) ≡ count (λ x. p (f x)) xs
  count-map f p [] = refl
  count-map f p (x ∷ xs) = omega (arith, count-cons p (f x) (map f xs), count-cons (λ y. p (f y)) x xs, count-map f p xs)

  -- equal counts answer `some` alike
  pub some-from_counts : (p : X → Bool) (q : Y → Bool) (xs : List X) (ys : List Y) → count p xs ≡ count q ys → some p xs ≡ some q ys
  some-from_counts p q xs ys e = go (some p xs) (some q ys) refl refl
    where
      go : (a b : Bool) → some p xs ≡ a → some q ys ≡ b → a ≡ b
      go true true i j = refl
      go false false i j = refl
      go true false i j = absurd (omega (arith, e, some-count p xs i, none-count q ys j))
      go false true i j = absurd (omega (arith, e, none-count p xs i, some-count q ys j))

module _ {X : Type 0} where
  pub get-left : (xs ys : List X) (k : ℕ) (d : X) → k < length xs → get_or (xs ++ ys) k d ≡ get_or xs k d
  get-left [] ys k d lt = absurd (omega arith)
  get-left (x ∷ xs) ys zero d lt = refl
  get-left (x ∷ xs) ys (suc k) d lt = get-left xs ys k d (omega arith)

  pub all-left : (P : X → Type 0) (zs xs ys : List X) → zs ≡ xs ++ ys → All P zs → All P xs
  all-left P zs xs ys is all k d lt = subst P (get-left xs ys k d lt) (subst (λ us. All P us) is all k d (omega (arith, length-append xs ys)))

module _ {X : Type 0} (P : X → Type 0) (y : X) (here : P y) where
  push-at : (xs : List X) (k : ℕ) (d : X) → k < length (xs ++ y ∷ []) → ((j : ℕ) (e : X) → j < length xs → P (get_or xs j e)) → P (get_or (xs ++ y ∷ []) k d)
  push-at [] zero d lt all = here
  push-at [] (suc k) d lt all = absurd (omega arith)
  push-at (x ∷ xs) zero d lt all = all 0 d (omega arith)
  push-at (x ∷ xs) (suc k) d lt all = push-at xs k d (omega arith) (λ j e l. all (suc j) e (omega arith))

  pub all-push : (zs xs : List X) → zs ≡ xs ++ y ∷ [] → All P xs → All P zs
  all-push zs xs is all = subst (λ us. All P us) (sym is) (λ k d lt. push-at xs k d lt all)
