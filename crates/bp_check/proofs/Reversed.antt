-- Lists that are kept in the order of time and read newest first.
use Rattle.std.proofs.Common.{◌≡◌, ℕ, ◌+◌, ◌<◌, ◌≤◌, Bool, true, not, ◌==◌, List, [], ◌∷◌, ◌++◌, length, take, get_or, reverse, filter, sym, ap, ◌∙◌, Option, Some}
use Rattle.std.proofs.lemmas.List.{take_more, take_all, reverse-append}
use Rattle.std.proofs.lemmas.List.Folds.{list_any_at}
use Rattle.std.proofs.lemmas.List.Sorted.{IsPermutation-reverse, list_any-IsPermutation}
use Rattle.bp_trail.specs.Lists.{some, count, and_given, without}
use Rattle.bp_trail.proofs.Counting.{count-permutation, filter-reverse, reverse-push}

module _ {X : Type 0} where
  -- one element more
  pub newest : (xs : List X) (i : ℕ) (d x : X) → i < length xs → x ≡ get_or xs i d → reverse (take (i + 1) xs) ≡ x ∷ reverse (take i xs)
  newest xs i d x below is = ap reverse (take_more xs i d below ∙ ap (λ (y : X). take i xs ++ y ∷ []) (sym is)) ∙ reverse-append (take i xs) (x ∷ [])

  -- a value that is had of each list by the one before it, and of the elements so far, is had with the next one
  pub folds : {Y : Type 0} (f : List X → Y) (xs : List X) (i : ℕ) (d x : X) (y : Y) → i < length xs → x ≡ get_or xs i d → y ≡ f (x ∷ reverse (take i xs)) → y ≡ f (reverse (take (i + 1) xs))
  folds f xs i d x y below is had = had ∙ sym (ap f (newest xs i d x below is))

  -- and of all
  pub folded : {Y : Type 0} (f : List X → Y) (xs : List X) (i : ℕ) (y : Y) → length xs ≤ i → y ≡ f (reverse (take i xs)) → y ≡ f (reverse xs)
  folded f xs i y all had = had ∙ ap (λ (zs : List X). f (reverse zs)) (take_all i xs all)

  pub some-reverse : (p : X → Bool) (xs : List X) → some p (reverse xs) ≡ some p xs
  some-reverse p xs = sym (list_any-IsPermutation p xs (reverse xs) (IsPermutation-reverse xs))

  pub count-reverse : (p : X → Bool) (xs : List X) → count p (reverse xs) ≡ count p xs
  count-reverse p xs = count-permutation p xs (reverse xs) (IsPermutation-reverse xs)

  -- an element that passes was found
  pub some-found : (p : X → Bool) (xs ys zs : List X) (i : ℕ) (d x : X) → reverse xs ≡ zs → ys ≡ xs → i < length ys → x ≡ get_or ys i d → true ≡ p x → true ≡ some p zs
  some-found p xs ys zs i d x turned same below is passes =
      sym (list_any_at p ys i d below (sym (passes ∙ ap p is))) ∙ ap (some p) same ∙ sym (some-reverse p xs) ∙ ap (some p) turned

  -- those with the key that is ended go, and what is given comes
  module _ (key : X → ℕ) where
    pub ended : (n : ℕ) (xs ys zs : List X) → ys ≡ filter (λ y. not (key y == n)) xs → reverse xs ≡ zs → reverse ys ≡ without key (Some n) zs
    ended n xs ys zs left turned = ap reverse left ∙ filter-reverse (λ y. not (key y == n)) xs ∙ ap (filter (λ y. not (key y == n))) turned

    pub given : (ends : Option ℕ) (o : Option X) (y : X) (xs ys zs : List X) → ys ≡ xs ++ y ∷ [] → o ≡ Some y → reverse xs ≡ without key ends zs → reverse ys ≡ and_given o (without key ends zs)
    given ends o y xs ys zs pushed is turned = ap reverse pushed ∙ reverse-push xs y ∙ ap (λ us. y ∷ us) turned ∙ ap (λ (u : Option X). and_given u (without key ends zs)) (sym is)
