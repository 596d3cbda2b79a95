-- Lists, place by place.
use Rattle.std.proofs.Common.{◌≡◌, ◌⊎◌, inl, inr, refl, sym, ap, ◌∙◌, subst, ℕ, zero, suc, ◌+◌, ◌<◌, ◌≤◌, List, [], ◌∷◌, ◌++◌, length, length-append, slice_index_or, slice_set, length-set, arith}
use Rattle.std.proofs.Math.Nat.{eq-or-lt_of_le}
use Rattle.std.proofs.lemmas.List.{get_or_append_left, get_or-append-add, get_or-set_other}
use Rattle.std.proofs.lemmas.Bool.{cases_lt}
use Rattle.std.proofs.lemmas.Grind.{get_or-set_at}
use Rattle.bp_parts.specs.Places.{AtEachPlace, up_to}

-- at the end of a list stands what was put there
pub at_end : {A : Type 0} (xs : List A) (x : A) (i : ℕ) (d : A) → i ≡ length xs → slice_index_or (xs ++ x ∷ []) i d ≡ x
at_end xs x i d is =
    let at : i ≡ length xs + 0 = omega (arith, is) in
    ap (λ k. slice_index_or (xs ++ x ∷ []) k d) at ∙ get_or-append-add xs (x ∷ []) 0 d

-- one more is put there
pub below_pushed : {A : Type 0} (Is : ℕ → A → Type 0) (xs ys : List A) (x : A) (n : ℕ) → length xs ≡ n → ys ≡ xs ++ x ∷ []
    → ((i : ℕ) (d : A) → i < n → Is i (slice_index_or xs i d)) → Is n x → (i : ℕ) (d : A) → i < n + 1 → Is i (slice_index_or ys i d)
below_pushed Is xs ys x n is more all last i d below = go (eq-or-lt_of_le (omega (arith, below)))
  where
    at_ys : slice_index_or (xs ++ x ∷ []) i d ≡ slice_index_or ys i d
    at_ys = ap (λ l. slice_index_or l i d) (sym more)

    go : (i ≡ n) ⊎ (i < n) → Is i (slice_index_or ys i d)
    go (inl same) = subst (Is i) at_ys (subst (Is i) (sym (at_end xs x i d (same ∙ sym is))) (subst (λ k. Is k x) (sym same) last))
    go (inr less) = subst (Is i) at_ys (subst (Is i) (sym (get_or_append_left xs (x ∷ []) d i (omega (arith, less, is)))) (all i d less))

pub longer : {A : Type 0} (xs ys : List A) (x : A) (n : ℕ) → length xs ≡ n → ys ≡ xs ++ x ∷ [] → length ys ≡ n + 1
longer xs ys x n is more = omega (arith, ap length more, length-append xs (x ∷ []), is)

pub each_pushed : {A : Type 0} (Is : ℕ → A → Type 0) (xs ys : List A) (x : A) (n : ℕ) → length xs ≡ n → ys ≡ xs ++ x ∷ [] → AtEachPlace Is xs → Is n x → AtEachPlace Is ys
each_pushed Is xs ys x n is more all last i d below =
    below_pushed Is xs ys x n is more (λ k e less. all k e (omega (arith, less, is))) last i d (omega (arith, below, longer xs ys x n is more))

-- ---- what is left of a list, from one place on

abbrev pub AtPlacesFrom : {A : Type 0} → (ℕ → A → Type 0) → ℕ → List A → Type 0
AtPlacesFrom {A} Is k xs = (i : ℕ) (d : A) → i < length xs → Is (k + i) (slice_index_or xs i d)

pub from_first : {A : Type 0} (Is : ℕ → A → Type 0) (xs left : List A) → left ≡ xs → AtEachPlace Is xs → AtPlacesFrom Is 0 left
from_first Is xs left same all i d below =
    subst (λ l. Is (0 + i) (slice_index_or l i d)) (sym same) (subst (λ k. Is k (slice_index_or xs i d)) (omega arith) (all i d (omega (arith, below, ap length same))))

pub next_is : {A : Type 0} (Is : ℕ → A → Type 0) (k : ℕ) (left rest : List A) (x : A) → AtPlacesFrom Is k left → left ≡ x ∷ rest → Is k x
next_is Is k left rest x are is =
    let are' : AtPlacesFrom Is k (x ∷ rest) = subst (AtPlacesFrom Is k) is are in
    let same : k + 0 ≡ k = omega arith in
    subst (λ n. Is n x) same (are' 0 x (omega arith))

pub rest_are : {A : Type 0} (Is : ℕ → A → Type 0) (k : ℕ) (left rest : List A) (x : A) → AtPlacesFrom Is k left → left ≡ x ∷ rest → AtPlacesFrom Is (k + 1) rest
rest_are {A} Is k left rest x are is i d below =
    let are' : AtPlacesFrom Is k (x ∷ rest) = subst (AtPlacesFrom Is k) is are in
    let same : k + suc i ≡ k + 1 + i = omega arith in
    subst (λ n. Is n (slice_index_or rest i d)) same (are' (suc i) d (omega (arith, below)))

-- ---- one place of a list is set

-- those below it have what they had, and it is so too
pub set_below : {A : Type 0} (Is : ℕ → A → Type 0) (k : ℕ) (xs : List A) (y : A) → k < length xs
    → ((i : ℕ) (d : A) → i < k → Is i (slice_index_or xs i d)) → Is k y → (i : ℕ) (d : A) → i < k + 1 → Is i (slice_index_or (slice_set xs k y) i d)
set_below Is k xs y within are is i d below = go (eq-or-lt_of_le (omega (arith, below)))
  where
    go : (i ≡ k) ⊎ (i < k) → Is i (slice_index_or (slice_set xs k y) i d)
    go (inl same) = subst (Is i) (sym (get_or-set_at xs k i y d same within)) (subst (λ n. Is n y) (sym same) is)
    go (inr less) = subst (Is i) (sym (get_or-set_other xs k i y d (λ same. absurd (omega (arith, less, same))))) (are i d less)

-- those after it are as they were
pub set_above : {A : Type 0} (Is : ℕ → A → Type 0) (k n : ℕ) (xs : List A) (y : A)
    → ((i : ℕ) (d : A) → k ≤ i → i < n → Is i (slice_index_or xs i d)) → (i : ℕ) (d : A) → k + 1 ≤ i → i < n → Is i (slice_index_or (slice_set xs k y) i d)
set_above Is k n xs y are i d from below =
    subst (Is i) (sym (get_or-set_other xs k i y d (λ same. absurd (omega (arith, same, from))))) (are i d (omega (arith, from)) below)

-- it is so at each place still
pub each_set : {A : Type 0} (Is : ℕ → A → Type 0) (k : ℕ) (xs : List A) (y : A) → AtEachPlace Is xs → Is k y → AtEachPlace Is (slice_set xs k y)
each_set {A} Is k xs y all is i d below = go (cases_lt i k)
  where
    inside : i < length xs
    inside = omega (arith, below, length-set xs k y)

    other : ((i ≡ k) → ⊥) → Is i (slice_index_or (slice_set xs k y) i d)
    other differs = subst (Is i) (sym (get_or-set_other xs k i y d differs)) (all i d inside)

    at : i ≡ k → Is i (slice_index_or (slice_set xs k y) i d)
    at same = subst (Is i) (sym (get_or-set_at xs k i y d same (omega (arith, inside, same)))) (subst (λ n. Is n y) (sym same) is)

    high : (k ≡ i) ⊎ (k < i) → Is i (slice_index_or (slice_set xs k y) i d)
    high (inl same) = at (sym same)
    high (inr more) = other (λ same. absurd (omega (arith, more, same)))

    go : (i < k) ⊎ (k ≤ i) → Is i (slice_index_or (slice_set xs k y) i d)
    go (inl less) = other (λ same. absurd (omega (arith, less, same)))
    go (inr most) = high (eq-or-lt_of_le most)

-- ---- what each number below one gives

pub up_to_length : {A : Type 0} (f : ℕ → A) (n : ℕ) → length (up_to f n) ≡ n
up_to_length f zero = refl
up_to_length f (suc n) = omega (arith, length-append (up_to f n) (f n ∷ []), up_to_length f n)

pub up_to_at : {A : Type 0} (f : ℕ → A) (n i : ℕ) (d : A) → i < n → slice_index_or (up_to f n) i d ≡ f i
up_to_at f zero i d below = absurd (omega (arith, below))
up_to_at {A} f (suc n) i d below =
    below_pushed (λ k x. x ≡ f k) (up_to f n) (up_to f n ++ f n ∷ []) (f n) n (up_to_length f n) refl (λ k e less. up_to_at f n k e less) refl i d (omega (arith, below))

pub up_to_each : {A : Type 0} (f : ℕ → A) (n : ℕ) (xs : List A) → xs ≡ up_to f n → AtEachPlace (λ i x. x ≡ f i) xs
up_to_each f n xs are i d below =
    ap (λ l. slice_index_or l i d) are ∙ up_to_at f n i d (omega (arith, below, ap length are, up_to_length f n))

-- one more
pub up_to_more : {A : Type 0} (f : ℕ → A) (n m : ℕ) (xs ys : List A) (x : A) → xs ≡ up_to f n → ys ≡ xs ++ x ∷ [] → x ≡ f n → m ≡ n + 1 → ys ≡ up_to f m
up_to_more f n m xs ys x are more is next =
    let suc_is : suc n ≡ m = omega (arith, next) in
    more ∙ ap (λ l. l ++ x ∷ []) are ∙ ap (λ y. up_to f n ++ y ∷ []) is ∙ ap (up_to f) suc_is
