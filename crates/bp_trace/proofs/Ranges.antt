-- What a range has.
use Rattle.std.proofs.Common.{◌≡◌, ◌∙◌, ℕ, zero, suc, ◌+◌, ◌-◌, ◌*◌, ◌<◌, ◌≤◌, min, nat_lt, if◌then◌else◌, true, false, Bool, Bor, add-one, ap, ap₂, append_assoc, refl, sym, List, [], ◌∷◌, ◌++◌, get_or, length, Option, Some, None, option_map, arith, lit<}
use Rattle.std.proofs.lemmas.Bool.{le-ltb, lt-ltb, ltb-false, ltb-true}
use Rattle.std.specs.List.{position_or_len}
use Rattle.std.proofs.lemmas.List.{append-nil}
use Rattle.std.proofs.lemmas.Str.Pattern.{IsSplitOnceResult, split_once_first}
use Rattle.bp_trace.specs.NumberLists.{IsRange, cut, doubled, is_dot}

-- ---- the two dots

abbrev pub texts_of : Option (Bor (List ℕ) × Bor (List ℕ)) → Option (List ℕ × List ℕ)
texts_of = option_map (λ p. (p.0.now, p.1.now))

pub cut_is : (text : List ℕ) (r : Option (Bor (List ℕ) × Bor (List ℕ))) → IsSplitOnceResult 46 text r → texts_of r ≡ cut text
cut_is text None split =
    let none = split_once_first 46 text None split (lit< tt) in
    let lacks : length text ≤ position_or_len is_dot text = omega (arith, none) in
    rw (le-ltb (position_or_len is_dot text) (length text) lacks) refl
cut_is text (Some x) split =
    let (inside, front, back) = split_once_first 46 text (Some x) split (lit< tt) in
    rw (lt-ltb _ (length text) inside) (ap₂ (λ (a b : List ℕ). Some (a, b)) front back)

-- ---- doubling

-- a number doubled so often
times : ℕ → ℕ → ℕ
times zero n = n
times (suc most) n = times most (n * 2)

grows : (most a b : ℕ) → a ≤ b → times most a ≤ times most b
unfolding times
grows zero a b h = h
grows (suc most) a b h = grows most (a * 2) (b * 2) (omega (arith, h))

enough : (first : ℕ) → 1 ≤ first → 9223372036854775808 ≤ times 63 first
unfolding times
enough first some = grows 63 1 first some

pub count : (most first last : ℕ) → length (doubled most first last) ≤ most
unfolding doubled
count zero first last = omega arith
count (suc most) first last = go (nat_lt first last) (count most (first * 2) last)
  where
    go : (b : Bool) → length (doubled most (first * 2) last) ≤ most → length (if b then first ∷ doubled most (first * 2) last else last ∷ []) ≤ suc most
    go true later = omega (arith, later)
    go false later = omega arith

-- a range whose first number may be above its last, which then is all that it has
record IsRun (first last : ℕ) (numbers : List ℕ) : Type 0 where
  some : 1 ≤ length numbers
  begins : get_or numbers 0 0 ≡ min first last
  ends : get_or numbers (length numbers - 1) 0 ≡ last
  below : (i : ℕ) → suc i < length numbers → get_or numbers i 0 < last
  doubles : (i : ℕ) → suc i < length numbers → get_or numbers (suc i) 0 ≡ min (get_or numbers i 0 * 2) last

alone : (first last : ℕ) → last ≤ first → IsRun first last (last ∷ [])
alone first last under = record {
  some = omega arith;
  begins = grind (arith, under);
  ends = refl;
  below = λ i h. absurd (omega (arith, h));
  doubles = λ i h. absurd (omega (arith, h));
}

one_more : (first last : ℕ) (rest : List ℕ) → first < last → IsRun (first * 2) last rest → IsRun first last (first ∷ rest)
one_more first last [] under run = absurd (omega (arith, run.some))
one_more first last (next ∷ rest) under run = record {
  some = omega arith;
  begins = grind (arith, under);
  ends = ap (λ (k : ℕ). get_or (first ∷ next ∷ rest) k 0) index ∙ run.ends;
  below = below;
  doubles = doubles;
}
  where
    index : length (first ∷ next ∷ rest) - 1 ≡ suc (length (next ∷ rest) - 1)
    index = omega arith

    below : (i : ℕ) → suc i < length (first ∷ next ∷ rest) → get_or (first ∷ next ∷ rest) i 0 < last
    below zero h = under
    below (suc i) h = run.below i (omega (arith, h))

    doubles : (i : ℕ) → suc i < length (first ∷ next ∷ rest) → get_or (first ∷ next ∷ rest) (suc i) 0 ≡ min (get_or (first ∷ next ∷ rest) i 0 * 2) last
    doubles zero h = run.begins
    doubles (suc i) h = run.doubles i (omega (arith, h))

runs : (most first last : ℕ) → last < times most first → IsRun first last (doubled (suc most) first last)
unfolding doubled times
runs zero first last enough = rw (le-ltb first last (omega (arith, enough))) (alone first last (omega (arith, enough)))
runs (suc most) first last enough = go (nat_lt first last) refl (runs most (first * 2) last enough)
  where
    go : (b : Bool) → nat_lt first last ≡ b → IsRun (first * 2) last (doubled (suc most) (first * 2) last)
        → IsRun first last (if b then first ∷ doubled (suc most) (first * 2) last else last ∷ [])
    go true is later = one_more first last (doubled (suc most) (first * 2) last) (ltb-true first last is) later
    go false is later = alone first last (ltb-false first last is)

pub range_is : (first last : ℕ) → 1 ≤ first → first ≤ last → last < 9223372036854775808 → IsRange first last (doubled 64 first last)
range_is first last some order few =
    let numbers = doubled 64 first last in
    let run = runs 63 first last (omega (arith, enough first some, few)) in
    record {
      some = run.some;
      few = count 64 first last;
      begins = grind (arith, run.begins, order);
      ends = run.ends;
      below = λ i h. run.below i (omega (arith, h));
      doubles = λ i h. ap (λ (k : ℕ). get_or numbers k 0) (add-one i) ∙ run.doubles i (omega (arith, h));
    }

-- ---- the loop

pub one_step : (i next last : ℕ) (all numbers grown : List ℕ) → i < 64 → next < last → grown ≡ numbers ++ next ∷ []
    → all ≡ numbers ++ doubled (64 - i) next last → all ≡ grown ++ doubled (64 - (i + 1)) (next * 2) last
unfolding doubled
one_step i next last all numbers grown inside under grew so_far =
    let rest = doubled (64 - (i + 1)) (next * 2) last in
    let left : 64 - i ≡ suc (64 - (i + 1)) = omega (arith, inside) in
    let opened : doubled (suc (64 - (i + 1))) next last ≡ next ∷ rest = rw (lt-ltb next last under) refl in
    so_far
    ∙ ap (λ (most : ℕ). numbers ++ doubled most next last) left
    ∙ ap (λ (l : List ℕ). numbers ++ l) opened
    ∙ sym (append_assoc numbers (next ∷ []) rest)
    ∙ ap (λ (l : List ℕ). l ++ rest) (sym grew)

pub last_step : (i next last : ℕ) (all numbers grown : List ℕ) → i < 64 → last ≤ next → grown ≡ numbers ++ last ∷ []
    → all ≡ numbers ++ doubled (64 - i) next last → grown ≡ all
unfolding doubled
last_step i next last all numbers grown inside over grew so_far =
    let left : 64 - i ≡ suc (64 - (i + 1)) = omega (arith, inside) in
    let opened : doubled (suc (64 - (i + 1))) next last ≡ last ∷ [] = rw (le-ltb next last over) refl in
    grew ∙ sym (so_far ∙ ap (λ (most : ℕ). numbers ++ doubled most next last) left ∙ ap (λ (l : List ℕ). numbers ++ l) opened)

pub no_step : (i next last : ℕ) (all numbers : List ℕ) → 64 ≤ i → all ≡ numbers ++ doubled (64 - i) next last → numbers ≡ all
unfolding doubled
no_step i next last all numbers through so_far =
    let left : 64 - i ≡ 0 = omega (arith, through) in
    sym (so_far ∙ ap (λ (most : ℕ). numbers ++ doubled most next last) left ∙ append-nil numbers)
