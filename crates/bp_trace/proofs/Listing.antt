-- Numbers that are read one after the other.
use Rattle.std.proofs.Common.{◌≡◌, ◌∙◌, ℕ, suc, ◌+◌, ◌<◌, Bor, ap, refl, sym, List, [], ◌∷◌, ◌++◌, length, drop, get_or, map, Option, Some, None, add-one, append_assoc}
use Rattle.std.proofs.Math.Seq.{drop-cons}
use Rattle.bp_trace.specs.NumberLists.{before, number_between, numbers_between}

-- the numbers so far, and those of the rest
abbrev pub and_then : List ℕ → Option (List ℕ) → Option (List ℕ)
and_then numbers None = None
and_then numbers (Some others) = Some (numbers ++ others)

pub and_then-none_yet : (o : Option (List ℕ)) → and_then [] o ≡ o
and_then-none_yet None = refl
and_then-none_yet (Some others) = refl

and_then-one : (numbers : List ℕ) (n : ℕ) (o : Option (List ℕ)) → and_then numbers (before (Some n) o) ≡ and_then (numbers ++ n ∷ []) o
and_then-one numbers n None = refl
and_then-one numbers n (Some others) = ap (λ (l : List ℕ). Some l) (sym (append_assoc numbers (n ∷ []) others))

-- the numbers of parts that stand behind references
abbrev pub numbers_of : ℕ → ℕ → List (Bor (List ℕ)) → Option (List ℕ)
numbers_of low high parts = numbers_between low high (map (λ part. part.now) parts)

one_more : (low high n : ℕ) (numbers : List ℕ) (part : Bor (List ℕ)) (rest left : List (Bor (List ℕ))) (all : Option (List ℕ))
    → left ≡ part ∷ rest → number_between low high part.now ≡ Some n → all ≡ and_then numbers (numbers_of low high left)
    → all ≡ and_then (numbers ++ n ∷ []) (numbers_of low high rest)
one_more low high n numbers part rest left all is says so_far =
    so_far
    ∙ ap (λ (l : List (Bor (List ℕ))). and_then numbers (numbers_of low high l)) is
    ∙ ap (λ (o : Option ℕ). and_then numbers (before o (numbers_of low high rest))) says
    ∙ and_then-one numbers n (numbers_of low high rest)

-- the same by the index of the part
pub one_more_at : (low high n i : ℕ) (numbers grown : List ℕ) (parts : List (Bor (List ℕ))) (d : Bor (List ℕ)) → i < length parts
    → number_between low high (get_or parts i d).now ≡ Some n → grown ≡ numbers ++ n ∷ []
    → numbers_of low high parts ≡ and_then numbers (numbers_of low high (drop i parts))
    → numbers_of low high parts ≡ and_then grown (numbers_of low high (drop (i + 1) parts))
one_more_at low high n i numbers grown parts d within says grew so_far =
    one_more low high n numbers (get_or parts i d) (drop (suc i) parts) (drop i parts) (numbers_of low high parts) (drop-cons parts i d within) says so_far
    ∙ ap (λ (k : ℕ). and_then (numbers ++ n ∷ []) (numbers_of low high (drop k parts))) (sym (add-one i))
    ∙ ap (λ (l : List ℕ). and_then l (numbers_of low high (drop (i + 1) parts))) (sym grew)
