-- A list that is compared, element by element, with what a longer one gives. Here `give` is what a list gives, part by part.
use Rattle.std.proofs.Common.{◌≡◌, ℕ, zero, suc, ◌+◌, ◌<◌, ◌≤◌, List, [], ◌∷◌, ◌++◌, length, take, drop, get_or, sym, ap, ◌∙◌, arith}
use Rattle.std.proofs.lemmas.List.{take_more, append-nil, take-append-drop}
use Rattle.std.proofs.Math.Seq.{drop-cons}
use Rattle.bp_trail.proofs.OfClient.{GivesByParts}

-- one element more
give_more : {X Y : Type 0} (give : List X → List Y) (xs : List X) (i : ℕ) (d x : X) → GivesByParts give → i < length xs → x ≡ get_or xs i d → give (take (i + 1) xs) ≡ give (take i xs) ++ give (x ∷ [])
give_more {X} give xs i d x parts below is = ap give (take_more xs i d below ∙ ap (λ (y : X). take i xs ++ y ∷ []) (sym is)) ∙ parts (take i xs) (x ∷ [])

pub agree_more : {X Y : Type 0} (give : List X → List Y) (xs : List X) (said : List Y) (i at : ℕ) (d x : X) (y : Y) → GivesByParts give → i < length xs → x ≡ get_or xs i d
    → give (x ∷ []) ≡ y ∷ [] → at < length said → get_or said at y ≡ y → take at said ≡ give (take i xs) → take (at + 1) said ≡ give (take (i + 1) xs)
agree_more {X} {Y} give xs said i at d x y parts below is gives next here so_far =
    take_more said at y next ∙ ap (λ (z : Y). take at said ++ z ∷ []) here ∙ ap (λ zs. zs ++ y ∷ []) so_far ∙ ap (λ zs. give (take i xs) ++ zs) (sym gives) ∙ sym (give_more give xs i d x parts below is)

pub agree_skip : {X Y : Type 0} (give : List X → List Y) (xs : List X) (said : List Y) (i at : ℕ) (d x : X) → GivesByParts give → i < length xs → x ≡ get_or xs i d
    → give (x ∷ []) ≡ [] → take at said ≡ give (take i xs) → take at said ≡ give (take (i + 1) xs)
agree_skip give xs said i at d x parts below is gives so_far =
    so_far ∙ sym (append-nil (give (take i xs))) ∙ ap (λ zs. give (take i xs) ++ zs) (sym gives) ∙ sym (give_more give xs i d x parts below is)

stands : {Y : Type 0} (said : List Y) (at : ℕ) (y : Y) (rest : List Y) → at ≤ length said → said ≡ take at said ++ y ∷ rest → (at < length said) × (get_or said at y ≡ y)
stands [] zero y rest within is = absurd (cc)
stands [] (suc at) y rest within is = absurd (omega arith)
stands (z ∷ zs) zero y rest within is = (omega arith, cc)
stands (z ∷ zs) (suc at) y rest within is =
    let tail : zs ≡ take at zs ++ y ∷ rest = ap (drop 1) is in
    let h = stands zs at y rest (omega arith) tail in
    (omega (arith, h.0), h.1)

-- where both are the same, the next that is given stands at the place that was reached
pub agree_fail : {X Y : Type 0} (give : List X → List Y) (xs : List X) (said : List Y) (i at : ℕ) (d x : X) (y : Y) → GivesByParts give → i < length xs → x ≡ get_or xs i d
    → give (x ∷ []) ≡ y ∷ [] → at ≤ length said → take at said ≡ give (take i xs) → said ≡ give xs → (at < length said) × (get_or said at y ≡ y)
agree_fail give xs said i at d x y parts below is gives within so_far all =
    let rest = drop (suc i) xs in
    let cut : xs ≡ take i xs ++ (x ∷ rest) = sym (take-append-drop i xs) ∙ ap (λ zs. take i xs ++ zs) (drop-cons xs i d below ∙ ap (λ z. z ∷ rest) (sym is)) in
    stands said at y (give rest) within
    (all ∙ ap give cut ∙ parts (take i xs) (x ∷ rest) ∙ ap (λ zs. give (take i xs) ++ zs) (parts (x ∷ []) rest ∙ ap (λ zs. zs ++ give rest) gives) ∙ ap (λ zs. zs ++ y ∷ give rest) (sym so_far))
