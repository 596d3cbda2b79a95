-- Writes, one after the other.
use Rattle.std.proofs.Common.{◌≡◌, ℕ, suc, zero, List, [], ◌∷◌, ◌++◌, take, min, length, Option, Result, Ok, Err, OnOk, refl, ap, arith}
use Rattle.std.specs.Io.KnownBytes.{Appends}
use Rattle.std.proofs.KnownBytes.{Appends-trans}

-- a write, and then one that may fail
pub appends_then : {T E : Type 0} (r : Result T E) (a b c : Option (List ℕ)) (xs ys all : List ℕ)
    → Appends a b xs → OnOk r (Appends b c ys) → xs ++ ys ≡ all → OnOk r (Appends a c all)
appends_then (Ok x) a b c xs ys all p q e = rw (← e) (Appends-trans a b c xs ys p q)
appends_then (Err x) a b c xs ys all p q e = tt

pub appends_next : {T E : Type 0} (r : Result T E) (a b c : Option (List ℕ)) (xs ys : List ℕ)
    → Appends a b xs → OnOk r (Appends b c ys) → OnOk r (Appends a c (xs ++ ys))
appends_next r a b c xs ys p q = appends_then r a b c xs ys (xs ++ ys) p q refl

-- a front of no more items than there are
pub take_to_min : (xs : List ℕ) (n m : ℕ) → m ≡ min (length xs) n → take n xs ≡ take m xs
take_to_min [] zero zero e = refl
take_to_min [] zero (suc m) e = refl
take_to_min [] (suc n) zero e = refl
take_to_min [] (suc n) (suc m) e = refl
take_to_min (x ∷ xs) zero m e = let none : m ≡ 0 = omega arith in rw none refl
take_to_min (x ∷ xs) (suc n) zero e = absurd (omega arith)
take_to_min (x ∷ xs) (suc n) (suc m) e = ap (λ (t : List ℕ). x ∷ t) (take_to_min xs n m (omega arith))
