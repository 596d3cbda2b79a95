-- Writes, one after the other.
use Rattle.std.proofs.Common.{◌≡◌, ◌∙◌, ℕ, ◌+◌, ◌<◌, List, [], ◌++◌, take, length, get_or, Option, Result, Ok, Err, OnOk, sym, ap, subst}
use Rattle.std.specs.List.{flat_map}
use Rattle.std.specs.Io.KnownBytes.{Appends}
use Rattle.std.proofs.KnownBytes.{Appends-trans}
use Rattle.std.proofs.lemmas.List.{take_more, flat_map_more}

-- a write, and then one that may fail
pub appends_next : {T E : Type 0} (r : Result T E) (a b c : Option (List ℕ)) (xs ys : List ℕ)
    → Appends a b xs → OnOk r (Appends b c ys) → OnOk r (Appends a c (xs ++ ys))
appends_next (Ok x) a b c xs ys p q = Appends-trans a b c xs ys p q
appends_next (Err x) a b c xs ys p q = tt

-- what there is of each element, with that of one more
pub flat_map_next : {X Y : Type 0} (f : X → List Y) (xs : List X) (i : ℕ) (d : X) → i < length xs → flat_map f (take i xs) ++ f (get_or xs i d) ≡ flat_map f (take (i + 1) xs)
flat_map_next f xs i d h = flat_map_more f [] (take i xs) (get_or xs i d) ∙ ap (flat_map f) (sym (take_more xs i d h))

pub appends_element : {X : Type 0} (f : X → List ℕ) (a b c : Option (List ℕ)) (xs : List X) (i : ℕ) (d : X) → i < length xs
    → Appends a b (flat_map f (take i xs)) → Appends b c (f (get_or xs i d)) → Appends a c (flat_map f (take (i + 1) xs))
appends_element f a b c xs i d h p q =
    subst (Appends a c) (flat_map_next f xs i d h) (Appends-trans a b c (flat_map f (take i xs)) (f (get_or xs i d)) p q)
