-- Two lists, element by element.
use Rattle.std.specs.Prelude.{ℕ, suc, List, [], ◌∷◌}

-- they are as long as each other, and P holds of each two that stand at one place, the places
-- counted from n
abbrev pub SideBySide : {A B : Type 0} → (ℕ → A → B → Type 0) → ℕ → List A → List B → Type 0
SideBySide P n [] [] = Unit {0}
SideBySide P n (x ∷ xs) (y ∷ ys) = P n x y × SideBySide P (suc n) xs ys
SideBySide P n [] (y ∷ ys) = ⊥
SideBySide P n (x ∷ xs) [] = ⊥
