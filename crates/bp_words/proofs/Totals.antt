-- Totals of the views, after one of them changes or one more comes.
use Rattle.std.proofs.Common.{◌≡◌, ◌≢◌, ℕ, zero, suc, ◌+◌, ◌≤◌, List, [], ◌∷◌, ◌++◌, set, refl, sym, ap, arith}
use mathlib.Core.Option.{some, some-injective, some-ne-none}
use lib.ListN.{get_elem?}
use Rattle.bp_words.specs.declared.views.View.{View}
use Rattle.bp_words.specs.Rule.{total}

pub total_set : (f : View → ℕ) (views : List View) (id : ℕ) (v w : View) → get_elem? views id ≡ some v → total f (set views id w) + f v ≡ total f views + f w
total_set f [] id v w there = absurd (some-ne-none v (sym there))
total_set f (x ∷ xs) zero v w there = let same : f x ≡ f v = ap f (some-injective x v there) in omega arith
total_set f (x ∷ xs) (suc id) v w there = let rest = total_set f xs id v w there in omega arith

pub total_snoc : (f : View → ℕ) (views : List View) (w : View) → total f (views ++ w ∷ []) ≡ total f views + f w
total_snoc f [] w = omega arith
total_snoc f (x ∷ xs) w = let rest = total_snoc f xs w in omega arith

pub total_at : (f : View → ℕ) (views : List View) (id : ℕ) (v : View) → get_elem? views id ≡ some v → f v ≤ total f views
total_at f [] id v there = absurd (some-ne-none v (sym there))
total_at f (x ∷ xs) zero v there = let same : f x ≡ f v = ap f (some-injective x v there) in omega arith
total_at f (x ∷ xs) (suc id) v there = let rest = total_at f xs id v there in omega arith

-- a total of what is no more in each view
pub total_le : (f g : View → ℕ) (views : List View) → ((seat : ℕ) (v : View) → get_elem? views seat ≡ some v → f v ≤ g v) → total f views ≤ total g views
total_le f g [] each = omega arith
total_le f g (x ∷ xs) each =
    let first : f x ≤ g x = each 0 x refl in
    let rest = total_le f g xs (λ seat v there. each (suc seat) v there) in
    omega arith

pub total_plus : (f g : View → ℕ) (views : List View) → total (λ v. f v + g v) views ≡ total f views + total g views
total_plus f g [] = omega arith
total_plus f g (x ∷ xs) = let rest = total_plus f g xs in omega arith

-- a total of what is in no view
pub total_zero : (f : View → ℕ) (views : List View) → ((seat : ℕ) (v : View) → get_elem? views seat ≡ some v → f v ≡ 0) → total f views ≡ 0
total_zero f [] each = refl
total_zero f (x ∷ xs) each =
    let first : f x ≡ 0 = each 0 x refl in
    let rest = total_zero f xs (λ seat v there. each (suc seat) v there) in
    omega arith

-- two views have no more than all
pub total_two : (f : View → ℕ) (views : List View) (id other : ℕ) (v u : View) → id ≢ other → get_elem? views id ≡ some v → get_elem? views other ≡ some u → f v + f u ≤ total f views
total_two f [] id other v u apart at at' = absurd (some-ne-none v (sym at))
total_two f (x ∷ xs) zero zero v u apart at at' = absurd (apart refl)
total_two f (x ∷ xs) zero (suc other) v u apart at at' =
    let same : f x ≡ f v = ap f (some-injective x v at) in
    let rest = total_at f xs other u at' in
    omega arith
total_two f (x ∷ xs) (suc id) zero v u apart at at' =
    let same : f x ≡ f u = ap f (some-injective x u at') in
    let rest = total_at f xs id v at in
    omega arith
total_two f (x ∷ xs) (suc id) (suc other) v u apart at at' =
    let rest = total_two f xs id other v u (λ e. apart (ap suc e)) at at' in
    omega arith

-- a total of what is in one view alone
pub total_only : (f : View → ℕ) (views : List View) (id : ℕ) (v : View) → get_elem? views id ≡ some v → ((seat : ℕ) (u : View) → seat ≢ id → get_elem? views seat ≡ some u → f u ≡ 0) → total f views ≡ f v
total_only f [] id v at others = absurd (some-ne-none v (sym at))
total_only f (x ∷ xs) zero v at others =
    let same : f x ≡ f v = ap f (some-injective x v at) in
    let rest = total_zero f xs (λ seat u there. others (suc seat) u (λ (e : suc seat ≡ zero). omega arith) there) in
    omega arith
total_only f (x ∷ xs) (suc id) v at others =
    let first : f x ≡ 0 = others zero x (λ (e : zero ≡ suc id). omega arith) refl in
    let rest = total_only f xs id v at (λ seat u apart there. others (suc seat) u (λ (e : suc seat ≡ suc id). apart (omega arith)) there) in
    omega arith
