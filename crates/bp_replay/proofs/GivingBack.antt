-- Which pass goes back next, and that each goes back once.
use Rattle.std.proofs.Common.{◌≡◌, refl, sym, ◌∙◌, ap, ℕ, suc, ◌<◌, ◌≤◌, nat_le, arith, cond, List, [], ◌∷◌, true, false, not, Bool, ◌==◌, ◌&&◌, ◌||◌, Some, length}
use Rattle.std.specs.Prelude.{All, Any, find, filter}
use Rattle.std.specs.List.{list_any, list_all}
use Rattle.std.proofs.lemmas.Bool.{eqb-true, eq-eqb, eqb-false, and_parts, and_from, le-leb, leb-true}
use Rattle.std.proofs.lemmas.List.Elements.{All-tail}
use Rattle.std.proofs.lemmas.List.Folds.{list_any-from_Any}
use Rattle.bp_trail.specs.Lists.{every}
use Rattle.bp_trail.specs.Event.{Grant}
use Rattle.bp_scripts.specs.Script.{first_to_go_back}

pub list_all-from_All : (n : ℕ) (gs : List Grant) → All (λ g. n ≤ g.client) gs → list_all (λ g. nat_le n g.client) gs ≡ true
list_all-from_All n [] all = refl
list_all-from_All n (g ∷ gs) all = and_from _ _ (le-leb n g.client (all 0 g (omega arith))) (list_all-from_All n gs (All-tail (λ g. n ≤ g.client) g gs all))

every-list_all : (p : Grant → Bool) (gs : List Grant) → every p gs ≡ list_all p gs
every-list_all p [] = refl
every-list_all p (g ∷ gs) = ap (λ b. p g && b) (every-list_all p gs)

and-false : (b : Bool) → (b && false) ≡ false
and-false true = refl
and-false false = refl

-- a client above one that holds a pass is not the lowest
above-lowest : (n lowest : ℕ) → nat_le n lowest ≡ false → (gs : List Grant) → list_any (λ g. g.client == lowest) gs ≡ true → every (λ h. nat_le n h.client) gs ≡ false
above-lowest n lowest above [] any = sym any
above-lowest n lowest above (g ∷ gs) any = go (g.client == lowest) refl any (above-lowest n lowest above gs)
  where
    go : (b : Bool) → (g.client == lowest) ≡ b → (b || list_any (λ g. g.client == lowest) gs) ≡ true → (list_any (λ g. g.client == lowest) gs ≡ true → every (λ h. nat_le n h.client) gs ≡ false)
        → (nat_le n g.client && every (λ h. nat_le n h.client) gs) ≡ false
    go true is any ih = ap (λ m. nat_le n m && every (λ h. nat_le n h.client) gs) (eqb-true g.client lowest is) ∙ ap (λ b. b && every (λ h. nat_le n h.client) gs) above
    go false is any ih = ap (λ b. nat_le n g.client && b) (ih any) ∙ and-false (nat_le n g.client)

pub no-more : (n : ℕ) (gs : List Grant) → length (filter (λ g. not (g.serial == n)) gs) ≤ length gs
no-more n [] = omega arith
no-more n (g ∷ gs) = go (g.serial == n) (no-more n gs)
  where
    go : (b : Bool) → length (filter (λ g. not (g.serial == n)) gs) ≤ length gs → length (cond (not b) (g ∷ filter (λ g. not (g.serial == n)) gs) (filter (λ g. not (g.serial == n)) gs)) ≤ suc (length gs)
    go true fewer = let there : length (filter (λ g. not (g.serial == n)) gs) ≤ suc (length gs) = omega arith in there
    go false fewer = let there : suc (length (filter (λ g. not (g.serial == n)) gs)) ≤ suc (length gs) = omega arith in there

-- where every client that holds a pass is at least the lowest, and that one holds one, its passes are those below no other's
module _ (lowest : ℕ) (held : List Grant) (least : list_all (λ g. nat_le lowest g.client) held ≡ true) (taken : list_any (λ g. g.client == lowest) held ≡ true) where
  same-test : (g : Grant) → nat_le lowest g.client ≡ true → (g.client == lowest) ≡ every (λ h. nat_le g.client h.client) held
  same-test g at_least = go (g.client == lowest) refl
    where
      go : (b : Bool) → (g.client == lowest) ≡ b → b ≡ every (λ h. nat_le g.client h.client) held
      go true is = sym (every-list_all (λ h. nat_le g.client h.client) held ∙ ap (λ n. list_all (λ h. nat_le n h.client) held) (eqb-true g.client lowest is) ∙ least)
      go false is = sym (above-lowest g.client lowest (grind (arith, eqb-false g.client lowest is, leb-true lowest g.client at_least)) held taken)

  same-find : (gs : List Grant) → list_all (λ g. nat_le lowest g.client) gs ≡ true → find (λ g. g.client == lowest) gs ≡ find (λ g. every (λ h. nat_le g.client h.client) held) gs
  same-find [] all = refl
  same-find (g ∷ gs) all = ap (λ b. cond b (Some g) (find (λ g. g.client == lowest) gs)) (same-test g (and_parts _ _ all).0)
      ∙ ap (λ o. cond (every (λ h. nat_le g.client h.client) held) (Some g) o) (same-find gs (and_parts _ _ all).1)

pub any-test : (lowest : ℕ) (held : List Grant) → Any (λ g. g.client ≡ lowest) held → list_any (λ g. g.client == lowest) held ≡ true
any-test lowest held any = list_any-from_Any (λ g. g.client == lowest) held (any.0, any.1, any.2, any.3, eq-eqb any.1.client lowest any.4)

pub lowest-first : (lowest : ℕ) (held : List Grant) → list_all (λ g. nat_le lowest g.client) held ≡ true → list_any (λ g. g.client == lowest) held ≡ true → find (λ g. g.client == lowest) held ≡ first_to_go_back held
lowest-first lowest held least taken = same-find lowest held least taken held least

-- without the passes of a serial number that some has, there are fewer
pub fewer-without : (n : ℕ) (gs : List Grant) → list_any (λ g. g.serial == n) gs ≡ true → length (filter (λ g. not (g.serial == n)) gs) < length gs
fewer-without n [] any = cc
fewer-without n (g ∷ gs) any = go (g.serial == n) any (fewer-without n gs)
  where
    fewer : length (filter (λ g. not (g.serial == n)) gs) ≤ length gs
    fewer = no-more n gs

    go : (b : Bool) → (b || list_any (λ g. g.serial == n) gs) ≡ true → (list_any (λ g. g.serial == n) gs ≡ true → length (filter (λ g. not (g.serial == n)) gs) < length gs)
        → length (cond (not b) (g ∷ filter (λ g. not (g.serial == n)) gs) (filter (λ g. not (g.serial == n)) gs)) < suc (length gs)
    go true any less = let there : length (filter (λ g. not (g.serial == n)) gs) < suc (length gs) = omega (arith, fewer) in there
    go false any less =
        let l = less any in
        let there : suc (length (filter (λ g. not (g.serial == n)) gs)) < suc (length gs) = omega (arith, l) in there
