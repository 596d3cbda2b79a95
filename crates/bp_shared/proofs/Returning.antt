-- A pass that goes back leaves no more room than there was, since its unfix was owed.
use Rattle.std.proofs.Common.{◌≡◌, refl, ◌≤◌, ℕ, suc, ap, sym, subst, ◌∙◌, Bool, true, false, not, cond, ◌==◌, List, [], ◌∷◌, ◌++◌, length, map, arith}
use Rattle.std.proofs.lemmas.Bool.{eqb-true}
use Rattle.bp_trail.specs.Parameters.{Parameters}
use Rattle.bp_trail.specs.Trail.{Trail}
use Rattle.bp_trail.specs.Event.{Grant}
use Rattle.bp_trail.specs.HeldPasses.{unfix_of}
use Rattle.bp_trail.specs.Lists.{some}
use Rattle.bp_trail.specs.Legal.{Legal}
use Rattle.bp_trail.specs.Passes.{passes_out}
use Rattle.bp_trail.specs.Room.{free_keeping}
use Rattle.bp_core.specs.CoreView.{CoreView, LacksRoomFor}
use Rattle.bp_shared.specs.Keeping.{FillsRoom}
use Rattle.bp_shared.specs.Posting.{TakesBack}
use Rattle.bp_trail.proofs.Serials.{OneSerial, has_serial, rest, none-goes, numbered}

-- of those out at most one has the number
one_less : (n : ℕ) (gs : List Grant) → OneSerial gs → length gs ≤ suc (length (rest n gs))
one_less n [] once = omega arith
one_less n (g ∷ gs) once = go (g.serial == n) (λ is. eqb-true g.serial n is) (one_less n gs once.1)
  where
    go : (b : Bool) → (b ≡ true → g.serial ≡ n) → length gs ≤ suc (length (rest n gs)) → suc (length gs) ≤ suc (length (cond (not b) (g ∷ rest n gs) (rest n gs)))
    go true is ih =
        let none : some (has_serial n) gs ≡ false = subst (λ m. some (has_serial m) gs ≡ false) (is refl) once.0 in
        let all = ap length (none-goes n gs none) in
        omega (arith, all)
    go false is ih = omega (arith, ih)

pub not_freer : (c : Parameters) (passes : List Grant) (past : Trail) → Legal c (map unfix_of passes ++ past) → free_keeping c (length (map unfix_of passes ++ past)) (map unfix_of passes ++ past) ≤ free_keeping c (length past) past
not_freer c [] past legal = omega arith
not_freer c (g ∷ gs) past legal =
    let mid = map unfix_of gs ++ past in
    let more = not_freer c gs past legal.before in
    let fewer = one_less g.serial (passes_out mid) (numbered c mid legal.before).passes_once in
    omega (arith, more, fewer)

-- so a core that lacked room lacks it still
pub still_full : (n : ℕ) (c : Parameters) (client : ℕ) (core after : CoreView) (seen : Trail) → after.parameters ≡ c → LacksRoomFor n core → TakesBack client core after → Legal after.parameters after.past → seen ≡ after.past → FillsRoom n c seen
still_full n c client core after seen are lacks takes legal is =
    let past : after.past ≡ map unfix_of takes.passes ++ core.past = ap (λ (v : CoreView). v.past) takes.is in
    let same : after.parameters ≡ core.parameters = ap (λ (v : CoreView). v.parameters) takes.is in
    let freer = not_freer core.parameters takes.passes core.past (subst (Legal core.parameters) past (subst (λ p. Legal p after.past) same legal)) in
    let full : FillsRoom n core.parameters (map unfix_of takes.passes ++ core.past) = omega (arith, freer, lacks) in
    subst (λ s. FillsRoom n c s) (sym (is ∙ past)) (subst (λ p. FillsRoom n p (map unfix_of takes.passes ++ core.past)) (sym same ∙ are) full)
