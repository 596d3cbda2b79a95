-- Where no two passes have one serial number, a pass that goes back is the only one that is removed.
use Rattle.std.proofs.Common.{◌≡◌, refl, sym, ◌∙◌, ap, subst, ℕ, ◌≤◌, arith, cond, List, [], ◌∷◌, ◌++◌, true, false, not, Bool, ◌==◌, Option, Some, None, length}
use Rattle.std.specs.Prelude.{filter}
use Rattle.std.proofs.lemmas.Bool.{eq-eqb}
use Rattle.std.proofs.lemmas.List.{length-reverse}
use Rattle.std.proofs.lemmas.List.Elements.{filter-append}
use Rattle.bp_trail.specs.Lists.{count, without, and_given}
use Rattle.bp_trail.specs.Event.{Grant, pass_back}
use Rattle.bp_trail.specs.Trail.{Trail}
use Rattle.bp_trail.specs.Passes.{passes_out, pass_of}
use Rattle.bp_trail.specs.Legal.{Legal}
use Rattle.bp_trail.proofs.Counting.{count-cons, count-append, filter-reverse}
use Rattle.bp_trail.proofs.LegalLaws.{passes-once}
use Rattle.bp_core.specs.CoreView.{CoreView}
use Rattle.bp_replay.specs.Rows.{EndsIn, SerialsDiffer}

-- what is out by the newest entries, and then what they leave of the passes out before them
record OutBefore (said start : Trail) : Type 0 where
  older : List Grant
  is : passes_out (said ++ start) ≡ passes_out said ++ older

without-append : (o : Option ℕ) (xs ys : List Grant) → without (λ (g : Grant). g.serial) o (xs ++ ys) ≡ without (λ (g : Grant). g.serial) o xs ++ without (λ (g : Grant). g.serial) o ys
without-append None xs ys = refl
without-append (Some n) xs ys = filter-append (λ g. not (g.serial == n)) xs ys

given-append : (o : Option Grant) (xs ys : List Grant) → and_given o (xs ++ ys) ≡ and_given o xs ++ ys
given-append None xs ys = refl
given-append (Some g) xs ys = refl

out-before : (said start : Trail) → OutBefore said start
out-before [] start = record { older = passes_out start; is = refl }
out-before (e ∷ said) start =
    let before = out-before said start in
    record {
      older = without (λ (g : Grant). g.serial) (pass_back e.call) before.older;
      is = ap (λ gs. and_given (pass_of e) (without (λ (g : Grant). g.serial) (pass_back e.call) gs)) before.is
          ∙ ap (and_given (pass_of e)) (without-append (pass_back e.call) (passes_out said) before.older)
          ∙ given-append (pass_of e) (without (λ (g : Grant). g.serial) (pass_back e.call) (passes_out said)) (without (λ (g : Grant). g.serial) (pass_back e.call) before.older);
    }

-- the passes that the newest entries of a legal trail leave out have serial numbers of their own
pub differ-in-legal : (core : CoreView) (held : List Grant) → EndsIn core held → Legal core.parameters core.past → SerialsDiffer held
differ-in-legal core held ends legal n =
    let before = out-before ends.said ends.start in
    let once : count (λ (g : Grant). g.serial == n) (passes_out ends.said ++ before.older) ≤ 1 =
    subst (λ gs. count (λ (g : Grant). g.serial == n) gs ≤ 1) (ap passes_out ends.joined ∙ before.is) (passes-once core.parameters core.past n legal) in
    let newest : count (λ (g : Grant). g.serial == n) (passes_out ends.said) ≤ 1 = omega (arith, once, count-append (λ (g : Grant). g.serial == n) (passes_out ends.said) before.older) in
    subst (λ gs. count (λ (g : Grant). g.serial == n) gs ≤ 1) (sym ends.are_held)
    (omega (arith, newest, ap length (filter-reverse (λ (g : Grant). g.serial == n) (passes_out ends.said)), length-reverse (filter (λ (g : Grant). g.serial == n) (passes_out ends.said))))

-- none has the number, so none is removed
pub none-removed : (n : ℕ) (gs : List Grant) → count (λ (g : Grant). g.serial == n) gs ≡ 0 → filter (λ g. not (g.serial == n)) gs ≡ gs
none-removed n [] none = refl
none-removed n (g ∷ gs) none = go (g.serial == n) none (none-removed n gs)
  where
    go : (b : Bool) → length (cond b (g ∷ filter (λ (g : Grant). g.serial == n) gs) (filter (λ (g : Grant). g.serial == n) gs)) ≡ 0
        → (count (λ (g : Grant). g.serial == n) gs ≡ 0 → filter (λ g. not (g.serial == n)) gs ≡ gs) → cond (not b) (g ∷ filter (λ g. not (g.serial == n)) gs) (filter (λ g. not (g.serial == n)) gs) ≡ g ∷ gs
    go true none ih = absurd (omega (arith, none))
    go false none ih = ap (λ hs. g ∷ hs) (ih none)

-- one has the number, and it alone is removed
pub one-removed : (xs ys : List Grant) (g : Grant) → count (λ (h : Grant). h.serial == g.serial) (xs ++ g ∷ ys) ≤ 1 → filter (λ h. not (h.serial == g.serial)) (xs ++ g ∷ ys) ≡ xs ++ ys
one-removed xs ys g once =
    let itself : (g.serial == g.serial) ≡ true = eq-eqb g.serial g.serial refl in
    let all = count-append (λ (h : Grant). h.serial == g.serial) xs (g ∷ ys) in
    let here = count-cons (λ (h : Grant). h.serial == g.serial) g ys in
    let one : cond (g.serial == g.serial) 1 0 ≡ 1 = ap {B = ℕ} (λ b. cond b 1 0) itself in
    let before : count (λ (h : Grant). h.serial == g.serial) xs ≡ 0 = omega (arith, once, all, here, one) in
    let after : count (λ (h : Grant). h.serial == g.serial) ys ≡ 0 = omega (arith, once, all, here, one) in
    filter-append (λ h. not (h.serial == g.serial)) xs (g ∷ ys)
    ∙ ap (λ b. filter (λ h. not (h.serial == g.serial)) xs ++ cond (not b) (g ∷ filter (λ h. not (h.serial == g.serial)) ys) (filter (λ h. not (h.serial == g.serial)) ys)) itself
    ∙ ap (λ hs. hs ++ filter (λ h. not (h.serial == g.serial)) ys) (none-removed g.serial xs before) ∙ ap (λ hs. xs ++ hs) (none-removed g.serial ys after)
