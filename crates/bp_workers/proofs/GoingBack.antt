-- Passes that go back, one after the other.
use Rattle.std.proofs.Common.{◌≡◌, refl, sym, ap, ◌∙◌, subst, ℕ, ◌-◌, ◌<◌, ◌≤◌, ◌==◌, arith, suc, not, true, List, [], ◌∷◌, ◌++◌, length, filter, reverse, Some, None, Err, All}
use Rattle.std.specs.Prelude.{slice_get}
use Rattle.std.proofs.lemmas.Bool.{false≢true, and_from, eq-eqb, or_left, or_right}
use Rattle.std.proofs.lemmas.List.{length-reverse, reverse-append, reverse-reverse}
use Rattle.bp_page.specs.declared.refusals.Refusal.{Refusal}
use Rattle.bp_page.specs.declared.refusals.Refusal.TheVariants as refusal
use Rattle.bp_core.specs.declared.passes.Pass.{Pass}
use Rattle.bp_trail.specs.Event.{Grant, grant, same_grant}
use Rattle.bp_trail.specs.Lists.{count, some}
use Rattle.bp_trail.specs.Legal.{is_out}
use Rattle.bp_trail.specs.Passes.{passes_out}
use Rattle.bp_trail.specs.Trail.{Trail}
use Rattle.bp_trail.specs.HeldPasses.{held_passes, unfix_of}
use Rattle.bp_trail.proofs.Counting.{length-split, some-count}
use Rattle.bp_trail.proofs.Lists.{some-append}
use Rattle.bp_trail.proofs.Serials.{out-serial}
use Rattle.bp_shared.specs.Sessions.{SessionValue, UnfixSaid}
use Rattle.bp_workers.specs.Giving.{GoBack}
use Rattle.bp_workers.specs.Giving.GoBack.{no_more, one_more}

pub nothing_back : (said : Trail) → GoBack said said
nothing_back said = no_more

-- what goes back from there goes back from here
pub back_and_on : (said mid after : Trail) → GoBack said mid → GoBack mid after → GoBack said after
back_and_on said mid after so_far no_more = so_far
back_and_on said mid after so_far (one_more g later rest held own) = one_more g later (back_and_on said mid _ so_far rest) held own

rest_of : (held : List Grant) (g : Grant) → slice_get held 0 ≡ Some g → (later : List Grant) × (held ≡ g ∷ later)
rest_of [] g is = absurd (let no = is in cc)
rest_of (h ∷ held) g is = (held, (let same : Some h ≡ Some g = is in cc))

-- of passes that are all one client's, those after the first are the first's client's too
own_of : (client : ℕ) (held later : List Grant) (g : Grant) → held ≡ g ∷ later → All (λ (h : Grant). h.client ≡ client) held → All (λ (h : Grant). h.client ≡ g.client) later
own_of client held later g split own =
    let all : All (λ (h : Grant). h.client ≡ client) (g ∷ later) = subst (All (λ (h : Grant). h.client ≡ client)) split own in
    λ k d below. all (suc k) d (omega (arith, below)) ∙ sym (all 0 g (omega arith))

-- the first pass held goes back
pub first_back : (client : ℕ) (said after : Trail) (held : List Grant) (g : Grant) → held ≡ held_passes said → All (λ (h : Grant). h.client ≡ client) held → slice_get held 0 ≡ Some g → after ≡ unfix_of g ∷ said → GoBack said after
first_back client said after held g are own first grows =
    let split = rest_of held g first in
    subst (GoBack said) (sym grows) (one_more g split.0 no_more (sym are ∙ split.1) (own_of client held split.0 g split.1 own))

-- the first pass held is out, so that it goes back, and then there are fewer
pub first_out : (said : Trail) (g : Grant) → slice_get (held_passes said) 0 ≡ Some g → is_out g (passes_out said) ≡ true
first_out said g first =
    let split = rest_of (held_passes said) g first in
    let out : passes_out said ≡ reverse split.0 ++ g ∷ [] = sym (reverse-reverse (passes_out said)) ∙ ap reverse split.1 ∙ reverse-append (g ∷ []) split.0 in
    ap (is_out g) out ∙ some-append (same_grant g) (reverse split.0) (g ∷ []) ∙ or_right (some (same_grant g) (reverse split.0)) (some (same_grant g) (g ∷ [])) (or_left (same_grant g g) (some (same_grant g) []) (itself g))
  where
    itself : (g : Grant) → same_grant g g ≡ true
    itself g = and_from (g.client == g.client) _ (eq-eqb g.client g.client refl) (and_from (g.page == g.page) _ (eq-eqb g.page g.page refl) (eq-eqb g.serial g.serial refl))

-- a pass that is out is not refused
pub not_refused : (old new : SessionValue) (pass back : Pass) (g : Grant) (why : Refusal) → is_out g (passes_out old.said) ≡ true → pass.client ≡ g.client → pass.page ≡ g.page → pass.serial ≡ g.serial → why ≡ refusal.UnknownPass
    → UnfixSaid {A = Unit {0}} old pass (Err (back, why)) new → ⊥
not_refused old new pass back g why out who on number is h =
    let lost = subst (λ w. UnfixSaid {A = Unit {0}} old pass (Err (back, w)) new) is h in
    let same : grant pass.client pass.page pass.serial ≡ g = λ i. grant (who i) (on i) (number i) in
    false≢true (sym lost.0 ∙ subst (λ x. is_out x (passes_out old.said) ≡ true) (sym same) out)

pub none_fewer : (said : Trail) → slice_get (held_passes said) 0 ≡ None → length (held_passes said) ≤ length (held_passes said) - 1
none_fewer said none = go (held_passes said) none
  where
    go : (gs : List Grant) → slice_get gs 0 ≡ None → length gs ≤ length gs - 1
    go [] is = omega arith
    go (g ∷ gs) is = absurd (let no = is in cc)

pub one_fewer : (said after : Trail) (g : Grant) → slice_get (held_passes said) 0 ≡ Some g → after ≡ unfix_of g ∷ said → length (held_passes after) ≤ length (held_passes said) - 1
one_fewer said after g first grows =
    let has = λ (h : Grant). h.serial == g.serial in
    let there : 0 < count has (passes_out said) = some-count has (passes_out said) (out-serial g.client g.page g.serial (passes_out said) (first_out said g first)) in
    let split = length-split has (passes_out said) in
    let left : length (passes_out after) ≡ length (filter (λ (h : Grant). not (h.serial == g.serial)) (passes_out said)) = ap (λ es. length (passes_out es)) grows in
    omega (arith, there, split, left, length-reverse (passes_out said), length-reverse (passes_out after))
