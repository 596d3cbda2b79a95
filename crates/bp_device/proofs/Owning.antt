-- The tick before an owner's fix.
use Rattle.std.proofs.Common.{◌≡◌, refl, sym, ◌∙◌, ap, subst, ℕ, Bool, true, false, List, ◌∷◌, ◌++◌, Result, Ok, Err, IfOk}
use Rattle.std.proofs.lemmas.Bool.{eq-eqb}
use Rattle.bp_trail.specs.declared.entries.Call.TheVariants.{Tick, Unfix}
use Rattle.bp_trail.specs.declared.entries.Reply.TheVariants.{Done}
use Rattle.bp_trail.specs.Event.{Grant, grant}
use Rattle.bp_trail.specs.Passes.{passes_out}
use Rattle.bp_trail.specs.Legal.{is_out}
use Rattle.bp_page.specs.declared.refusals.Refusal.{Refusal}
use Rattle.bp_core.specs.declared.passes.Pass.{Pass}
use Rattle.bp_core.specs.CoreView.{CoreView}
use Rattle.bp_core.specs.Outcomes.{pass_is_out, KnowsPass}
use Rattle.bp_core.specs.Work.{Reads, Writes, DoesWork}
use Rattle.bp_device.specs.Drivers.{DrivesFix}
use Rattle.bp_device.specs.Owned.{GoesBack, IsTicked}
use Rattle.bp_device.proofs.Working.{none-yet, one-more, same-as}

-- it has no device work
pub ticked-work : {A : Type 0} (reads : Reads A) (writes : Writes A) (ticks : Bool) (old new : CoreView) (port : A) → IsTicked ticks old new → DoesWork reads writes old port new port
ticked-work reads writes true old new port t = one-more reads writes old old new port port port 0 (Tick 1) Done (none-yet reads writes old port) t.2.is refl
ticked-work reads writes false old new port t = same-as reads writes old old new port port (none-yet reads writes old port) t

pub ticked-parameters : (ticks : Bool) (old new : CoreView) → IsTicked ticks old new → new.parameters ≡ old.parameters
ticked-parameters true old new t = ap (λ core. core.parameters) t.2.is
ticked-parameters false old new t = ap (λ core. core.parameters) t

-- the pass that a fix gave is out
pub fixed-known : (old new : CoreView) (client page : ℕ) (pass : Pass) → DrivesFix old client page (Ok pass) new → KnowsPass new pass
fixed-known old new client page pass d = subst (λ (core : CoreView). pass_is_out pass core.past ≡ true) (sym d.2.is) here
  where
    g : Grant
    g = grant client page pass.serial

    same : grant pass.client pass.page pass.serial ≡ g
    same = ap (λ c. grant c pass.page pass.serial) d.0 ∙ ap (λ p. grant client p pass.serial) d.1

    first : (gs : List Grant) → is_out g (g ∷ gs) ≡ true
    first gs = rw (eq-eqb client client refl, eq-eqb page page refl, eq-eqb pass.serial pass.serial refl) refl

    here : pass_is_out pass (d.2.piece ++ old.past) ≡ true
    here = subst (λ h. is_out h (passes_out (d.2.piece ++ old.past)) ≡ true) (sym same)
        (subst (λ gs. is_out g gs ≡ true) (sym (d.2.gives old.past)) (first (passes_out old.past)))

pub fix-known : (old new : CoreView) (client page : ℕ) (result : Result Pass Refusal) → DrivesFix old client page result new → IfOk result (λ pass. KnowsPass new pass)
fix-known old new client page (Ok pass) d = fixed-known old new client page pass d
fix-known old new client page (Err why) d = tt

-- that a pass goes back has no device work
pub back-work : {A : Type 0} (reads : Reads A) (writes : Writes A) (old new : CoreView) (pass : Pass) (port : A) → GoesBack old pass new → DoesWork reads writes old port new port
back-work reads writes old new pass port b = one-more reads writes old old new port port port pass.client (Unfix pass.serial pass.page) Done (none-yet reads writes old port) b.1.is refl
