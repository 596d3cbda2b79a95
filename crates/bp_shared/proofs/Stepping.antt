-- What the locked state and a session's list have in common after a critical section, and what one turn of a call adds.
use Rattle.std.proofs.Common.{◌≡◌, ◌⊎◌, ◌≤◌, ◌<◌, refl, ap, subst, ◌∙◌, ℕ, true, false, [], ◌∷◌, ◌++◌, Result, Ok, Err, inl, inr}
use Rattle.bp_page.specs.declared.refusals.Refusal.{Refusal}
use Rattle.bp_page.specs.declared.refusals.Refusal.TheVariants as refusal
use Rattle.bp_trail.specs.declared.entries.Call.TheVariants.{Mark}
use Rattle.bp_trail.specs.Trail.{Trail}
use Rattle.bp_trail.specs.Clock.{durable}
use Rattle.bp_core.specs.CoreView.{CoreView, with_entry}
use Rattle.bp_core.specs.Outcomes.{StepOutcome}
use Rattle.bp_session_log.specs.Books.{Alike}
use Rattle.bp_session_log.specs.Turns.{LookOutcome, Marked, MarksOnce}
use Rattle.bp_session_log.specs.Causes.{Looks}
use Rattle.bp_shared.specs.Locked.{LockedValue, InStep}

-- the trail and the list got the same entries since
pub record Grows (start : CoreView) (said : Trail) (core : CoreView) (after : Trail) : Type 0 where
  pub piece : Trail
  pub is : core ≡ record start { past = piece ++ start.past }
  pub grows : after ≡ piece ++ said

pub grows_none : (core : CoreView) (said : Trail) → Grows core said core said
grows_none core said = record { piece = []; is = refl; grows = refl }

-- one more entry in both
pub grows_more : (start mid core : CoreView) (said told after : Trail) → Grows start said mid told → Alike mid told core after → Grows start said core after
grows_more start mid core said told after s (inl a) = record { piece = s.piece; is = a.0 ∙ s.is; grows = a.1 ∙ s.grows }
grows_more start mid core said told after s (inr a) =
    let e = a.0 in
    record {
      piece = e ∷ s.piece;
      is = a.1 ∙ ap (λ (core : CoreView). with_entry core e.client e.call e.reply) s.is;
      grows = a.2 ∙ ap (λ es. e ∷ es) s.grows;
    }

-- an event, by which the rings stay
step : (Event : CoreView → CoreView → Type 0) (old new : LockedValue) (said after : Trail) → new.rings ≡ old.rings → Event old.core new.core → Grows old.core said new.core after → InStep Event old said new after
step Event old new said after rings event g = record { event = event; rings_stay = rings; piece = g.piece; is = g.is; grows = g.grows }

pub step_one : (Event : CoreView → CoreView → Type 0) (old new : LockedValue) (said after : Trail) → new.rings ≡ old.rings → Event old.core new.core → Alike old.core said new.core after → InStep Event old said new after
step_one Event old new said after rings event a = step Event old new said after rings event (grows_more old.core old.core new.core said said after (grows_none old.core said) a)

abbrev pub err : (A : Type 0) → Refusal → Result A Refusal
err A r = Err r
