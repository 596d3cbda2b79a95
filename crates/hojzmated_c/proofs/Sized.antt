-- An image that goes out has the size of a page.
use Rattle.std.proofs.Common.{◌≡◌, subst, ℕ, List, ◌∷◌, length}
use Rattle.bp_trail.specs.declared.entries.Call.{Call}
use Rattle.bp_trail.specs.declared.entries.Reply.TheVariants.{WriteFirst}
use Rattle.bp_trail.specs.Parameters.{Parameters}
use Rattle.bp_trail.specs.Trail.{Trail}
use Rattle.bp_trail.specs.Legal.{Legal}
use Rattle.bp_trail.specs.Pieces.{by}
use Rattle.bp_trail.proofs.Events.{Event, event-of}
use Rattle.bp_trail.proofs.Events.Event.{fix_write, flush_write}
use Rattle.bp_trail.proofs.Victim.{victim-is, candidate-resident}
use Rattle.bp_trail.proofs.Ranges.{sized}
use Rattle.bp_core.specs.CoreView.{CoreView}
use Rattle.bp_core.specs.Outcomes.{Adds}

sized-event : (c : Parameters) (past : Trail) (who : ℕ) (call : Call) (t p : ℕ) (image : List ℕ) → Legal c past → Event c past who call (WriteFirst t p image) → length image ≡ c.size
sized-event c past who call t p image l (fix_write q v m found go) = sized c past l v (candidate-resident c past v (victim-is c past v found).eligible)
sized-event c past who call t p image l (flush_write q here w go) = sized c past l q here

pub sent_sized : (old new : CoreView) (client : ℕ) (call : Call) (t p : ℕ) (image : List ℕ) → Adds old client call (WriteFirst t p image) new → length image ≡ old.parameters.size
sent_sized old new client call t p image adds =
    let l : Legal old.parameters (by client call (WriteFirst t p image) ∷ old.past) = subst (λ (core : CoreView). Legal core.parameters core.past) adds.is adds.legal in
    sized-event old.parameters old.past client call t p image l.before (event-of old.parameters old.past (by client call (WriteFirst t p image)) l.here)
