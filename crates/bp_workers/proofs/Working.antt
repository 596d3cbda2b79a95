-- The device's work of one part of a list after that of another.
use Rattle.std.proofs.Common.{◌≡◌, refl, ap, ◌∙◌, ℕ, Bool, true, false, ◌∷◌}
use Rattle.bp_page.specs.declared.refusals.Refusal.{Refusal}
use Rattle.bp_page.specs.declared.refusals.Refusal.TheVariants as refusal
use Rattle.bp_trail.specs.declared.entries.Call.TheVariants.{Tick}
use Rattle.bp_trail.specs.declared.entries.Reply.TheVariants.{Done}
use Rattle.bp_trail.specs.Parameters.{Parameters}
use Rattle.bp_trail.specs.Trail.{Trail}
use Rattle.bp_trail.specs.Pieces.{by}
use Rattle.bp_core.specs.Work.{Reads, Writes}
use Rattle.bp_shared.specs.Keeping.{MayAct}
use Rattle.bp_shared.specs.Sessions.{DoesWorkSaid, SessionValue}
use Rattle.bp_shared.specs.Writing.{WithLsnSeen}
use Rattle.bp_shared.proofs.Working.{work-on}
use Rattle.bp_shared.proofs.Writing.{acts_on, work_seen, work_since}
use Rattle.bp_workers.specs.Tries.{Ticks, GivesUp, GoesOn}
use Rattle.bp_workers.proofs.Trying.{gives-up-stays}

module _ {A : Type 0} (reads : Reads A) (writes : Writes A) where
  -- a client that goes on has no work done
  pub goes-on-work : (client steps raised : ℕ) (why : Refusal) (ticked next : Bool) (said mid after : Trail) (port now : A) → DoesWorkSaid reads writes said mid port now → GoesOn client steps raised why ticked next mid after
      → DoesWorkSaid reads writes said after port now
  goes-on-work client steps raised (refusal.NeedLog lsn) ticked next said mid after port now w h = record { piece = w.piece; grows = h.2 ∙ w.grows; through = w.through }
  goes-on-work client steps raised refusal.NoVictim true next said mid after port now w h = record { piece = w.piece; grows = h.1 ∙ w.grows; through = w.through }
  goes-on-work client steps raised refusal.NoVictim false next said mid after port now w h = record {
    piece = by client (Tick steps) Done ∷ w.piece;
    grows = h.1 ∙ ap (λ es. by client (Tick steps) Done ∷ es) w.grows;
    through = (now, w.through, refl);
  }
  goes-on-work client steps raised _ ticked next said mid after port now w h = absurd h

  -- nor has one that gives up
  pub gives-up-work : (ticks : Ticks) (client steps durable : ℕ) (why : Refusal) (ticked : Bool) (answer : Refusal) (said mid after : Trail) (port now : A) → DoesWorkSaid reads writes said mid port now → GivesUp ticks client steps durable why ticked answer mid after
      → DoesWorkSaid reads writes said after port now
  gives-up-work ticks client steps durable why ticked answer said mid after port now w h =
      record { piece = w.piece; grows = gives-up-stays ticks client steps durable why ticked answer mid after h ∙ w.grows; through = w.through }

-- by the LSNs that the session saw from the first try on
module _ {A : Type 0} (reads : Reads A) (writes : Writes A) (c : Parameters) (start : Trail) (old mid new : SessionValue) where
  -- a call that has no work done
  pub shown-work : (said after : Trail) (port now : A) → MayAct c start mid new → DoesWorkSaid reads (WithLsnSeen old mid writes) said after port now → DoesWorkSaid reads (WithLsnSeen old new writes) said after port now
  shown-work said after port now a w = work_seen reads writes old mid new said after port now (acts_on c start mid new a) w

  -- one try more
  pub tried-work : (port now kept : A) → mid.client ≡ old.client → MayAct c start old mid → MayAct c start mid new → DoesWorkSaid reads (WithLsnSeen old mid writes) old.said mid.said port now → DoesWorkSaid reads (WithLsnSeen mid new writes) mid.said new.said now kept
      → DoesWorkSaid reads (WithLsnSeen old new writes) old.said new.said port kept
  tried-work port now kept client a b w v =
      work-on reads (WithLsnSeen old new writes) old.said mid.said new.said port now kept (shown-work old.said mid.said port now b w) (work_since reads writes old mid new mid.said new.said now kept client (acts_on c start old mid a) v)
