-- What the locked state and a session's list have in common.
use Rattle.std.specs.Prelude.{◌≡◌, ℕ, ◌≤◌, List, ◌++◌}
use Rattle.bp_mark.specs.Marks.{MarkName, ReaderValue}
use Rattle.bp_trail.specs.Parameters.{Parameters}
use Rattle.bp_trail.specs.Trail.{Trail}
use Rattle.bp_trail.specs.Clock.{durable}
use Rattle.bp_trail.specs.Legal.{Legal}
use Rattle.bp_core.specs.CoreView.{CoreView}
pub use Rattle.bp_session_log.specs.Causes.{not_refused, LooksFirst, FixStep, FlushStep}
use Rattle.bp_session_log.specs.Rings.{RingView, DrainsRings}
use Rattle.bp_shared.specs.Sessions.{SessionValue}
use Rattle.bp_shared.specs.Posting.{TakesBack}
use Rattle.bp_shared.specs.Telling.{IsListOf}

-- no pool's parameters
abbrev pub no_parameters : Parameters
no_parameters =
    record {
      frames = 0;
      k = 0;
      correlated = 0;
      retained = 0;
      pages = 0;
      size = 0;
      clients = 0;
      room = 0;
    }

-- what lies under the lock: the number of the pool, the core, the greatest LSN that its reader has
-- seen, how often device work ended, modulo 2^64, and the rings in the order in which they are
-- drained
pub record LockedValue : Type 0 where
  pub part : ℕ
  pub core : CoreView
  pub seen : ℕ
  pub ends : ℕ
  pub rings : List RingView

-- the reader is the mark's, the core was made with these parameters, and every LSN that it marked
-- was seen
pub record IsLocked (mark : MarkName) (parameters : Parameters) (core : CoreView)
    (reader : ReaderValue) : Type 0 where
  pub reader_is : reader.mark ≡ mark
  pub parameters_are : core.parameters ≡ parameters
  pub seen : durable core.past ≤ reader.seen

-- the rings were drained, and nothing else was done
pub record Drained (old new : LockedValue) : Type 0 where
  pub part : new.part ≡ old.part
  pub parameters : new.core.parameters ≡ old.core.parameters
  pub before : new.core.before ≡ old.core.before
  pub seen : new.seen ≡ old.seen
  pub ends : new.ends ≡ old.ends
  pub drained : DrainsRings 32 0 old.rings new.rings old.core.past new.core.past

-- the rings were drained, and nothing was done since
abbrev pub IsDrained : LockedValue → Type 0
IsDrained state = (was : LockedValue) × Drained was state

-- they were drained, and then looked into, which shows that no more came out
pub record DrainedStill (old new : LockedValue) : Type 0 where
  pub late : LockedValue
  pub drained : Drained old late
  pub same : new ≡ record late { rings = new.rings }

-- a section of a session has begun: rings were drained, the session's own, with both its ends at
-- hand, and rings once more; so the trail's entries of the client are the session's list, and its
-- ring is empty. Both are of one pool
pub record Enters (start : Trail) (session : SessionValue) (state : LockedValue) : Type 0 where
  pub was : LockedValue
  pub mid : LockedValue
  pub own : LockedValue
  pub before : Drained was mid
  pub takes : TakesBack session.client mid.core own.core
  pub after : DrainedStill own state
  pub legal : Legal state.core.parameters state.core.past
  pub list_is : IsListOf start state.core.past session.client session.said
  pub emptied : session.free ≡ 32
  pub part : session.part ≡ state.part

-- the core did what the event says, and the trail and the list got the same entries
pub record InStep (Event : CoreView → CoreView → Type 0) (old : LockedValue) (said : Trail)
    (new : LockedValue) (after : Trail) : Type 0 where
  pub event : Event old.core new.core
  pub rings_stay : new.rings ≡ old.rings
  pub piece : Trail
  pub is : new.core ≡ record old.core { past = piece ++ old.core.past }
  pub grows : after ≡ piece ++ said
