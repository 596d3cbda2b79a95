-- What one worker's thread is given, and what it leaves.
use Rattle.std.specs.Prelude.{◌≡◌, ℕ, suc, Bool, true, List, [], ◌∷◌, length, Option, None, is_some}
use Rattle.bp_page.specs.declared.limits.Geometry.{Geometry}
use Rattle.bp_trail.specs.Parameters.{Parameters}
use Rattle.bp_trail.specs.HeldPasses.{held_passes}
use Rattle.bp_trail.specs.Trail.{Trail}
use Rattle.bp_shared.specs.Sessions.{SessionValue, new_session}
use Rattle.bp_shared.specs.Telling.{GoesOnFrom, IsListOf}
use Rattle.bp_workers.specs.declared.worker.Left.{Left}
use Rattle.bp_workers.specs.Giving.{GoBack}
use Rattle.bp_workers.specs.Workers.{UpkeepValue, new_upkeep, Leaving}

pub record JobValue (W P : Type 0) : Type 0 where
  pub worker : W
  pub port : P
  pub session : SessionValue
  pub upkeep : Option UpkeepValue
  pub held : ℕ
  pub all_went_back : Bool

-- its session said nothing and saw an empty trail, and it has the upkeep where it is of client 0
pub record IsReady {W P : Type 0} (j : JobValue W P) : Type 0 where
  pub new : j.session ≡ new_session [] j.session.client
  pub upkeep : j.upkeep ≡ new_upkeep j.session.client

-- the device has the pages of the pool's file
pub record IsOfPool (p : Parameters) (g : Geometry) : Type 0 where
  pub pages : g.pages ≡ p.pages
  pub size : g.size ≡ p.size

-- the worker did its work over its port and by its session, and then passes that it still held went
-- back
pub record Ran {W P : Type 0} (Leaves : Leaving W P) (old new : JobValue W P) : Type 0 where
  pub returned : SessionValue
  pub leaves : Leaves old.session.client old.worker old.port new.worker new.port returned new.upkeep
  pub whose : new.session.client ≡ old.session.client
  pub client : new.session.client ≡ returned.client
  pub before : new.session.before ≡ returned.before
  pub seen : new.session.seen ≡ returned.seen
  pub held : new.held ≡ length (held_passes returned.said)
  pub back : GoBack returned.said new.session.said
  pub all_back : (new.all_went_back ≡ true) × (held_passes new.session.said ≡ [])
  pub upkeep : is_some new.upkeep ≡ is_some old.upkeep

-- what it leaves: the worker, its port, which is one to the pool's pages, and the session's own
-- list, with what cuts handed out of that, which is all that the trail has of the client since the
-- pool was made; and the trail goes on from what the session saw of it
pub record IsLeftOf {P W K I B S : Type 0} (p : Parameters) (geometry_of : P → Geometry)
    (start past : Trail) (j : JobValue W P) (left : Left P W K I B S) : Type 0 where
  pub worker : left.worker ≡ j.worker
  pub port : left.port ≡ j.port
  pub of_pool : IsOfPool p (geometry_of left.port)
  pub client : left.book.client ≡ j.session.client
  pub before : left.book.before ≡ j.session.before
  pub said : left.book.said ≡ j.session.said
  pub saw : GoesOnFrom j.session.seen past
  pub held : left.held ≡ j.held
  pub all_back : left.all_went_back ≡ j.all_went_back
  pub theirs : IsListOf start past left.book.client left.book.said

-- the jobs are of this client and those after it, in order
abbrev pub AreNumbered : {W P : Type 0} → ℕ → List (JobValue W P) → Type 0
AreNumbered client [] = Unit {0}
AreNumbered client (j ∷ jobs) = (j.session.client ≡ client) × AreNumbered (suc client) jobs

-- the upkeep of the first of some jobs
abbrev pub first_upkeep : {W P : Type 0} → List (JobValue W P) → Option UpkeepValue
first_upkeep [] = None
first_upkeep (j ∷ jobs) = j.upkeep
