-- What holds after a run of workers.
use Rattle.std.specs.Prelude.{◌≡◌, ℕ, ◌≤◌, zero, suc, true, All, List, [], length, Option, Some, None, Result, Ok, Err}
use Rattle.bp_page.specs.declared.limits.Geometry.{Geometry}
use Rattle.bp_page.specs.declared.refusals.Refusal.{Refusal}
use Rattle.bp_page.specs.declared.refusals.Refusal.TheVariants as refusal
use Rattle.bp_trail.specs.Clock.{durable}
use Rattle.bp_trail.specs.HeldPasses.{held_passes}
use Rattle.bp_trail.specs.Clients.{of_client}
use Rattle.bp_core.specs.CoreView.{CoreView}
use Rattle.bp_core.specs.Outcomes.{IsFitUpTo}
use Rattle.bp_shared.specs.Sessions.{SessionValue, new_session}
use Rattle.bp_shared.specs.Telling.{GoesOnFrom}
use Rattle.bp_core.specs.declared.config.Config.{Config}
use Rattle.bp_core.specs.Agreement.{parameters_with}
use Rattle.bp_workers.specs.declared.worker.Left.{Left}
use Rattle.bp_workers.specs.Giving.{GoBack}
use Rattle.bp_workers.specs.Workers.{UpkeepValue, new_upkeep, Leaving}
use Rattle.bp_workers.specs.Jobs.{IsOfPool, JobValue}

-- there are 1 to 64 workers, and as many ports, on devices of the geometry
pub record FitTogether {P : Type 0} (geometry_of : P → Geometry) (config : Config)
    (ports : List P) (workers : ℕ) : Type 0 where
  pub some : 1 ≤ workers
  pub few : workers ≤ 64
  pub ports_are : length ports ≡ workers
  pub of_file : All (λ p. geometry_of p ≡ config.geometry) ports

-- and a core can be made for them, whose keeper has room for so many entries at most
pub record CanRunUpTo {P : Type 0} (most_room : ℕ) (geometry_of : P → Geometry)
    (config : Config) (ports : List P) (workers : ℕ) : Type 0 where
  pub fit : FitTogether geometry_of config ports workers
  pub core : IsFitUpTo most_room (parameters_with config workers)

-- and one whose keeper has the entries in memory
abbrev pub CanRun : {P : Type 0} → (P → Geometry) → Config → List P → ℕ → Type 0
CanRun geometry_of config ports workers = CanRunUpTo 16777216 geometry_of config ports workers

-- why a run is refused
abbrev pub RunAnswers : {A : Type 0} → Type 0 → Result A Refusal → Type 0
RunAnswers can_run (Ok run) = can_run
RunAnswers can_run (Err refusal.BadSettings) = ¬ can_run
RunAnswers can_run (Err refusal.OutOfMemory) = can_run
RunAnswers can_run (Err _) = ⊥

-- client 0 alone has the upkeep still: what was taken is all that the core handed out, and the core
-- was told of no LSN above what the mark was raised to
abbrev pub KeepsUp : CoreView → ℕ → Option UpkeepValue → Type 0
KeepsUp core zero None = ⊥
KeepsUp core zero (Some u) = (u.taken ≡ core.before) × (durable core.past ≤ u.raised)
KeepsUp core (suc client) None = Unit {0}
KeepsUp core (suc client) (Some u) = ⊥

-- what a client's worker left of itself and of the port that it was given, by its own word, and
-- what client 0's upkeep came to; the port is still one to the pool's pages; the book is the
-- client's. Then the passes go back that it held, and the session's list is handed over, less what
-- was cut. It is all that the core's trail has of the client, each unfix in its place. What the
-- session saw of the trail is the older part of the core's
pub record LeftBy {P W K I B S : Type 0} (core : CoreView) (geometry_of : P → Geometry)
    (Leaves : Leaving W P)
    (client : ℕ) (given : W × P) (left : Left P W K I B S) : Type 0 where
  pub returned : SessionValue
  pub upkeep : Option UpkeepValue
  pub leaves : Leaves client given.0 given.1 left.worker left.port returned upkeep
  pub keeps_up : KeepsUp core client upkeep
  pub of_pool : IsOfPool core.parameters (geometry_of left.port)
  pub whose : left.book.client ≡ client
  pub client_is : left.book.client ≡ returned.client
  pub held : left.held ≡ length (held_passes returned.said)
  pub back : GoBack returned.said left.book.said
  pub all_back : (left.all_went_back ≡ true) × (held_passes left.book.said ≡ [])
  pub cut : left.book.before ≡ returned.before
  pub saw : GoesOnFrom returned.seen core.past
  pub theirs : of_client client core.past ≡ left.book.said

-- the job of a client's worker over its port, before its thread
pub record IsNewJob {W P : Type 0} (client : ℕ) (given : W × P) (j : JobValue W P) : Type 0 where
  pub worker_is : j.worker ≡ given.0
  pub port_is : j.port ≡ given.1
  pub session : j.session ≡ new_session [] client
  pub upkeep : j.upkeep ≡ new_upkeep client
