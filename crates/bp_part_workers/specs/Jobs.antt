-- The job of one client's worker.
use Rattle.std.specs.Prelude.{◌≡◌, ℕ, ◌<◌, List, length, slice_index_or}
use Rattle.bp_ports.specs.Stripes.{StripedView}
use Rattle.bp_parts.specs.Making.{new_in_parts}
use Rattle.bp_parts.specs.Parts.{PartedValue}
use Rattle.bp_part_workers.specs.declared.worker.PartedLeft.{PartedLeft}
use Rattle.bp_part_workers.specs.Workers.{Leaving}

pub record JobValue (W S : Type 0) : Type 0 where
  pub worker : W
  pub port : StripedView S
  pub session : PartedValue

-- its sessions said nothing yet, and there is one in each of so many parts
abbrev pub IsReady : {W S : Type 0} → ℕ → JobValue W S → Type 0
IsReady parts j = j.session.sessions ≡ new_in_parts parts j.session.client

-- the job of a client's worker over its port, before its thread
pub record IsNewJob {W S : Type 0} (parts client : ℕ) (worker : W) (port : StripedView S)
    (j : JobValue W S) : Type 0 where
  pub worker_is : j.worker ≡ worker
  pub port_is : j.port ≡ port
  pub session_is : j.session ≡ record { client = client; sessions = new_in_parts parts client }

-- a job for each worker and its port, in order
pub record AreNewJobs {W S : Type 0} (parts : ℕ) (workers : List W) (ports : List (StripedView S))
    (jobs : List (JobValue W S)) : Type 0 where
  pub count : length jobs ≡ length workers
  pub each : (c : ℕ) (w : W) (p : StripedView S) (j : JobValue W S) → c < length workers
      → IsNewJob parts c (slice_index_or workers c w) (slice_index_or ports c p)
      (slice_index_or jobs c j)

-- the worker did its work over its port and by its sessions
pub record Ran {W S : Type 0} (Leaves : Leaving W S) (old new : JobValue W S) : Type 0 where
  pub whose : new.session.client ≡ old.session.client
  pub leaves : Leaves old.session.client old.worker old.port new.worker new.port
      new.session.sessions

-- the sessions of a job, and what else is left of it
pub record IsTakenApart {W S : Type 0} (j : JobValue W S) (session : PartedValue)
    (left : PartedLeft W S) : Type 0 where
  pub session_is : session ≡ j.session
  pub worker_is : left.worker ≡ j.worker
  pub port_is : left.port ≡ j.port

pub record AreTakenApart {W S : Type 0} (jobs : List (JobValue W S)) (sessions : List PartedValue)
    (left : List (PartedLeft W S)) : Type 0 where
  pub sessions_are : length sessions ≡ length jobs
  pub left_are : length left ≡ length jobs
  pub each : (c : ℕ) (j : JobValue W S) (s : PartedValue) (l : PartedLeft W S) → c < length jobs
      → IsTakenApart (slice_index_or jobs c j) (slice_index_or sessions c s)
      (slice_index_or left c l)
