-- What client 0 is given besides its session and its port, and what a worker says of its work.
use Rattle.std.specs.Prelude.{ℕ, zero, suc, [], Option, Some, None}
use Rattle.bp_trail.specs.Trail.{Trail}
use Rattle.bp_shared.specs.Sessions.{SessionValue}
use Rattle.bp_workers.specs.declared.worker.Upkeep.{Upkeep}

-- the greatest LSN that the mark was raised to, and what was taken of the trail
pub record UpkeepValue : Type 0 where
  pub raised : ℕ
  pub taken : Trail

abbrev pub upkeep_value : {N : Type 0} → Upkeep N → UpkeepValue
upkeep_value u = record { raised = u.log; taken = u.taker.past }

abbrev pub held_upkeep : {N : Type 0} → Option (Upkeep N) → Option UpkeepValue
held_upkeep None = None
held_upkeep (Some u) = Some (upkeep_value u)

-- the mark is at 0, and nothing was taken
abbrev pub unused_upkeep : UpkeepValue
unused_upkeep = record { raised = 0; taken = [] }

-- client 0 alone has it
abbrev pub new_upkeep : ℕ → Option UpkeepValue
new_upkeep zero = Some unused_upkeep
new_upkeep (suc client) = None

-- by a client's number, its worker and port before the work, both after it, its session after it,
-- and client 0's upkeep
abbrev pub Leaving : Type 0 → Type 0 → Type 1
Leaving W P = ℕ → W → P → W → P → SessionValue → Option UpkeepValue → Type 0
