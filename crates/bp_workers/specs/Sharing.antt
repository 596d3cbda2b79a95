-- What the workers of a run share.
use Rattle.bp_trail.specs.Trail.{Trail}
use Rattle.bp_shared.specs.Telling.{GoesOnFrom}

-- a state, and what was seen of the pool's trail
pub record SharedValue (S : Type 0) : Type 0 where
  pub state : S
  pub seen : Trail

-- the state agrees with what a receipt had seen of the pool's trail, which is the older part of it
pub record AgreesSoFar {S : Type 0} (agrees : S → Trail → Type 0) (state : S) (past : Trail)
    : Type 0 where
  pub seen : Trail
  pub agrees_with : agrees state seen
  pub older : GoesOnFrom seen past
