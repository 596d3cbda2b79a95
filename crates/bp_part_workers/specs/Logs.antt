-- What the workers of a run share of the log.
use Rattle.std.specs.Prelude.{ℕ}

-- an engine's state, and the greatest LSN that the marks were raised to
pub record SharedLogValue (T : Type 0) : Type 0 where
  pub state : T
  pub raised : ℕ
