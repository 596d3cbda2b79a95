-- How far a log is durable, and how far a mark is raised.
use Rattle.std.specs.Prelude.{ℕ, ◌≤◌, max}

-- neither is less than before, and the mark was raised no further than the log is durable
pub record RaisesWithin (was_durable was_raised durable raised : ℕ) : Type 0 where
  pub lasts : was_durable ≤ durable
  pub rises : was_raised ≤ raised
  pub within : raised ≤ max was_raised durable
