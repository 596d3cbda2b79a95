-- A pool that is shared no more.
use Rattle.std.specs.Prelude.{ℕ}
use Rattle.bp_core.specs.CoreView.{CoreView}

-- one of several pools side by side: its number and its core
pub record ClosedPartValue : Type 0 where
  pub part : ℕ
  pub core : CoreView
