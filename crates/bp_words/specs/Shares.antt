-- A frame, its keeper and its shares as contracts see them.
use Rattle.std.specs.Prelude.{ℕ, Option, Some, None}
use Rattle.atomic_table.specs.Seated.{TableId}

-- the name by which a frame is told from every other
abbrev pub FrameName : Type 0
FrameName = TableId

-- the keeper of a frame, and the page to which the frame is given
pub record KeeperValue : Type 0 where
  pub frame : FrameName
  pub page : Option ℕ

-- a share in a frame, and the page of which it is
pub record ShareValue : Type 0 where
  pub frame : FrameName
  pub page : ℕ

-- a thread that may come to a frame
pub record VisitorValue : Type 0 where
  pub frame : FrameName

-- a queue: how many wait to read and to write, and how many readers were let in
pub record QueueValue : Type 0 where
  pub frame : FrameName
  pub waiting : ℕ
  pub writers : ℕ
  pub granted : ℕ

abbrev pub given : Option ℕ → ℕ
given (Some page) = page
given None = 0
