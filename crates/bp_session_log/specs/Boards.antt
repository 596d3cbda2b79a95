-- What each call on a board does.
use Rattle.std.specs.Prelude.{◌≡◌, ◌<◌, [], ◌∷◌, ◌++◌, length, slice_index_or, slice_set}
use Rattle.bp_trail.specs.Trail.{Trail}
use Rattle.bp_session_log.specs.declared.boards.Board.{Board}
use Rattle.bp_session_log.specs.declared.boards.Line.{Line}

-- one line more, with no entries, and with the next number
pub record Opens (old new : Board) (line : Line) : Type 0 where
  pub name : new.name ≡ old.name
  pub lists : new.lists ≡ old.lists ++ [] ∷ []
  pub name_is : line.name ≡ old.name
  pub number_is : line.number ≡ length old.lists
  pub empty : line.list ≡ []

-- the board had at the line's number what the line has; now both have this list there, and all else
-- stays
pub record Writes (old : Board) (had : Line) (list : Trail) (new : Board)
    (has : Line) : Type 0 where
  pub within : had.number < length old.lists
  pub was : slice_index_or old.lists had.number [] ≡ had.list
  pub name : new.name ≡ old.name
  pub lists : new.lists ≡ slice_set old.lists had.number list
  pub name_is : has.name ≡ had.name
  pub number_is : has.number ≡ had.number
  pub list_is : has.list ≡ list
