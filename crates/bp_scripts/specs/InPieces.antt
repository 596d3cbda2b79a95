-- In the piece of which row an entry stands, by the cut that says that the entries follow the rows.
-- All but a script is newest first.
use Rattle.std.specs.Prelude.{◌≡◌, ◌⊎◌, ℕ, ◌≤◌, List, [], ◌∷◌, ◌++◌, length, take, reverse}
use Rattle.bp_trail.specs.declared.entries.Entry.{Entry}
use Rattle.bp_scripts.specs.declared.rows.Row.{Row}
use Rattle.bp_scripts.specs.declared.rows.Refused.{Refused}
use Rattle.bp_trail.specs.Trail.{Trail}
use Rattle.bp_trail.specs.Clock.{durable}
use Rattle.bp_trail.specs.Pieces.{Manner}
use Rattle.bp_scripts.specs.Script.{FollowsBy, Follows}
use Rattle.bp_trail.specs.Clients.{of_client}
use Rattle.bp_scripts.specs.LogBound.{logged}

-- e, which has the entries `older` before it in its list, is one of the piece that was added to the
-- entries `before`
pub record StandsIn (piece before older : Trail) (e : Entry) : Type 0 where
  pub newer : Trail
  pub sooner : Trail
  pub has : piece ≡ newer ++ e ∷ sooner
  pub follows : older ≡ sooner ++ before

-- by this cut e stands in the piece of the row that has r rows before it
abbrev pub InPieceOf : (m : Manner) (r : ℕ) (e : Entry) (older : Trail) (rows : List Row)
    (ends : List ℕ) (past : Trail) (refusals : List Refused) → FollowsBy m rows ends past refusals
    → Type 0
InPieceOf m r e older [] ends past refusals cut = ⊥
InPieceOf m r e older (row ∷ rows) [] past refusals cut = ⊥
InPieceOf m r e older (row ∷ rows) (end ∷ ends) past refusals cut =
    ((r ≡ length rows) × StandsIn cut.adds.piece cut.before older e)
    ⊎ InPieceOf m r e older rows ends cut.before cut.earlier cut.follows

-- by the cut of client 0's entries the entry stands in the piece of a row, and the mark up to and
-- with it is at most what the rows before that row logged
pub record BoundedByItsRow (m : Manner) (script : List Row) (said : Trail) (refusals : List Refused)
    (cut : Follows m script said refusals) (past : Trail) (e : Entry) : Type 0 where
  pub r : ℕ
  pub in_piece : InPieceOf m r e (of_client 0 past) (reverse script) cut.ends cut.by_rows
      (reverse refusals) cut.pieces
  pub bounded : durable (e ∷ past) ≤ logged (take r script)
