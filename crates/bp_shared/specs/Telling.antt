-- What the lists of a pool's sessions have in common with the trail of its core.
use Rattle.std.specs.Prelude.{◌≡◌, ℕ, ◌++◌, ◌≤◌, Bool, true, false, List, [], filter, map, slice_index_or}
use Rattle.bp_trail.specs.declared.entries.Call.{Call}
use Rattle.bp_trail.specs.declared.entries.Call.TheVariants.{Unfix}
use Rattle.bp_trail.specs.Legal.{Legal}
use Rattle.bp_trail.specs.Parameters.{Parameters}
use Rattle.bp_trail.specs.Trail.{Trail}
use Rattle.bp_trail.specs.Clients.{of_client}
use Rattle.bp_trail.specs.Event.{Grant}
use Rattle.bp_trail.specs.HeldPasses.{unfix_of}
use Rattle.bp_session_log.specs.declared.boards.Board.{Board}
use Rattle.bp_session_log.specs.declared.boards.Line.{Line}
use Rattle.bp_shared.specs.Sessions.{SessionValue}

-- any call but an unfix
abbrev pub is_told : Call → Bool
is_told (Unfix n p) = false
is_told _ = true

-- all entries but the unfixes: a pass that was posted stands in the list at once, and in the trail
-- when its ring is drained
abbrev pub told : Trail → Trail
told past = filter (λ e. is_told e.call) past

-- a session's line is its client's on this board, and has the session's list as it was in the
-- session's last section: since then the list got the unfixes of these passes alone
pub record IsLineOf (board : ℕ) (line : Line) (client : ℕ) (said : Trail) : Type 0 where
  pub board_is : line.name ≡ board
  pub number_is : line.number ≡ client
  pub posted : List Grant
  pub list_is : said ≡ map unfix_of posted ++ line.list

-- of each client the core's trail has, since the pool was made, the list that the client's line has
-- on the pool's board, and after it unfixes alone: those that came out of its ring since
pub record IsShown (board : ℕ) (start : Trail) (b : Board) (past : Trail) : Type 0 where
  pub board_is : b.name ≡ board
  pub since : Trail
  pub goes_on : past ≡ since ++ start
  pub each : (c : ℕ) → (back : List Grant)
      × (of_client c since ≡ map unfix_of back ++ slice_index_or b.lists c [])

-- no list has an entry
abbrev pub IsBlank : List Trail → Type 0
IsBlank lists = (c : ℕ) → slice_index_or lists c [] ≡ []

-- a trail is another one with entries after it, or that one
abbrev pub GoesOnFrom : Trail → Trail → Type 0
GoesOnFrom start past = (since : Trail) × (past ≡ since ++ start)

-- since the pool was made, the trail tells of the client what its session's list tells, and nothing
-- else
pub record IsToldBy (start past : Trail) (client : ℕ) (said : Trail) : Type 0 where
  pub since : Trail
  pub goes_on : past ≡ since ++ start
  pub theirs : of_client client (told since) ≡ told said

-- since the pool was made, the trail's entries of the client are its session's list: all of it, each
-- unfix in its place, and nothing else
pub record IsListOf (start past : Trail) (client : ℕ) (said : Trail) : Type 0 where
  pub since : Trail
  pub goes_on : past ≡ since ++ start
  pub theirs : of_client client since ≡ said

-- on the board of what sessions saw each line has an older part of the trail, or none or all of it
pub record AreEarlier (board : ℕ) (b : Board) (past : Trail) : Type 0 where
  pub board_is : b.name ≡ board
  pub each : (n : ℕ) → GoesOnFrom (slice_index_or b.lists n []) past

-- a call of the session saw a trail, and did nothing else: that is a legal list, whose entries of the
-- client are the session's list, and goes on from what the session saw before; what the session
-- posted before has gone back in it
pub record Sees (parameters : Parameters) (start : Trail) (old new : SessionValue) : Type 0 where
  pub same : new ≡ record old { seen = new.seen; free = 32 }
  pub free : old.free ≤ 32
  pub legal : Legal parameters new.seen
  pub list_is : IsListOf start new.seen old.client old.said
  pub goes_on : GoesOnFrom old.seen new.seen
