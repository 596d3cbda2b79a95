-- A board and its lines name no thread's key, so they may go to another thread.
use Rattle.std.proofs.Common.{ℕ, List}
use base.Shift.{Keyless}
use denote.Param.Send.{IsSend, owning_send}
use types.Keyed.{entry_keyless}
use Rattle.bp_trail.specs.Trail.{Trail}
use Rattle.atomic_table.specs.Seated.{halved}
use Rattle.atomic_table.proofs.Sent.{roster_keyless}
use Rattle.bp_session_log.specs.Owned.{trail_coded, board_owns, line_owns}
use Rattle.bp_session_log.specs.contracts.boards.Board as Board
use Rattle.bp_session_log.specs.contracts.boards.Line as Line

board_keyless : (name : ℕ) (lists : List Trail) → Keyless (board_owns name lists)
unfolding board_owns
board_keyless name lists = roster_keyless trail_coded.code name 0 lists

line_keyless : (name number : ℕ) (list : Trail) → Keyless (line_owns name number list)
unfolding line_owns
line_keyless name number list = entry_keyless halved name number _

pub board_send : IsSend Board.the_row
board_send = owning_send Board.the_type tt (λ d. board_keyless d.name d.lists) (λ k x w. tt)

pub line_send : IsSend Line.the_row
line_send = owning_send Line.the_type tt (λ d. line_keyless d.name d.number d.list) (λ k x w. tt)
