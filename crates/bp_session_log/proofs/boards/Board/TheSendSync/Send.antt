-- A board names no thread's key, so it may go to another thread.
use denote.Param.Send.{IsSend}
use Rattle.bp_session_log.specs.contracts.boards.Board.{the_row}
use Rattle.bp_session_log.proofs.Sent.{board_send}

pub send : IsSend the_row
send = board_send
