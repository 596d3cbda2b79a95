-- A line names no thread's key, so it may go to another thread.
use denote.Param.Send.{IsSend}
use Rattle.bp_session_log.specs.contracts.boards.Line.{the_row}
use Rattle.bp_session_log.proofs.Sent.{line_send}

pub send : IsSend the_row
send = line_send
