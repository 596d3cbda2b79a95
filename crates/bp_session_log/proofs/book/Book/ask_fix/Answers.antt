-- The image that goes out has the size of a page.
use Rattle.std.proofs.Common.{sym, ◌∙◌}
use Rattle.bp_session_log.proofs.Asking.{write_first_sized}
use Rattle.bp_session_log.proofs.book.Book.ask_fix.Goals as goal

pub tell_write_first-ticket-requires-clause-size : goal.tell_write_first-ticket-requires-clause-size
tell_write_first-ticket-requires-clause-size g c =
    let adds = (rw c.in-Ok-WriteFirst.field-0-is at c.in-Ok-WriteFirst.ensures.outcome).3 in
    write_first_sized _ _ _ _ _ _ _ adds ∙ sym c.requires.size
