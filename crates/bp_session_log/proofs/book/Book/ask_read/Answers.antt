-- The image of a page that is read has the page's size.
use Rattle.std.proofs.Common.{sym, ◌∙◌}
use Rattle.bp_session_log.proofs.book.Book.ask_read.Goals as goal

pub tell_read-requires-clause-size : goal.tell_read-requires-clause-size
tell_read-requires-clause-size g c = c.in_ok-image.ensures.size ∙ sym c.requires.size
