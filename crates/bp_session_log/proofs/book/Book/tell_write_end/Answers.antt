-- One ticket fewer.
use Rattle.std.proofs.Common.{rules}
use Rattle.bp_session_log.proofs.Keeping.{next_past, next_len, next_capacity}
use Rattle.bp_session_log.proofs.Ending.{keeps_written}
use Rattle.bp_session_log.proofs.book.Book.tell_write_end.Goals as goal

pub invariant_of-self : goal.invariant_of-self
invariant_of-self g c =
    let told = c.record.ensures in (
      keeps_written _ _ _ _ _ _ _ _ _ _ _ c.args.ticket c.args.page c.args.good c.args.reply c.self.invariant.0 (search rules) c.requires.gives_none
          (next_past _ _ _ _ _ told)
          (next_len _ _ _ _ _ told) (next_capacity _ _ _ _ _ told),
      c.self.invariant.1,
    )
