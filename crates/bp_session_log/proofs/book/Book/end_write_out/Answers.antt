-- The same entry, with the reply that the write failed.
use Rattle.std.proofs.Common.{rules}
use Rattle.bp_session_log.proofs.book.Book.end_write_out.Goals as goal

pub returns-in-Err-Failed-clause-keeps : goal.returns-in-Err-Failed-clause-keeps
returns-in-Err-Failed-clause-keeps g c = record {
  adds = record { parameters = search rules; before = search rules; owner = search rules; alike = search rules };
  durable_stays = search rules;
}
