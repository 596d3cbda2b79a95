use Rattle.std.proofs.Common.{refl}
use Rattle.example_log.specs.declared.log.LogFault.TheVariants.{Memory}
use Rattle.example_log.specs.LogFiles.{IsUnread}
use Rattle.example_log.specs.LogFiles.IsUnread.{no_memory, failed}
use Rattle.example_log.proofs.LogFiles.{fault-is}
use Rattle.example_log.proofs.log.LogFile.read_all.Goals as goal

pub returns-in_err-bytes-clause-unread : goal.returns-in_err-bytes-clause-unread
returns-in_err-bytes-clause-unread g c = fault-is c.from_residual.result Memory (IsUnread (g.S.LogStore.reads c.args.pages.now) c.args.self.now.store c.args.self.now.store) c.from_residual.ensures.1 (no_memory refl)

pub returns-in-Err-clause-unread : goal.returns-in-Err-clause-unread
returns-in-Err-clause-unread g c = failed c.read_bytes.new.room c.in-Err.ensures
