use Rattle.std.proofs.Common.{refl}
use Rattle.bp_trace.proofs.KeptLines.{first}
use Rattle.bp_trace.proofs.printing.kept.ReportLines.with_capacity.Goals as goal

pub returns-clause-none : goal.returns-clause-none
returns-clause-none c = first _ refl c.in_ok-with_capacity.ensures.items
