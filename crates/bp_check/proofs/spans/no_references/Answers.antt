use Rattle.bp_check.proofs.SpanLemmas.{none_at}
use Rattle.bp_check.proofs.spans.no_references.Goals as goal

pub returns-clause-none : goal.returns-clause-none
returns-clause-none c = none_at c.loop.table.items c.loop.invariant.2
