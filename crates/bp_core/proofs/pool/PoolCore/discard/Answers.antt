use Rattle.bp_core.specs.Outcomes.IsQuiet.{discard_busy, discard_pinned}
use Rattle.bp_core.proofs.pool.PoolCore.discard.Goals as goal

pub record_unchanged-requires-clause-quiet : goal.record_unchanged-requires-clause-quiet
record_unchanged-requires-clause-quiet g c = discard_busy c.args.page

pub record_unchanged-requires-then-is_pinned-clause-quiet : goal.record_unchanged-requires-then-is_pinned-clause-quiet
record_unchanged-requires-then-is_pinned-clause-quiet g c = discard_pinned c.args.page
