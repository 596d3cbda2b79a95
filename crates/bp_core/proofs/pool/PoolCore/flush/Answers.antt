use Rattle.bp_core.specs.Outcomes.IsBegin.{by_flush}
use Rattle.bp_core.specs.Outcomes.IsQuiet.{flush_busy, flush_absent, flush_clean, flush_log}
use Rattle.bp_core.proofs.pool.PoolCore.flush.Goals as goal

pub record_unchanged-requires-clause-quiet : goal.record_unchanged-requires-clause-quiet
record_unchanged-requires-clause-quiet g c = flush_busy c.args.page

pub record_unchanged-requires-in_default-clause-quiet : goal.record_unchanged-requires-in_default-clause-quiet
record_unchanged-requires-in_default-clause-quiet g c = flush_absent c.args.page

pub record_unchanged-requires-then-frame-clause-quiet : goal.record_unchanged-requires-then-frame-clause-quiet
record_unchanged-requires-then-frame-clause-quiet g c = flush_busy c.args.page

pub record_unchanged-requires-then-not-is_unsaved-clause-quiet : goal.record_unchanged-requires-then-not-is_unsaved-clause-quiet
record_unchanged-requires-then-not-is_unsaved-clause-quiet g c = flush_clean c.args.page

pub record_unchanged-requires-then-lt-clause-quiet : goal.record_unchanged-requires-then-lt-clause-quiet
record_unchanged-requires-then-lt-clause-quiet g c = flush_log c.args.page c.in-Some.frame.now.page_lsn

pub begin_write_out-requires-clause-begins : goal.begin_write_out-requires-clause-begins
begin_write_out-requires-clause-begins g c = by_flush c.args.page
