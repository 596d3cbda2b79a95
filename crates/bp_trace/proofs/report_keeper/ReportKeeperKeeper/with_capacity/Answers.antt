use Rattle.std.proofs.Common.{sym, subst, arith}
use Rattle.bp_trail.specs.Trail.{Trail}
use Rattle.bp_trace.specs.KeptLines.{HasLines}
use Rattle.bp_trace.proofs.report_keeper.ReportKeeperKeeper.with_capacity.Goals as goal

pub invariant_of-result : goal.invariant_of-result
invariant_of-result c = (
  subst (λ (past : Trail). HasLines past c.in_ok-lines.lines) (sym c.in_ok-counts.ensures.empty.1) c.in_ok-lines.ensures.none,
  omega (arith, c.in_ok-lines.ensures.room.0),
  omega (arith, c.in_ok-lines.ensures.room.1, c.in_ok-counts.ensures.room),
)
