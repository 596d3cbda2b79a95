use Rattle.std.proofs.Common.{arith}
use Rattle.bp_core.proofs.KeepsCut.{cuts}
use Rattle.bp_core.proofs.pool.cutting.PoolCore+RecordingKeeper.cut_into.Goals as goal

pub returns-clause-done : goal.returns-clause-done
returns-clause-done c =
    let e = c.in_ok-entries.ensures in
    cuts _ _ _ c.self.invariant _ c.self.view_is c.cut.new.self c.is_initial-is_initial.result e.after c.in_ok-entries.entries.items e.entries (omega (arith, c.if-self-gt-SERIALS_END.false)) (omega (arith, c.if-self-gt-SERIALS_END-2.false))
