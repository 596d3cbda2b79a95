use Rattle.std.proofs.Common.{sym, ◌∙◌}
use Rattle.bp_core.proofs.Uses.{found}
use Rattle.bp_core.proofs.KeepsPasses.{frame-here}
use Rattle.bp_core.proofs.Lent.{lsn-held}
use Rattle.bp_core.proofs.pool.PoolCore.page_lsn.Goals as goal

pub unwrap-slot-requires : goal.unwrap-slot-requires
unwrap-slot-requires g c =
    let p = c.args.pass.now in
    c.find.ensures.here ∙ frame-here _ _ _ c.self.invariant _ c.self.view_is p.client p.page p.serial (sym c.knows.ensures ∙ c.if-not-knows.false)

pub returns-clause-lsn : goal.returns-clause-lsn
returns-clause-lsn g c =
    let p = c.args.pass.now in
    let at = found c.self.inside.state.frames p.page c.find.result c.unwrap-slot.result c.find.ensures.found c.unwrap-slot.ensures in
    lsn-held _ _ _ c.self.invariant _ c.self.view_is p.client p.page p.serial (sym c.knows.ensures ∙ c.if-not-knows.false) c.frame.result.now c.frame.ensures.here (c.frame.ensures.page ∙ at.1)
