use Rattle.std.proofs.Common.{◌∙◌}
use Rattle.bp_core.proofs.Placed.{tell-blocks}
use Rattle.bp_core.proofs.Uses.{found}
use Rattle.bp_core.proofs.KeepsDiscards.{dropped-here, keeps-discard}
use Rattle.bp_core.proofs.pool.PoolCore.drop_resident.Goals as goal

pub unwrap-slot-requires : goal.unwrap-slot-requires
unwrap-slot-requires g c = c.find.ensures.here ∙ dropped-here _ _ _ c.self.invariant _ c.self.view_is c.args.page c.requires.unused

pub block-block-requires-clause-blocks : goal.block-block-requires-clause-blocks
block-block-requires-clause-blocks g c = tell-blocks _ _ _ c.self.invariant

pub invariant_of-self : goal.invariant_of-self
invariant_of-self g c =
    let at = found c.self.inside.state.frames c.args.page c.find.result c.unwrap-slot.result c.find.ensures.found c.unwrap-slot.ensures in
    let u = c.forget_at.ensures in
    let w = rw at.1 at c.withdraw.ensures in
    rw (c.record.ensures, c.vacate.ensures, at.1, w.same)
    (keeps-discard _ _ _ c.self.invariant _ c.self.view_is c.args.client c.args.page c.requires.client_in c.requires.page_in c.requires.idle c.requires.room c.forget_at.new.self u.settings u.stamps u.others u.held u.latest u.places c.requires.unused c.vacate.new.self.places c.withdraw.new.self.candidates w.limits w.pages w.others w.left)
