use Rattle.std.proofs.Common.{sym, ◌∙◌, arith}
use Rattle.bp_trail.specs.declared.entries.Call.TheVariants.{Write}
use Rattle.bp_trail.specs.declared.entries.Reply.TheVariants.{Done}
use Rattle.bp_core.specs.CoreView.{HasRoomFor}
use Rattle.bp_core.proofs.Keeps.{adds}
use Rattle.bp_core.proofs.Uses.{found}
use Rattle.bp_core.proofs.KeepsPasses.{frame-here, keeps-write}
use Rattle.bp_core.proofs.pool.PoolCore.write_from.Goals as goal

pub unwrap-slot-requires : goal.unwrap-slot-requires
unwrap-slot-requires g c =
    let p = c.args.pass.now in
    c.find.ensures.here ∙ frame-here _ _ _ c.self.invariant _ c.self.view_is p.client p.page p.serial (sym c.knows.ensures ∙ c.if-not-knows.false)

pub write-requires-clause-at : goal.write-requires-clause-at
write-requires-clause-at g c = (found c.self.inside.state.frames c.args.pass.now.page c.find.result c.unwrap-slot.result c.find.ensures.found c.unwrap-slot.ensures).0

pub invariant_of-self : goal.invariant_of-self
invariant_of-self g c =
    let room : HasRoomFor 1 c.args.self.now = omega (arith, c.free.ensures) in
    let p = c.args.pass.now in
    let at = found c.self.inside.state.frames c.args.pass.now.page c.find.result c.unwrap-slot.result c.find.ensures.found c.unwrap-slot.ensures in
    rw (c.record_write.ensures, c.grant.ensures, c.write.ensures, at.1) (keeps-write _ _ _ c.self.invariant _ c.self.view_is p.client p.page p.serial c.args.offset c.args.bytes.now c.args.lsn (sym c.knows.ensures ∙ c.if-not-knows.false) c.requires.fits room)

pub returns-clause-outcome : goal.returns-clause-outcome
returns-clause-outcome g c =
    let room : HasRoomFor 1 c.args.self.now = omega (arith, c.free.ensures) in
    let p = c.args.pass.now in (
      room,
      sym c.knows.ensures ∙ c.if-not-knows.false,
      adds _ _ _ c.self.invariant _ c.self.view_is p.client (Write p.serial p.page c.args.offset c.args.bytes.now c.args.lsn) Done _ _ (rw c.grant.ensures at c.record_write.ensures) (invariant_of-self g c),
    )
