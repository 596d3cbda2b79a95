use Rattle.std.proofs.Common.{arith}
use Rattle.bp_trail.specs.declared.entries.Call.TheVariants.{Purge}
use Rattle.bp_trail.specs.declared.entries.Reply.TheVariants.{Forgot}
use Rattle.bp_core.specs.CoreView.{HasRoomFor}
use Rattle.bp_core.proofs.Seen.{now_is}
use Rattle.bp_core.proofs.Keeps.{keeps-purge, adds}
use Rattle.bp_core.proofs.pool.PoolCore.purge.Goals as goal

pub purge-count-requires : goal.purge-count-requires
purge-count-requires g c = now_is _ _ _ c.self.invariant.agrees

pub invariant_of-self : goal.invariant_of-self
invariant_of-self g c =
    let room : HasRoomFor 1 c.args.self.now = omega (arith, c.free.ensures) in
    let e = c.purge-count.ensures in
    rw c.record.ensures (keeps-purge _ _ _ c.self.invariant _ c.self.view_is c.args.client c.purge-count.result c.purge-count.new.self c.requires.client_in room e.counted e.settings e.forgotten e.kept e.held e.no_later e.places)

pub returns : goal.returns
returns g c =
    let room : HasRoomFor 1 c.args.self.now = omega (arith, c.free.ensures) in
    record { outcome = (room, adds _ _ _ c.self.invariant _ c.self.view_is c.args.client Purge (Forgot c.purge-count.result) _ _ c.record.ensures (invariant_of-self g c)) }
