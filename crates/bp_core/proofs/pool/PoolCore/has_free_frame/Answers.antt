use Rattle.std.proofs.Common.{◌≡◌, ◌+◌, nat_lt, ap, subst, arith}
use Rattle.bp_trail.specs.PageMap.{has_free_frame}
use Rattle.bp_core.proofs.Seen.{occupied_is, within_frames}
use Rattle.bp_core.proofs.pool.PoolCore.has_free_frame.Goals as goal

pub overflow_add-result : goal.overflow_add-result
overflow_add-result g c = omega (arith, within_frames _ _ _ c.self.invariant.agrees, c.len.ensures, c.len-2.ensures.count, c.self.invariant.frame_room.few)

pub returns : goal.returns
returns g c =
    let i = c.self.inside in
    subst (λ v. nat_lt (c.len.result + c.len-2.result) i.config.frames ≡ has_free_frame v.parameters v.past) c.self.view_is
    (ap (λ n. nat_lt n i.config.frames) (omega (arith, occupied_is _ _ _ c.self.invariant.agrees, c.len.ensures, c.len-2.ensures.count)))
