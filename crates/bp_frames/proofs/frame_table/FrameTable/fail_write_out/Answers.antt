use Rattle.std.proofs.Common.{◌≡◌, length, ap, refl, arith}
use Rattle.bp_frames.specs.declared.frame.Frame.{Frame}
use Rattle.bp_frames.specs.Frames.{not_saved, is_pinned}
use Rattle.bp_frames.proofs.Tables.{slot-here, slot-shown, changed-shown}
use Rattle.bp_frames.proofs.Tally.{table-changed, account-kept}
use Rattle.bp_frames.proofs.frame_table.FrameTable.fail_write_out.Goals as goal

pub index_mut-requires : goal.index_mut-requires
index_mut-requires c = let lt = slot-shown _ _ _ _ _ c.self.invariant.0 _ _ c.self.view_is c.args.slot.now c.requires in omega (arith, lt)

pub returns : goal.returns
returns c = changed-shown _ _ _ _ _ c.self.invariant.0 _ _ c.self.view_is c.args.slot.now c.requires c.index_mut.result.now c.index_mut.ensures.value not_saved (not_saved c.index_mut.result.now) refl

pub invariant_of-self : goal.invariant_of-self
invariant_of-self c =
    let v = c.self.invariant in
    let f = c.index_mut.result.now in
    let f_is = c.index_mut.ensures.value in
    let here = slot-here _ _ _ _ _ v.0 _ _ c.self.view_is c.args.slot.now c.requires in
    let next = not_saved f in
    let is : next ≡ not_saved f = refl in (
      table-changed _ _ _ _ _ v.0 c.args.slot.now here f f_is next (ap (λ (g : Frame). g.page) is) (ap (λ (g : Frame). length g.image) is),
      v.1,
      v.2,
      account-kept _ _ _ _ _ v.0 c.args.slot.now here f f_is next _ _ v.3 (ap is_pinned is) (ap (λ (g : Frame). g.first_lsn) is),
    )
