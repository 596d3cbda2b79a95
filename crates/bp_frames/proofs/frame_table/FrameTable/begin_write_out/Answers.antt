use Rattle.std.proofs.Common.{◌≡◌, length, ap, refl, arith}
use Rattle.bp_frames.specs.declared.frame.Frame.{Frame}
use Rattle.bp_frames.specs.Frames.{saving, is_pinned}
use Rattle.bp_frames.proofs.Tables.{slot-here, slot-shown, changed-shown}
use Rattle.bp_frames.proofs.Tally.{table-changed, account-kept}
use Rattle.bp_frames.proofs.frame_table.FrameTable.begin_write_out.Goals as goal

pub index_mut-frame-requires : goal.index_mut-frame-requires
index_mut-frame-requires c = let lt = slot-shown _ _ _ _ _ c.self.invariant.0 _ _ c.self.view_is c.args.slot.now c.requires in omega (arith, lt)

pub returns : goal.returns
returns c = changed-shown _ _ _ _ _ c.self.invariant.0 _ _ c.self.view_is c.args.slot.now c.requires c.index_mut-frame.result.now c.index_mut-frame.ensures.value saving (saving c.index_mut-frame.result.now) refl

pub invariant_of-self : goal.invariant_of-self
invariant_of-self c =
    let v = c.self.invariant in
    let f = c.index_mut-frame.result.now in
    let f_is = c.index_mut-frame.ensures.value in
    let here = slot-here _ _ _ _ _ v.0 _ _ c.self.view_is c.args.slot.now c.requires in
    let next = saving f in
    let is : next ≡ saving f = refl in (
      table-changed _ _ _ _ _ v.0 c.args.slot.now here f f_is next (ap (λ (g : Frame). g.page) is) (ap (λ (g : Frame). length g.image) is),
      v.1,
      v.2,
      account-kept _ _ _ _ _ v.0 c.args.slot.now here f f_is next _ _ v.3 (ap is_pinned is) (ap (λ (g : Frame). g.first_lsn) is),
    )
