use Rattle.std.proofs.Common.{◌≡◌, ◌<◌, ◌+◌, ◌-◌, ℕ, true, cond, length, ap, refl, arith}
use Rattle.bp_frames.specs.declared.frame.Frame.{Frame}
use Rattle.bp_frames.specs.Frames.{is_frame_of, unpinned, is_pinned}
use Rattle.bp_frames.proofs.Tables.{slot-here, at-shown, frame-page, slot-shown, changed-shown}
use Rattle.bp_frames.proofs.Tally.{unpin-step, pinned-least, table-changed, account-pinned}
use Rattle.bp_frames.proofs.frame_table.FrameTable.unpin.Goals as goal

pub index_mut-frame-requires : goal.index_mut-frame-requires
index_mut-frame-requires c = let lt = slot-shown _ _ _ _ _ c.self.invariant.0 _ _ c.self.view_is c.args.slot.now c.requires.at in omega (arith, lt)

pub overflow_sub-frame : goal.overflow_sub-frame
overflow_sub-frame c =
    let some = at-shown _ _ _ _ _ c.self.invariant.0 _ _ c.self.view_is c.args.slot.now c.requires.at c.index_mut-frame.result.now c.index_mut-frame.ensures.value (λ (f : Frame). is_frame_of c.args.slot.now.page f ≡ true → 0 < f.pins) c.requires.some
    (frame-page _ _ _ _ _ c.self.invariant.0 _ _ c.self.view_is c.args.slot.now c.requires.at c.index_mut-frame.result.now c.index_mut-frame.ensures.value) in omega (arith, some)

pub returns : goal.returns
returns c = changed-shown _ _ _ _ _ c.self.invariant.0 _ _ c.self.view_is c.args.slot.now c.requires.at c.index_mut-frame.result.now c.index_mut-frame.ensures.value unpinned (unpinned c.index_mut-frame.result.now) refl

pub overflow_sub-self : goal.overflow_sub-self
overflow_sub-self c =
    let v = c.self.invariant in
    let f = c.index_mut-frame.result.now in
    let here = slot-here _ _ _ _ _ v.0 _ _ c.self.view_is c.args.slot.now c.requires.at in
    let once : 0 < f.pins = at-shown _ _ _ _ _ c.self.invariant.0 _ _ c.self.view_is c.args.slot.now c.requires.at c.index_mut-frame.result.now c.index_mut-frame.ensures.value (λ (f : Frame). is_frame_of c.args.slot.now.page f ≡ true → 0 < f.pins) c.requires.some
    (frame-page _ _ _ _ _ c.self.invariant.0 _ _ c.self.view_is c.args.slot.now c.requires.at c.index_mut-frame.result.now c.index_mut-frame.ensures.value) in
    omega (arith, c.one_if.ensures, unpin-step f.pins once, pinned-least _ _ _ _ _ v.0 c.args.slot.now here f c.index_mut-frame.ensures.value _ _ v.3)

pub invariant_of-self : goal.invariant_of-self
invariant_of-self c =
    let v = c.self.invariant in
    let f = c.index_mut-frame.result.now in
    let f_is = c.index_mut-frame.ensures.value in
    let here = slot-here _ _ _ _ _ v.0 _ _ c.self.view_is c.args.slot.now c.requires.at in
    let next = unpinned f in
    let is : next ≡ unpinned f = refl in
    let once : 0 < f.pins = at-shown _ _ _ _ _ c.self.invariant.0 _ _ c.self.view_is c.args.slot.now c.requires.at c.index_mut-frame.result.now c.index_mut-frame.ensures.value (λ (f : Frame). is_frame_of c.args.slot.now.page f ≡ true → 0 < f.pins) c.requires.some
    (frame-page _ _ _ _ _ c.self.invariant.0 _ _ c.self.view_is c.args.slot.now c.requires.at c.index_mut-frame.result.now c.index_mut-frame.ensures.value) in
    let pins : c.self.inside.pinned - c.one_if.result + cond (is_pinned f) 1 0 ≡ c.self.inside.pinned + cond (is_pinned next) 1 0 =
    let once : 0 < f.pins = at-shown _ _ _ _ _ c.self.invariant.0 _ _ c.self.view_is c.args.slot.now c.requires.at c.index_mut-frame.result.now c.index_mut-frame.ensures.value (λ (f : Frame). is_frame_of c.args.slot.now.page f ≡ true → 0 < f.pins) c.requires.some
    (frame-page _ _ _ _ _ c.self.invariant.0 _ _ c.self.view_is c.args.slot.now c.requires.at c.index_mut-frame.result.now c.index_mut-frame.ensures.value) in
    omega (arith, c.one_if.ensures, unpin-step f.pins once, pinned-least _ _ _ _ _ v.0 c.args.slot.now here f f_is _ _ v.3, ap {B = ℕ} (λ (g : Frame). cond (is_pinned g) 1 0) is) in (
      table-changed _ _ _ _ _ v.0 c.args.slot.now here f f_is next (ap (λ (g : Frame). g.page) is) (ap (λ (g : Frame). length g.image) is),
      v.1,
      v.2,
      account-pinned _ _ _ _ _ v.0 c.args.slot.now here f f_is next _ _ v.3 (c.self.inside.pinned - c.one_if.result) pins (ap (λ (g : Frame). g.first_lsn) is),
    )
