use Rattle.std.proofs.Common.{◌≡◌, ◌<◌, ◌^◌, ◌+◌, ◌==◌, ℕ, cond, length, ap, refl, arith}
use Rattle.bp_frames.specs.declared.frame.Frame.{Frame}
use Rattle.bp_frames.specs.Frames.{pinned, is_pinned}
use Rattle.bp_frames.proofs.Tables.{slot-here, at-shown, slot-shown, changed-shown}
use Rattle.bp_frames.proofs.Tally.{count-few, one-at_most, pin-step, table-changed, account-pinned}
use Rattle.bp_frames.proofs.frame_table.FrameTable.pin.Goals as goal

pub index_mut-frame-requires : goal.index_mut-frame-requires
index_mut-frame-requires c = let lt = slot-shown _ _ _ _ _ c.self.invariant.0 _ _ c.self.view_is c.args.slot.now c.requires.at in omega (arith, lt)

pub overflow_add-frame : goal.overflow_add-frame
overflow_add-frame c = let few = at-shown _ _ _ _ _ c.self.invariant.0 _ _ c.self.view_is c.args.slot.now c.requires.at c.index_mut-frame.result.now c.index_mut-frame.ensures.value (λ (f : Frame). f.pins < 2 ^ 63) c.requires.few in omega (arith, few)

pub returns : goal.returns
returns c = changed-shown _ _ _ _ _ c.self.invariant.0 _ _ c.self.view_is c.args.slot.now c.requires.at c.index_mut-frame.result.now c.index_mut-frame.ensures.value pinned (pinned c.index_mut-frame.result.now) refl

pub overflow_add-self : goal.overflow_add-self
overflow_add-self c =
    let v = c.self.invariant in
    let f = c.index_mut-frame.result.now in
    let few = count-few _ _ _ c.self.inside.places.items _ v.0 is_pinned in
    omega (arith, v.3.pinned_is, few, v.1.small, c.one_if.ensures, one-at_most (f.pins == 0))

pub invariant_of-self : goal.invariant_of-self
invariant_of-self c =
    let v = c.self.invariant in
    let f = c.index_mut-frame.result.now in
    let f_is = c.index_mut-frame.ensures.value in
    let here = slot-here _ _ _ _ _ v.0 _ _ c.self.view_is c.args.slot.now c.requires.at in
    let next = pinned f in
    let is : next ≡ pinned f = refl in
    let pins : c.self.inside.pinned + c.one_if.result + cond (is_pinned f) 1 0 ≡ c.self.inside.pinned + cond (is_pinned next) 1 0 = omega (arith, c.one_if.ensures, pin-step f.pins, ap {B = ℕ} (λ (g : Frame). cond (is_pinned g) 1 0) is) in (
      table-changed _ _ _ _ _ v.0 c.args.slot.now here f f_is next (ap (λ (g : Frame). g.page) is) (ap (λ (g : Frame). length g.image) is),
      v.1,
      v.2,
      account-pinned _ _ _ _ _ v.0 c.args.slot.now here f f_is next _ _ v.3 (c.self.inside.pinned + c.one_if.result) pins (ap (λ (g : Frame). g.first_lsn) is),
    )
