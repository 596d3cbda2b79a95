use Rattle.std.proofs.Common.{◌≡◌, length, ap, refl, arith}
use Rattle.bp_frames.specs.declared.frame.Frame.{Frame}
use Rattle.bp_frames.specs.Frames.{saved, is_pinned, is_to_save}
use Rattle.bp_frames.proofs.Tables.{slot-here, slot-shown, changed-shown}
use Rattle.bp_frames.proofs.Tally.{count-few, some-counted, unsaved-least, seat-in_range, seat-was, page-in_range, page-was, table-changed, account-changed}
use Rattle.bp_frames.proofs.frame_table.FrameTable.end_write_out.Goals as goal

pub index_mut-frame-requires : goal.index_mut-frame-requires
index_mut-frame-requires c = let lt = slot-shown _ _ _ _ _ c.self.invariant.0 _ _ c.self.view_is c.args.slot.now c.requires in omega (arith, lt)

pub returns : goal.returns
returns c = changed-shown _ _ _ _ _ c.self.invariant.0 _ _ c.self.view_is c.args.slot.now c.requires c.index_mut-frame.result.now c.index_mut-frame.ensures.value saved (saved c.index_mut-frame.result.now) refl

pub note-requires-clause-seat : goal.note-requires-clause-seat
note-requires-clause-seat c =
    let v = c.self.invariant in
    let here = slot-here _ _ _ _ _ v.0 _ _ c.self.view_is c.args.slot.now c.requires in
    seat-in_range _ _ _ _ _ v.0 c.args.slot.now here c.index_mut-frame.result.now c.index_mut-frame.ensures.value _ _ v.3

pub note-requires-clause-was : goal.note-requires-clause-was
note-requires-clause-was c =
    let v = c.self.invariant in
    let here = slot-here _ _ _ _ _ v.0 _ _ c.self.view_is c.args.slot.now c.requires in
    seat-was _ _ _ _ _ v.0 c.args.slot.now here c.index_mut-frame.result.now c.index_mut-frame.ensures.value _ _ v.3

pub note-requires-clause-page : goal.note-requires-clause-page
note-requires-clause-page c =
    let v = c.self.invariant in
    let here = slot-here _ _ _ _ _ v.0 _ _ c.self.view_is c.args.slot.now c.requires in
    page-in_range _ _ _ _ _ v.0 c.args.slot.now here c.index_mut-frame.result.now c.index_mut-frame.ensures.value _ _ v.3

pub note-requires-clause-noted : goal.note-requires-clause-noted
note-requires-clause-noted c =
    let v = c.self.invariant in
    let here = slot-here _ _ _ _ _ v.0 _ _ c.self.view_is c.args.slot.now c.requires in
    page-was _ _ _ _ _ v.0 c.args.slot.now here c.index_mut-frame.result.now c.index_mut-frame.ensures.value _ _ v.3

pub note-requires-clause-counted : goal.note-requires-clause-counted
note-requires-clause-counted c =
    let v = c.self.invariant in
    let f = c.index_mut-frame.result.now in
    let here = slot-here _ _ _ _ _ v.0 _ _ c.self.view_is c.args.slot.now c.requires in
    some-counted f.first_lsn c.self.inside.unsaved.count (unsaved-least _ _ _ _ _ v.0 c.args.slot.now here f c.index_mut-frame.ensures.value _ _ v.3)

pub note-requires-clause-few : goal.note-requires-clause-few
note-requires-clause-few c = let v = c.self.invariant in let few = count-few _ _ _ c.self.inside.places.items _ v.0 is_to_save in omega (arith, v.3.unsaved_is, few, v.1.small)

pub invariant_of-self : goal.invariant_of-self
invariant_of-self c =
    let v = c.self.invariant in
    let f = c.index_mut-frame.result.now in
    let f_is = c.index_mut-frame.ensures.value in
    let here = slot-here _ _ _ _ _ v.0 _ _ c.self.view_is c.args.slot.now c.requires in
    let next = saved f in
    let is : next ≡ saved f = refl in (
      table-changed _ _ _ _ _ v.0 c.args.slot.now here f f_is next (ap (λ (g : Frame). g.page) is) (ap (λ (g : Frame). length g.image) is),
      v.1,
      v.2,
      account-changed _ _ _ _ _ v.0 c.args.slot.now here f f_is next _ _ v.3 c.note.new.self (ap is_pinned is) c.note.ensures.count c.note.ensures.order c.note.ensures.limit c.note.ensures.pages,
    )
