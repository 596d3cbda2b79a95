use Rattle.std.proofs.Common.{ap, sym, ◌∙◌, arith}
use Rattle.std.proofs.lemmas.List.{get_or_default}
use Rattle.bp_frames.specs.declared.grant_list.Slot.{Slot}
use Rattle.bp_frames.proofs.Rising.{stands-at, stands-nowhere}
use Rattle.bp_frames.proofs.grant_list.find.Goals as goal
use Rattle.bp_frames.proofs.grant_list.find.Goals.{else-place-len-via-then-place-len+else-index-serial, else-place-len-via-else-place-len}

pub returns-then-index-serial : goal.returns-then-index-serial
returns-then-index-serial c =
    stands-at (λ (s : Slot). s.grant.serial) c.args.slots.now.items c.requires c.args.serial c.place_for-place.result c.index.result.now c.place_for-place.ensures (omega (arith, c.if-place-len.true, c.len.ensures)) (ap (λ (s : Slot). s.grant.serial) (sym c.index.ensures) ∙ c.if-index-serial.true)

pub returns-else-place-len : goal.returns-else-place-len
returns-else-place-len c =
    stands-nowhere (λ (s : Slot). s.grant.serial) c.args.slots.now.items c.requires c.args.serial c.place_for-place.result c.place_for-place.ensures (λ d lt. elim c.else-place-len.branch [
      | else-place-len-via-then-place-len+else-index-serial w ↦ λ e. w.if-index-serial.false (ap (λ (s : Slot). s.grant.serial) (w.index.ensures ∙ get_or_default c.args.slots.now.items c.place_for-place.result w.index.result.now d lt) ∙ e)
      | else-place-len-via-else-place-len w ↦ λ e. absurd (omega (arith, lt, c.len.ensures, w.if-place-len.false))
    ])
