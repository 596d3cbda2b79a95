use Rattle.std.proofs.Common.{◌≡◌, ◌-◌, get_or, Some, sym, ap, ◌∙◌, subst, arith}
use Rattle.std.proofs.lemmas.List.{get_or_default}
use Rattle.bp_frames.specs.declared.frame.Frame.{Frame}
use Rattle.bp_frames.specs.Frames.{IsLeastUnsaved}
use Rattle.bp_frames.specs.Tables.{Table, no_frame}
use Rattle.bp_frames.proofs.Seating.{once}
use Rattle.bp_frames.proofs.Tally.{page-within, within-slots}
use Rattle.bp_frames.proofs.Oldest.{read-place, all-saved, stands-first, some-first, least-first}
use Rattle.bp_frames.proofs.frame_table.FrameTable.least_unsaved.Goals as goal

pub first-requires : goal.first-requires
first-requires c = once _ _ _ c.self.invariant.3.seating

pub returns-in_err-page-clause-least : goal.returns-in_err-page-clause-least
returns-in_err-page-clause-least c =
    let i = c.self.inside in
    let v = c.self.invariant in
    let none = all-saved _ _ _ i.places.items _ v.0 _ _ v.3 c.in_err-page.ensures.none in
    subst (λ (t : Table). IsLeastUnsaved t.frames c.from_residual.result) c.self.view_is (rw c.from_residual.ensures none)

pub index-place-requires : goal.index-place-requires
index-place-requires c =
    let i = c.self.inside in
    let v = c.self.invariant in
    let at = stands-first _ _ _ i.places.items _ v.0 _ _ v.3 c.in_ok-page.page c.in_ok-page.ensures.found in
    let lt = page-within i.places.items c.in_ok-page.page at.0 at.2 in
    omega (arith, lt, c.number.ensures)

pub overflow_sub-place : goal.overflow_sub-place
overflow_sub-place c =
    let i = c.self.inside in
    let v = c.self.invariant in
    let at = stands-first _ _ _ i.places.items _ v.0 _ _ v.3 c.in_ok-page.page c.in_ok-page.ensures.found in
    let place = read-place i.places.items c.in_ok-page.page at.0 c.number.result c.index-place.result.now at.2 c.number.ensures c.index-place.ensures in
    omega (arith, place)

pub index-requires : goal.index-requires
index-requires c =
    let i = c.self.inside in
    let v = c.self.invariant in
    let at = stands-first _ _ _ i.places.items _ v.0 _ _ v.3 c.in_ok-page.page c.in_ok-page.ensures.found in
    let place = read-place i.places.items c.in_ok-page.page at.0 c.number.result c.index-place.result.now at.2 c.number.ensures c.index-place.ensures in
    let lt = within-slots _ _ _ i.places.items _ v.0 _ _ v.3 c.in_ok-page.page at.0 at.2 in
    omega (arith, place, lt)

pub returns-clause-least : goal.returns-clause-least
returns-clause-least c =
    let i = c.self.inside in
    let v = c.self.invariant in
    let at = stands-first _ _ _ i.places.items _ v.0 _ _ v.3 c.in_ok-page.page c.in_ok-page.ensures.found in
    let place = read-place i.places.items c.in_ok-page.page at.0 c.number.result c.index-place.result.now at.2 c.number.ensures c.index-place.ensures in
    let lt = within-slots _ _ _ i.places.items _ v.0 _ _ v.3 c.in_ok-page.page at.0 at.2 in
    let slot : c.index-place.result.now - 1 ≡ at.0 = omega (arith, place) in
    let f = c.index.result.now in
    let f_is : f ≡ get_or i.slots.items at.0 no_frame = c.index.ensures ∙ ap (λ n. get_or i.slots.items n f) slot ∙ sym (get_or_default i.slots.items at.0 no_frame f lt) in
    let lsn : f.first_lsn ≡ Some at.1 = ap (λ (g : Frame). g.first_lsn) f_is ∙ at.3 in
    subst (λ (t : Table). IsLeastUnsaved t.frames f.first_lsn) c.self.view_is (
    rw lsn (
      some-first _ _ _ i.places.items _ v.0 _ _ v.3 c.in_ok-page.page c.in_ok-page.ensures.found at.0 at.1 at.2 at.3,
      least-first _ _ _ i.places.items _ v.0 _ _ v.3 c.in_ok-page.page c.in_ok-page.ensures.found at.0 at.1 at.2 at.3,
    )
    )
