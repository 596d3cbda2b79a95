use Rattle.std.proofs.Common.{subst}
use Rattle.bp_frames.specs.Frames.{has_unsaved}
use Rattle.bp_frames.specs.PageSets.{IsNext, NoneFrom}
use Rattle.bp_frames.specs.Tables.{Table}
use Rattle.bp_frames.proofs.NextUnsaved.{next-is, none-is}
use Rattle.bp_frames.proofs.frame_table.FrameTable.next_unsaved.Goals as goal

pub returns-in_err-page-clause-none : goal.returns-in_err-page-clause-none
returns-in_err-page-clause-none c =
    let v = c.self.invariant in
    let none = none-is _ _ _ c.self.inside.places.items _ v.0 _ _ v.3 c.args.from c.in_err-page.ensures.none in
    rw c.from_residual.ensures (subst (λ (t : Table). NoneFrom (has_unsaved t.frames) c.args.from) c.self.view_is none)

pub returns-clause-found : goal.returns-clause-found
returns-clause-found c =
    let v = c.self.invariant in
    let next = next-is _ _ _ c.self.inside.places.items _ v.0 _ _ v.3 c.args.from c.in_ok-page.page c.in_ok-page.ensures.found in
    rw c.new.ensures (subst (λ (t : Table). IsNext (has_unsaved t.frames) c.args.from c.in_ok-page.page) c.self.view_is next)
