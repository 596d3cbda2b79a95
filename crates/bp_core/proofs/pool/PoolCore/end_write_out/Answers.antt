use Rattle.std.proofs.Common.{◌≡◌, refl, sym, ◌∙◌, ap, subst, true}
use Rattle.bp_frames.specs.Frames.{is_unused, saved}
use Rattle.bp_trail.specs.declared.entries.Call.TheVariants.{WriteEnd}
use Rattle.bp_trail.specs.declared.entries.Reply.TheVariants.{Cleaned, StillDirty}
use Rattle.bp_core.specs.CoreView.{EachPast}
use Rattle.bp_core.specs.Agreement.{rewritten}
use Rattle.bp_core.proofs.Seen.{frame_in}
use Rattle.bp_trail.specs.Event.{grant}
use Rattle.bp_core.proofs.Keeps.{adds, write-seen}
use Rattle.bp_core.proofs.Uses.{found, told-after}
use Rattle.bp_core.proofs.KeepsWriteOuts.{frame-here, idle-after, keeps-cleaned, keeps-still_dirty}
use Rattle.bp_core.proofs.pool.PoolCore.end_write_out.Goals as goal

pub frame-requires : goal.frame-requires
frame-requires g c = (found c.self.inside.state.frames c.args.ticket.page c.find.result c.unwrap-slot.result c.find.ensures.found c.unwrap-slot.ensures).0

pub unwrap-slot-requires : goal.unwrap-slot-requires
unwrap-slot-requires g c = c.find.ensures.here ∙ frame-here _ _ _ c.self.invariant _ c.self.view_is c.args.ticket.client c.args.ticket.page c.args.ticket.serial (write-seen _ _ _ c.self.invariant _ c.self.view_is (grant c.args.ticket.client c.args.ticket.page c.args.ticket.serial) true (sym c.take_back.ensures.was ∙ c.if-not-take_back.false))

pub end_write_out-requires : goal.end_write_out-requires
end_write_out-requires g c = (found c.self.inside.state.frames c.args.ticket.page c.find.result c.unwrap-slot.result c.find.ensures.found c.unwrap-slot.ensures).0

pub end_use-requires-clause-at : goal.end_use-requires-clause-at
end_use-requires-clause-at g c = rw c.end_write_out.ensures (found c.self.inside.state.frames c.args.ticket.page c.find.result c.unwrap-slot.result c.find.ensures.found c.unwrap-slot.ensures).0

pub end_use-requires-clause-blocks : goal.end_use-requires-clause-blocks
end_use-requires-clause-blocks g c = rw c.end_write_out.ensures (told-after _ _ _ c.self.invariant c.unwrap-slot.result.page saved (λ f. refl) (λ f. refl))

pub invariant_of-self-then-is_rewritten : goal.invariant_of-self-then-is_rewritten
invariant_of-self-then-is_rewritten g c =
    let at = found c.self.inside.state.frames c.args.ticket.page c.find.result c.unwrap-slot.result c.find.ensures.found c.unwrap-slot.ensures in
    let f = c.frame.result.now in
    let is = frame_in _ _ _ c.self.invariant.agrees c.args.ticket.page f c.frame.ensures.here (c.frame.ensures.page ∙ at.1) in
    let seen = subst (λ v. EachPast v (λ past. rewritten past c.args.ticket.page ≡ f.is_rewritten)) c.self.view_is (sym (ap (λ f. f.is_rewritten) is)) in
    let o = rw (c.end_write_out.ensures, at.1) at c.end_use.ensures in
    let e = o.entered in
    let unused = idle-after _ _ _ c.self.invariant _ c.self.view_is c.args.ticket.client c.args.ticket.page c.args.ticket.serial (write-seen _ _ _ c.self.invariant _ c.self.view_is (grant c.args.ticket.client c.args.ticket.page c.args.ticket.serial) true (sym c.take_back.ensures.was ∙ c.if-not-take_back.false)) saved (λ f. refl) (λ f. refl) (λ f. refl) e.frame e.here e.page_is in
    rw (c.record.ensures, o.same)
    (keeps-still_dirty _ _ _ c.self.invariant _ c.self.view_is c.args.ticket.client c.args.ticket.page c.args.ticket.serial (write-seen _ _ _ c.self.invariant _ c.self.view_is (grant c.args.ticket.client c.args.ticket.page c.args.ticket.serial) true (sym c.take_back.ensures.was ∙ c.if-not-take_back.false)) c.take_back.new.self (c.take_back.ensures.out c.if-not-take_back.false) c.take_back.ensures.more (is_unused e.frame) unused c.end_use.new.self.frames.candidates o.limits o.pages o.others e.entered (seen ∙ c.if-is_rewritten.true))

pub returns-then-is_rewritten : goal.returns-then-is_rewritten
returns-then-is_rewritten g c =
    (write-seen _ _ _ c.self.invariant _ c.self.view_is (grant c.args.ticket.client c.args.ticket.page c.args.ticket.serial) true (sym c.take_back.ensures.was ∙ c.if-not-take_back.false), adds _ _ _ c.self.invariant _ c.self.view_is c.args.ticket.client (WriteEnd c.args.ticket.serial c.args.ticket.page true) StillDirty _ _ c.record.ensures (invariant_of-self-then-is_rewritten g c))

pub invariant_of-self-2 : goal.invariant_of-self-2
invariant_of-self-2 g c =
    let at = found c.self.inside.state.frames c.args.ticket.page c.find.result c.unwrap-slot.result c.find.ensures.found c.unwrap-slot.ensures in
    let f = c.frame.result.now in
    let is = frame_in _ _ _ c.self.invariant.agrees c.args.ticket.page f c.frame.ensures.here (c.frame.ensures.page ∙ at.1) in
    let seen = subst (λ v. EachPast v (λ past. rewritten past c.args.ticket.page ≡ f.is_rewritten)) c.self.view_is (sym (ap (λ f. f.is_rewritten) is)) in
    let o = rw (c.end_write_out.ensures, at.1) at c.end_use.ensures in
    let e = o.entered in
    let unused = idle-after _ _ _ c.self.invariant _ c.self.view_is c.args.ticket.client c.args.ticket.page c.args.ticket.serial (write-seen _ _ _ c.self.invariant _ c.self.view_is (grant c.args.ticket.client c.args.ticket.page c.args.ticket.serial) true (sym c.take_back.ensures.was ∙ c.if-not-take_back.false)) saved (λ f. refl) (λ f. refl) (λ f. refl) e.frame e.here e.page_is in
    rw (c.record-2.ensures, o.same)
    (keeps-cleaned _ _ _ c.self.invariant _ c.self.view_is c.args.ticket.client c.args.ticket.page c.args.ticket.serial (write-seen _ _ _ c.self.invariant _ c.self.view_is (grant c.args.ticket.client c.args.ticket.page c.args.ticket.serial) true (sym c.take_back.ensures.was ∙ c.if-not-take_back.false)) c.take_back.new.self (c.take_back.ensures.out c.if-not-take_back.false) c.take_back.ensures.more (is_unused e.frame) unused c.end_use.new.self.frames.candidates o.limits o.pages o.others e.entered (seen ∙ c.if-is_rewritten.false))

pub returns : goal.returns
returns g c =
    (write-seen _ _ _ c.self.invariant _ c.self.view_is (grant c.args.ticket.client c.args.ticket.page c.args.ticket.serial) true (sym c.take_back.ensures.was ∙ c.if-not-take_back.false), adds _ _ _ c.self.invariant _ c.self.view_is c.args.ticket.client (WriteEnd c.args.ticket.serial c.args.ticket.page true) Cleaned _ _ c.record-2.ensures (invariant_of-self-2 g c))
