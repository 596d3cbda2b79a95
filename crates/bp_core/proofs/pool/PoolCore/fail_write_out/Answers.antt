use Rattle.std.proofs.Common.{refl, sym, ◌∙◌, true, false}
use Rattle.bp_frames.specs.Frames.{is_unused, not_saved}
use Rattle.bp_trail.specs.declared.entries.Call.TheVariants.{WriteEnd}
use Rattle.bp_trail.specs.declared.entries.Reply.TheVariants.{WriteFailed}
use Rattle.bp_trail.specs.Event.{grant}
use Rattle.bp_core.proofs.Keeps.{adds, write-seen}
use Rattle.bp_core.proofs.Uses.{found, told-after}
use Rattle.bp_core.proofs.KeepsWriteOuts.{frame-here, idle-after, keeps-fail_write_out}
use Rattle.bp_core.proofs.pool.PoolCore.fail_write_out.Goals as goal

pub unwrap-slot-requires : goal.unwrap-slot-requires
unwrap-slot-requires g c = c.find.ensures.here ∙ frame-here _ _ _ c.self.invariant _ c.self.view_is c.args.ticket.client c.args.ticket.page c.args.ticket.serial (write-seen _ _ _ c.self.invariant _ c.self.view_is (grant c.args.ticket.client c.args.ticket.page c.args.ticket.serial) true (sym c.take_back.ensures.was ∙ c.if-not-take_back.false))

pub fail_write_out-requires : goal.fail_write_out-requires
fail_write_out-requires g c = (found c.self.inside.state.frames c.args.ticket.page c.find.result c.unwrap-slot.result c.find.ensures.found c.unwrap-slot.ensures).0

pub end_use-requires-clause-at : goal.end_use-requires-clause-at
end_use-requires-clause-at g c = rw c.fail_write_out.ensures (found c.self.inside.state.frames c.args.ticket.page c.find.result c.unwrap-slot.result c.find.ensures.found c.unwrap-slot.ensures).0

pub end_use-requires-clause-blocks : goal.end_use-requires-clause-blocks
end_use-requires-clause-blocks g c = rw c.fail_write_out.ensures (told-after _ _ _ c.self.invariant c.unwrap-slot.result.page not_saved (λ f. refl) (λ f. refl))

pub invariant_of-self-2 : goal.invariant_of-self-2
invariant_of-self-2 g c =
    let at = found c.self.inside.state.frames c.args.ticket.page c.find.result c.unwrap-slot.result c.find.ensures.found c.unwrap-slot.ensures in
    let o = rw (c.fail_write_out.ensures, at.1) at c.end_use.ensures in
    let e = o.entered in
    let unused = idle-after _ _ _ c.self.invariant _ c.self.view_is c.args.ticket.client c.args.ticket.page c.args.ticket.serial (write-seen _ _ _ c.self.invariant _ c.self.view_is (grant c.args.ticket.client c.args.ticket.page c.args.ticket.serial) true (sym c.take_back.ensures.was ∙ c.if-not-take_back.false)) not_saved (λ f. refl) (λ f. refl) (λ f. refl) e.frame e.here e.page_is in
    rw (c.record.ensures, o.same)
    (keeps-fail_write_out _ _ _ c.self.invariant _ c.self.view_is c.args.ticket.client c.args.ticket.page c.args.ticket.serial (write-seen _ _ _ c.self.invariant _ c.self.view_is (grant c.args.ticket.client c.args.ticket.page c.args.ticket.serial) true (sym c.take_back.ensures.was ∙ c.if-not-take_back.false)) c.take_back.new.self (c.take_back.ensures.out c.if-not-take_back.false) c.take_back.ensures.more (is_unused e.frame) unused c.end_use.new.self.frames.candidates o.limits o.pages o.others e.entered)

pub returns : goal.returns
returns g c =
    (write-seen _ _ _ c.self.invariant _ c.self.view_is (grant c.args.ticket.client c.args.ticket.page c.args.ticket.serial) true (sym c.take_back.ensures.was ∙ c.if-not-take_back.false), adds _ _ _ c.self.invariant _ c.self.view_is c.args.ticket.client (WriteEnd c.args.ticket.serial c.args.ticket.page false) WriteFailed _ _ c.record.ensures (invariant_of-self-2 g c))
