use Rattle.std.proofs.Common.{refl, ◌≡◌, ◌<◌, sym, ◌∙◌, true, subst}
use Rattle.std.specs.Prelude.{All}
use Rattle.bp_frames.specs.Frames.{is_frame_of, is_unused, unpinned}
use Rattle.bp_trail.specs.declared.entries.Call.TheVariants.{Unfix}
use Rattle.bp_trail.specs.declared.entries.Reply.TheVariants.{Done}
use Rattle.bp_trail.specs.Event.{grant}
use Rattle.bp_trail.specs.Passes.{passes_out}
use Rattle.bp_trail.specs.Legal.{is_out}
use Rattle.bp_core.proofs.Seen.{some_pins}
use Rattle.bp_core.proofs.Keeps.{at-past, adds, pass-seen}
use Rattle.bp_core.proofs.Uses.{found, told-after}
use Rattle.bp_core.proofs.KeepsPasses.{frame-here, last-pass, keeps-unfix}
use Rattle.bp_core.proofs.pool.PoolCore.unfix.Goals as goal

pub unwrap-slot-requires : goal.unwrap-slot-requires
unwrap-slot-requires g c =
    let p = c.args.pass in
    c.find.ensures.here ∙ frame-here _ _ _ c.self.invariant _ c.self.view_is p.client p.page p.serial (pass-seen _ _ _ c.self.invariant _ c.self.view_is (grant p.client p.page p.serial) true (sym c.take_back.ensures.was ∙ c.if-not-take_back.false))

pub unpin-requires-clause-at : goal.unpin-requires-clause-at
unpin-requires-clause-at g c = (found c.self.inside.state.frames c.args.pass.page c.find.result c.unwrap-slot.result c.find.ensures.found c.unwrap-slot.ensures).0

pub unpin-requires-clause-some : goal.unpin-requires-clause-some
unpin-requires-clause-some g c =
    let p = c.args.pass in
    let at = found c.self.inside.state.frames c.args.pass.page c.find.result c.unwrap-slot.result c.find.ensures.found c.unwrap-slot.ensures in
    subst (λ q. All (λ f. is_frame_of q f ≡ true → 0 < f.pins) c.self.inside.state.frames.frames) (sym at.1)
    (some_pins _ _ _ c.self.invariant.agrees p.client p.page p.serial (at-past _ _ _ c.self.invariant _ c.self.view_is (λ q past. is_out (grant p.client p.page p.serial) (passes_out past) ≡ true) (pass-seen _ _ _ c.self.invariant _ c.self.view_is (grant p.client p.page p.serial) true (sym c.take_back.ensures.was ∙ c.if-not-take_back.false))))

pub end_use-requires-clause-at : goal.end_use-requires-clause-at
end_use-requires-clause-at g c = rw c.unpin.ensures (found c.self.inside.state.frames c.args.pass.page c.find.result c.unwrap-slot.result c.find.ensures.found c.unwrap-slot.ensures).0

pub end_use-requires-clause-blocks : goal.end_use-requires-clause-blocks
end_use-requires-clause-blocks g c = rw c.unpin.ensures (told-after _ _ _ c.self.invariant c.unwrap-slot.result.page unpinned (λ f. refl) (λ f. refl))

pub invariant_of-self-2 : goal.invariant_of-self-2
invariant_of-self-2 g c =
    let p = c.args.pass in
    let at = found c.self.inside.state.frames c.args.pass.page c.find.result c.unwrap-slot.result c.find.ensures.found c.unwrap-slot.ensures in
    let o = rw (c.unpin.ensures, at.1) at c.end_use.ensures in
    let e = o.entered in
    let unused = last-pass _ _ _ c.self.invariant _ c.self.view_is p.client p.page p.serial (pass-seen _ _ _ c.self.invariant _ c.self.view_is (grant p.client p.page p.serial) true (sym c.take_back.ensures.was ∙ c.if-not-take_back.false)) e.frame e.here e.page_is in
    rw (c.record.ensures, o.same) (keeps-unfix _ _ _ c.self.invariant _ c.self.view_is p.client p.page p.serial (pass-seen _ _ _ c.self.invariant _ c.self.view_is (grant p.client p.page p.serial) true (sym c.take_back.ensures.was ∙ c.if-not-take_back.false)) (is_unused e.frame) unused c.end_use.new.self.frames.candidates o.limits o.pages o.others e.entered c.take_back.new.self (c.take_back.ensures.out c.if-not-take_back.false) c.take_back.ensures.more)

pub returns : goal.returns
returns g c =
    let p = c.args.pass in
    record { outcome = (pass-seen _ _ _ c.self.invariant _ c.self.view_is (grant p.client p.page p.serial) true (sym c.take_back.ensures.was ∙ c.if-not-take_back.false), adds _ _ _ c.self.invariant _ c.self.view_is p.client (Unfix p.serial p.page) Done _ _ c.record.ensures (invariant_of-self-2 g c)) }
