use Rattle.std.proofs.Common.{◌≡◌, true, refl, ◌∙◌, ap, subst}
use Rattle.bp_trail.specs.declared.entries.Reply.TheVariants.{WriteFirst}
use Rattle.bp_trail.specs.Images.{held}
use Rattle.bp_trail.specs.Saved.{page_lsn}
use Rattle.bp_trail.specs.Places.{resident}
use Rattle.bp_core.specs.CoreView.{EachPast}
use Rattle.bp_core.proofs.Seen.{frame_in, resident_seen}
use Rattle.bp_core.proofs.Keeps.{at-past, adds}
use Rattle.bp_core.proofs.Uses.{found}
use Rattle.bp_core.proofs.KeepsWriteOuts.{keeps-begin}
use Rattle.bp_core.proofs.pool.PoolCore.begin_write_out.Goals as goal

pub unwrap-slot-requires : goal.unwrap-slot-requires
unwrap-slot-requires g c =
    c.find.ensures.here ∙ resident_seen _ _ _ c.self.invariant.agrees c.args.page ∙ at-past _ _ _ c.self.invariant _ c.self.view_is (λ q past. resident past c.args.page ≡ true) c.requires.here

pub frame-frame-requires : goal.frame-frame-requires
frame-frame-requires g c = (found c.self.inside.state.frames c.args.page c.find.result c.unwrap-slot.result c.find.ensures.found c.unwrap-slot.ensures).0

pub withdraw-requires : goal.withdraw-requires
withdraw-requires g c = (found c.self.inside.state.frames c.args.page c.find.result c.unwrap-slot.result c.find.ensures.found c.unwrap-slot.ensures).0

pub begin_write_out-requires : goal.begin_write_out-requires
begin_write_out-requires g c = rw c.withdraw.ensures.same (found c.self.inside.state.frames c.args.page c.find.result c.unwrap-slot.result c.find.ensures.found c.unwrap-slot.ensures).0

pub invariant_of-self-2 : goal.invariant_of-self-2
invariant_of-self-2 g c =
    let at = found c.self.inside.state.frames c.args.page c.find.result c.unwrap-slot.result c.find.ensures.found c.unwrap-slot.ensures in
    let w = rw at.1 at c.withdraw.ensures in
    let is = frame_in _ _ _ c.self.invariant.agrees c.args.page c.frame-frame.result.now c.frame-frame.ensures.here (c.frame-frame.ensures.page ∙ at.1) in
    let image : c.in_ok-image.image ≡ held (g.K.Keeper.kept c.self.inside.trail).past c.args.page = c.in_ok-image.ensures ∙ c.bytes.ensures ∙ ap (λ f. f.image) is in
    rw (c.record_begin.ensures, c.give_write-serial.ensures.after, c.give_write-serial.ensures.serial, c.begin_write_out.ensures, at.1, w.same, image)
    (keeps-begin _ _ _ c.self.invariant _ c.self.view_is c.args.client c.args.call c.args.page c.requires.begins c.requires.client_in c.requires.allowed c.requires.reply c.requires.room c.reserve.new.self c.reserve.ensures.out c.withdraw.new.self.candidates w.limits w.pages w.others w.left)

pub returns-clause-outcome : goal.returns-clause-outcome
returns-clause-outcome g c =
    let at = found c.self.inside.state.frames c.args.page c.find.result c.unwrap-slot.result c.find.ensures.found c.unwrap-slot.ensures in
    let f = c.frame-frame.result.now in
    let is = frame_in _ _ _ c.self.invariant.agrees c.args.page f c.frame-frame.ensures.here (c.frame-frame.ensures.page ∙ at.1) in
    let lsn = subst (λ v. EachPast v (λ past. f.page_lsn ≡ page_lsn past c.args.page)) c.self.view_is (ap (λ f. f.page_lsn) is) in
    (refl, refl, lsn, adds _ _ _ c.self.invariant _ c.self.view_is c.args.client c.args.call (WriteFirst c.give_write-serial.result c.args.page c.in_ok-image.image) _ _ c.record_begin.ensures (invariant_of-self-2 g c))
