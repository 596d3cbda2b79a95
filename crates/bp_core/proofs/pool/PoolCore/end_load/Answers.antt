use Rattle.std.proofs.Common.{◌≡◌, true, Some, sym, ap, ◌∙◌, length}
use Rattle.bp_trail.specs.declared.entries.Call.TheVariants.{ReadEnd}
use Rattle.bp_trail.specs.declared.entries.Reply.TheVariants.{Fixed}
use Rattle.bp_trail.specs.Event.{grant}
use Rattle.bp_core.specs.declared.passes.Pass.{Pass}
use Rattle.bp_core.specs.declared.state.State.{State}
use Rattle.bp_core.proofs.Seen.{now_is}
use Rattle.bp_core.proofs.Keeps.{adds, at-parameters, read-seen}
use Rattle.bp_core.proofs.KeepsLoads.{held-now, absent-now, in-file, keeps-end_load}
use Rattle.bp_core.proofs.Filled.{filled-image}
use Rattle.bp_core.proofs.pool.PoolCore.end_load.Goals as goal

pub unwrap-block-requires : goal.unwrap-block-requires
unwrap-block-requires g c = c.place.ensures.held (held-now _ _ _ c.self.invariant _ c.self.view_is c.args.ticket.client c.args.ticket.page c.args.ticket.serial (read-seen _ _ _ c.self.invariant _ c.self.view_is (grant c.args.ticket.client c.args.ticket.page c.args.ticket.serial) true (sym c.take_back.ensures.was ∙ c.if-not-take_back.false)))

pub install-before-requires-clause-absent : goal.install-before-requires-clause-absent
install-before-requires-clause-absent g c = absent-now _ _ _ c.self.invariant _ c.self.view_is c.args.ticket.client c.args.ticket.page c.args.ticket.serial (read-seen _ _ _ c.self.invariant _ c.self.view_is (grant c.args.ticket.client c.args.ticket.page c.args.ticket.serial) true (sym c.take_back.ensures.was ∙ c.if-not-take_back.false))

pub install-before-requires-clause-in_range : goal.install-before-requires-clause-in_range
install-before-requires-clause-in_range g c = in-file _ _ _ c.self.invariant _ c.self.view_is c.args.ticket.client c.args.ticket.page c.args.ticket.serial (read-seen _ _ _ c.self.invariant _ c.self.view_is (grant c.args.ticket.client c.args.ticket.page c.args.ticket.serial) true (sym c.take_back.ensures.was ∙ c.if-not-take_back.false))

pub fault_at-requires-clause-held : goal.fault_at-requires-clause-held
fault_at-requires-clause-held g c = held-now _ _ _ c.self.invariant _ c.self.view_is c.args.ticket.client c.args.ticket.page c.args.ticket.serial (read-seen _ _ _ c.self.invariant _ c.self.view_is (grant c.args.ticket.client c.args.ticket.page c.args.ticket.serial) true (sym c.take_back.ensures.was ∙ c.if-not-take_back.false))

pub fault_at-requires-clause-now : goal.fault_at-requires-clause-now
fault_at-requires-clause-now g c = now_is _ _ _ c.self.invariant.agrees

-- the frame that was filled has the image that arrived
pub record_read_end-requires-clause-size : goal.record_read_end-requires-clause-size
record_read_end-requires-clause-size g c =
    let t = c.args.ticket in
    let f = c.install-before.ensures in
    let absent = absent-now _ _ _ c.self.invariant _ c.self.view_is t.client t.page t.serial (read-seen _ _ _ c.self.invariant _ c.self.view_is (grant c.args.ticket.client c.args.ticket.page c.args.ticket.serial) true (sym c.take_back.ensures.was ∙ c.if-not-take_back.false)) in
    let same = ap (λ (x : State). x.frames) c.give_pass-pass.ensures.after in
    let is = filled-image t.page c.unwrap-block.result c.args.image c.self.inside.state.frames.frames c.install-before.new.self c.give_pass-pass.new.self.frames f.frames absent same c.frame.result.now c.frame.ensures.here (c.frame.ensures.page ∙ f.page) in
    f.left ∙ c.self.invariant.frame_room.size_is ∙ sym (ap length is ∙ at-parameters _ _ _ c.self.invariant _ c.self.view_is (λ q. length c.args.image ≡ q.size) c.requires)

pub invariant_of-self-2 : goal.invariant_of-self-2
invariant_of-self-2 g c =
    let t = c.args.ticket in
    let f = c.install-before.ensures in
    let h = c.fault_at.ensures in
    let absent = absent-now _ _ _ c.self.invariant _ c.self.view_is t.client t.page t.serial (read-seen _ _ _ c.self.invariant _ c.self.view_is (grant c.args.ticket.client c.args.ticket.page c.args.ticket.serial) true (sym c.take_back.ensures.was ∙ c.if-not-take_back.false)) in
    let same = ap (λ (x : State). x.frames) c.give_pass-pass.ensures.after in
    let is = filled-image t.page c.unwrap-block.result c.args.image c.self.inside.state.frames.frames c.install-before.new.self c.give_pass-pass.new.self.frames f.frames absent same c.frame.result.now c.frame.ensures.here (c.frame.ensures.page ∙ f.page) in
    rw (c.record_read_end.ensures, is, c.give_pass-pass.ensures.after, c.give_pass-pass.ensures.pass)
    (keeps-end_load _ _ _ c.self.invariant _ c.self.view_is t.client t.page t.serial (read-seen _ _ _ c.self.invariant _ c.self.view_is (grant c.args.ticket.client c.args.ticket.page c.args.ticket.serial) true (sym c.take_back.ensures.was ∙ c.if-not-take_back.false)) c.take_back.new.self (c.take_back.ensures.out c.if-not-take_back.false) c.take_back.ensures.more c.unwrap-block.result (sym c.place.ensures.place ∙ c.unwrap-block.ensures) c.args.image c.requires c.install-before.new.self f.frames f.empty_frames f.size f.capacity f.pages f.candidates c.fault_at.new.self h.settings h.stamps h.others h.held h.latest h.places)

pub returns : goal.returns
returns g c =
    let t = c.args.ticket in
    let f = c.install-before.ensures in
    let absent = absent-now _ _ _ c.self.invariant _ c.self.view_is t.client t.page t.serial (read-seen _ _ _ c.self.invariant _ c.self.view_is (grant c.args.ticket.client c.args.ticket.page c.args.ticket.serial) true (sym c.take_back.ensures.was ∙ c.if-not-take_back.false)) in
    let same = ap (λ (x : State). x.frames) c.give_pass-pass.ensures.after in
    let is = filled-image t.page c.unwrap-block.result c.args.image c.self.inside.state.frames.frames c.install-before.new.self c.give_pass-pass.new.self.frames f.frames absent same c.frame.result.now c.frame.ensures.here (c.frame.ensures.page ∙ f.page) in
    let made = c.give_pass-pass.ensures.pass in
    (ap (λ (x : Pass). x.client) made, ap (λ (x : Pass). x.page) made, (read-seen _ _ _ c.self.invariant _ c.self.view_is (grant c.args.ticket.client c.args.ticket.page c.args.ticket.serial) true (sym c.take_back.ensures.was ∙ c.if-not-take_back.false)), adds _ _ _ c.self.invariant _ c.self.view_is t.client (ReadEnd t.serial t.page (Some c.args.image)) (Fixed c.give_pass-pass.result.serial) _ _ (rw is at c.record_read_end.ensures) (invariant_of-self-2 g c))
