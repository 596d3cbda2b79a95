use Rattle.std.proofs.Common.{◌≡◌, ap, sym, ◌∙◌, true, arith}
use Rattle.bp_trail.specs.declared.entries.Call.TheVariants.{Fix}
use Rattle.bp_trail.specs.declared.entries.Reply.TheVariants.{Hit}
use Rattle.bp_trail.specs.Places.{resident}
use Rattle.bp_core.specs.CoreView.{EachPast, HasRoomFor}
use Rattle.bp_core.specs.Outcomes.IsQuiet.{fix_busy}
use Rattle.bp_core.proofs.Seen.{few_pins, now_is, known_is, resident_seen}
use Rattle.bp_core.proofs.Keeps.{adds}
use Rattle.bp_core.proofs.Placed.{held-here, tell-blocks}
use Rattle.bp_core.proofs.KeepsPasses.{keeps-hit}
use Rattle.bp_core.proofs.Memory.{here-takes}
use Rattle.bp_core.proofs.pool.PoolCore.fix.Goals as goal

pub is_loading-requires : goal.is_loading-requires
is_loading-requires g c = record { away = ap (λ v. resident v.past c.args.page) (sym c.self.view_is) ∙ sym (resident_seen _ _ _ c.self.invariant.agrees c.args.page) ∙ sym c.in_default.ensures.here }

pub load_into_free_frame-requires-clause-away : goal.load_into_free_frame-requires-clause-away
load_into_free_frame-requires-clause-away g c = ap (λ v. resident v.past c.args.page) (sym c.self.view_is) ∙ sym (resident_seen _ _ _ c.self.invariant.agrees c.args.page) ∙ sym c.in_default.ensures.here

pub evict_for-requires-clause-away : goal.evict_for-requires-clause-away
evict_for-requires-clause-away g c = ap (λ v. resident v.past c.args.page) (sym c.self.view_is) ∙ sym (resident_seen _ _ _ c.self.invariant.agrees c.args.page) ∙ sym c.in_default.ensures.here

pub record_unchanged-requires-clause-quiet : goal.record_unchanged-requires-clause-quiet
record_unchanged-requires-clause-quiet g c = fix_busy c.args.page

pub load_into_free_frame-requires-clause-frame : goal.load_into_free_frame-requires-clause-frame
load_into_free_frame-requires-clause-frame g c = sym c.has_free_frame.ensures ∙ c.if-has_free_frame.true

pub evict_for-requires-clause-full : goal.evict_for-requires-clause-full
evict_for-requires-clause-full g c = sym c.has_free_frame.ensures ∙ c.if-has_free_frame.false

pub block-block-requires-clause-blocks : goal.block-block-requires-clause-blocks
block-block-requires-clause-blocks g c = tell-blocks _ _ _ c.self.invariant

pub pin-requires-clause-few : goal.pin-requires-clause-few
pin-requires-clause-few g c =
    let r = c.self.invariant.trail_room in
    rw c.withdraw.ensures.same (few_pins _ _ _ c.self.invariant.agrees (omega (arith, r.owed, r.small)))

pub hit_at-requires-clause-held : goal.hit_at-requires-clause-held
hit_at-requires-clause-held g c = held-here _ _ _ c.self.invariant.agrees c.args.page (sym (resident_seen _ _ _ c.self.invariant.agrees c.args.page) ∙ sym c.in-Some.ensures.here)

pub hit_at-requires-clause-known : goal.hit_at-requires-clause-known
hit_at-requires-clause-known g c = known_is _ _ _ c.self.invariant.agrees c.args.page (sym (resident_seen _ _ _ c.self.invariant.agrees c.args.page) ∙ sym c.in-Some.ensures.here)

pub hit_at-requires-clause-now : goal.hit_at-requires-clause-now
hit_at-requires-clause-now g c = now_is _ _ _ c.self.invariant.agrees

pub invariant_of-self-2 : goal.invariant_of-self-2
invariant_of-self-2 g c =
    let room : HasRoomFor 3 c.args.self.now = omega (arith, c.free.ensures) in
    let here : EachPast c.args.self.now (λ past. resident past c.args.page ≡ true) = ap (λ v. resident v.past c.args.page) (sym c.self.view_is) ∙ sym (resident_seen _ _ _ c.self.invariant.agrees c.args.page) ∙ sym c.in-Some.ensures.here in
    let at = c.in-Some.ensures.found in
    let h = c.hit_at.ensures in
    let w = rw at.1 at c.withdraw.ensures in
    rw (c.record.ensures, c.give_pass-pass.ensures.after, c.give_pass-pass.ensures.pass, c.pin.ensures, at.1, w.same) (keeps-hit _ _ _ c.self.invariant _ c.self.view_is c.args.client c.args.page c.requires.client_in c.requires.page_in here room c.reserve.new.self c.reserve.ensures.out (omega (arith, c.in_ok-reserve.ensures.room, c.len-pending.ensures)) c.hit_at.new.self h.settings h.stamps h.others h.held h.latest h.places c.withdraw.new.self.candidates w.limits w.pages w.others w.left)

pub returns-in_err-reserve-clause-memory : goal.returns-in_err-reserve-clause-memory
returns-in_err-reserve-clause-memory g c = λ refused. here-takes _ _ _ c.self.invariant _ c.self.view_is c.args.page (ap (λ v. resident v.past c.args.page) (sym c.self.view_is) ∙ sym (resident_seen _ _ _ c.self.invariant.agrees c.args.page) ∙ sym c.in-Some.ensures.here)

pub returns-clause-outcome : goal.returns-clause-outcome
returns-clause-outcome g c =
    let room : HasRoomFor 3 c.args.self.now = omega (arith, c.free.ensures) in (
      room,
      ap (λ p. p.client) c.give_pass-pass.ensures.pass,
      ap (λ p. p.page) c.give_pass-pass.ensures.pass,
      adds _ _ _ c.self.invariant _ c.self.view_is c.args.client (Fix c.args.page) (Hit c.give_pass-pass.result.serial) _ _ c.record.ensures (invariant_of-self-2 g c),
    )
