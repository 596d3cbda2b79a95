use Rattle.std.proofs.Common.{◌≡◌, ap, sym, ◌∙◌, refl, true, arith, length, take, drop}
use Rattle.bp_frames.specs.declared.frame.Frame.{Frame}
use Rattle.bp_trail.specs.Images.{held}
use Rattle.bp_trail.specs.Places.{resident}
use Rattle.bp_trail.proofs.Ranges.{sized}
use Rattle.bp_core.specs.CoreView.{CoreView, EachPast, HasRoomFor}
use Rattle.bp_core.specs.Outcomes.{with_read}
use Rattle.bp_core.proofs.KeepsReads.{told-still, keeps-read}
use Rattle.bp_core.proofs.Placed.{held-here, tell-blocks}
use Rattle.bp_core.proofs.Seen.{frame_in, known_is, resident_seen}
use Rattle.bp_core.proofs.pool.PoolCore.read_resident.Goals as goal

pub returns-in_default-clause-outcome : goal.returns-in_default-clause-outcome
returns-in_default-clause-outcome g c =
    let room : HasRoomFor 3 c.args.self.now = omega (arith, c.free.ensures) in (
      room,
      ap (λ v. resident v.past c.args.page) (sym c.self.view_is) ∙ sym (resident_seen _ _ _ c.self.invariant.agrees c.args.page) ∙ sym c.in_default.ensures.here,
      refl,
      refl,
    )

pub copy_to-requires : goal.copy_to-requires
copy_to-requires g c =
    let here = sym (resident_seen _ _ _ c.self.invariant.agrees c.args.page) ∙ sym c.in-Some.ensures.here in
    let is = ap (λ (f : Frame). length f.image) (frame_in _ _ _ c.self.invariant.agrees c.args.page c.frame.result.now c.frame.ensures.here (c.frame.ensures.page ∙ c.in-Some.ensures.found.1)) in
    let size = sized _ _ c.self.invariant.agrees.legal c.args.page here in
    let seen = ap (λ (v : CoreView). v.parameters.size) c.self.view_is in
    omega (arith, c.requires.fits, is, size, seen)

pub block-block-requires-clause-blocks : goal.block-block-requires-clause-blocks
block-block-requires-clause-blocks g c = tell-blocks _ _ _ c.self.invariant

pub hit_at-requires-clause-held : goal.hit_at-requires-clause-held
hit_at-requires-clause-held g c = held-here _ _ _ c.self.invariant.agrees c.args.page (sym (resident_seen _ _ _ c.self.invariant.agrees c.args.page) ∙ sym c.in-Some.ensures.here)

pub hit_at-requires-clause-known : goal.hit_at-requires-clause-known
hit_at-requires-clause-known g c = known_is _ _ _ c.self.invariant.agrees c.args.page (sym (resident_seen _ _ _ c.self.invariant.agrees c.args.page) ∙ sym c.in-Some.ensures.here)

pub end_use-requires-clause-blocks : goal.end_use-requires-clause-blocks
end_use-requires-clause-blocks g c =
    let room : HasRoomFor 3 c.args.self.now = omega (arith, c.free.ensures) in
    let here : EachPast c.args.self.now (λ past. resident past c.args.page ≡ true) = ap (λ v. resident v.past c.args.page) (sym c.self.view_is) ∙ sym (resident_seen _ _ _ c.self.invariant.agrees c.args.page) ∙ sym c.in-Some.ensures.here in
    let h = c.hit_at.ensures in
    told-still _ _ _ c.self.invariant _ c.self.view_is c.args.client c.args.page c.requires.client_in c.requires.page_in here room c.hit_at.new.self h.settings h.stamps h.others h.held h.latest h.places

pub invariant_of-self : goal.invariant_of-self
invariant_of-self g c =
    let room : HasRoomFor 3 c.args.self.now = omega (arith, c.free.ensures) in
    let here : EachPast c.args.self.now (λ past. resident past c.args.page ≡ true) = ap (λ v. resident v.past c.args.page) (sym c.self.view_is) ∙ sym (resident_seen _ _ _ c.self.invariant.agrees c.args.page) ∙ sym c.in-Some.ensures.here in
    let at = c.in-Some.ensures.found in
    let h = c.hit_at.ensures in
    let o = rw at.1 at c.end_use.ensures in
    let held_is = ap (λ (f : Frame). f.image) (frame_in _ _ _ c.self.invariant.agrees c.args.page c.frame.result.now c.frame.ensures.here (c.frame.ensures.page ∙ at.1)) in
    rw (c.record-2.ensures, c.record_read.ensures, c.record.ensures, o.same) (keeps-read _ _ _ c.self.invariant _ c.self.view_is c.args.client c.args.page c.requires.client_in c.requires.page_in here room c.hit_at.new.self h.settings h.stamps h.others h.held h.latest h.places c.frame.result.now.image held_is o.entered.frame o.entered.here o.entered.page_is c.end_use.new.self.frames.candidates o.limits o.pages o.others o.entered.entered)

pub returns-clause-outcome : goal.returns-clause-outcome
returns-clause-outcome g c =
    let room : HasRoomFor 3 c.args.self.now = omega (arith, c.free.ensures) in
    let here : EachPast c.args.self.now (λ past. resident past c.args.page ≡ true) = ap (λ v. resident v.past c.args.page) (sym c.self.view_is) ∙ sym (resident_seen _ _ _ c.self.invariant.agrees c.args.page) ∙ sym c.in-Some.ensures.here in
    let held_is = ap (λ (f : Frame). f.image) (frame_in _ _ _ c.self.invariant.agrees c.args.page c.frame.result.now c.frame.ensures.here (c.frame.ensures.page ∙ c.in-Some.ensures.found.1)) ∙ ap (λ (v : CoreView). held v.past c.args.page) c.self.view_is in (
      room,
      here,
      rw c.of.ensures refl,
      rw (c.of.ensures, c.record-2.ensures, c.record_read.ensures, c.record.ensures, held_is) (ap (λ u. with_read u c.args.client c.args.page c.self.inside.state.passes_given (held c.args.self.now.past c.args.page)) c.self.view_is),
      (invariant_of-self g c).agrees.legal,
      c.copy_to.ensures ∙ ap (λ image. take (length c.args.into.now) (drop c.args.offset image)) held_is,
    )

pub returns-in_default-spare_image-clause-outcome : goal.returns-in_default-spare_image-clause-outcome
returns-in_default-spare_image-clause-outcome g c =
    let room : HasRoomFor 3 c.args.self.now = omega (arith, c.free.ensures) in (
      room,
      ap (λ v. resident v.past c.args.page) (sym c.self.view_is) ∙ sym (resident_seen _ _ _ c.self.invariant.agrees c.args.page) ∙ sym c.in-Some.ensures.here,
      refl,
      refl,
    )
