use Rattle.std.proofs.Common.{◌≡◌, ap, sym, ◌∙◌, length, true}
use Rattle.bp_frames.specs.declared.frame.Frame.{Frame}
use Rattle.bp_trail.specs.Images.{held}
use Rattle.bp_trail.specs.Places.{resident}
use Rattle.bp_trail.proofs.Ranges.{sized}
use Rattle.bp_core.specs.CoreView.{CoreView}
use Rattle.bp_core.proofs.Seen.{frame_in, here_in, resident_seen}
use Rattle.bp_core.proofs.pool.PoolCore.resident_image.Goals as goal

pub returns-in_err-slot-clause-away : goal.returns-in_err-slot-clause-away
returns-in_err-slot-clause-away g c =
    rw c.from_residual.ensures (ap (λ v. resident v.past c.args.page) (sym c.self.view_is) ∙ sym (resident_seen _ _ _ c.self.invariant.agrees c.args.page) ∙ sym c.in_err-slot.ensures.here)

pub returns-clause-held : goal.returns-clause-held
returns-clause-held g c =
    ap (λ (f : Frame). f.image) (frame_in _ _ _ c.self.invariant.agrees c.args.page c.frame.result.now c.frame.ensures.here (c.frame.ensures.page ∙ c.in_ok-slot.ensures.found.1))
    ∙ ap (λ (v : CoreView). held v.past c.args.page) c.self.view_is

pub returns-clause-size : goal.returns-clause-size
returns-clause-size g c =
    let at = c.frame.ensures.page ∙ c.in_ok-slot.ensures.found.1 in
    ap (λ (f : Frame). length f.image) (frame_in _ _ _ c.self.invariant.agrees c.args.page c.frame.result.now c.frame.ensures.here at)
    ∙ sized _ _ c.self.invariant.agrees.legal c.args.page (here_in _ _ _ c.self.invariant.agrees c.args.page c.frame.result.now c.frame.ensures.here at)
    ∙ ap (λ (v : CoreView). v.parameters.size) c.self.view_is

pub returns-clause-here : goal.returns-clause-here
returns-clause-here g c =
    ap (λ v. resident v.past c.args.page) (sym c.self.view_is)
    ∙ here_in _ _ _ c.self.invariant.agrees c.args.page c.frame.result.now c.frame.ensures.here (c.frame.ensures.page ∙ c.in_ok-slot.ensures.found.1)
