use Rattle.std.proofs.Common.{ap, ◌∙◌, sym}
use Rattle.bp_frames.specs.declared.frame.Frame.{Frame}
use Rattle.bp_trail.specs.Places.{loading, resident}
use Rattle.bp_core.specs.Agreement.{frame_of}
use Rattle.bp_core.proofs.Seen.{frame_in, here_in, resident_seen}
use Rattle.bp_core.proofs.Held.{here-idle}
use Rattle.bp_core.proofs.pool.PoolCore.frame.Goals as goal

pub returns-in_err-slot-clause-away : goal.returns-in_err-slot-clause-away
returns-in_err-slot-clause-away g c =
    rw c.from_residual.ensures (ap (λ v. resident v.past c.args.page) (sym c.self.view_is) ∙ sym (resident_seen _ _ _ c.self.invariant.agrees c.args.page) ∙ sym c.in_err-slot.ensures.here)

pub returns-clause-found : goal.returns-clause-found
returns-clause-found g c =
    let is = frame_in _ _ _ c.self.invariant.agrees c.args.page c.frame.result.now c.frame.ensures.here (c.frame.ensures.page ∙ c.in_ok-slot.ensures.found.1) in
    is ∙ ap (λ b. frame_of (g.K.Keeper.kept c.self.inside.trail).past c.args.page b) (sym (ap (λ (g : Frame). g.block) is)) ∙ ap (λ v. frame_of v.past c.args.page c.frame.result.now.block) c.self.view_is

pub returns-clause-here : goal.returns-clause-here
returns-clause-here g c =
    ap (λ v. resident v.past c.args.page) (sym c.self.view_is) ∙ here_in _ _ _ c.self.invariant.agrees c.args.page c.frame.result.now c.frame.ensures.here (c.frame.ensures.page ∙ c.in_ok-slot.ensures.found.1)

pub returns-clause-idle : goal.returns-clause-idle
returns-clause-idle g c =
    ap (λ v. loading v.past c.args.page) (sym c.self.view_is)
    ∙ here-idle _ _ _ c.self.invariant.agrees c.args.page (here_in _ _ _ c.self.invariant.agrees c.args.page c.frame.result.now c.frame.ensures.here (c.frame.ensures.page ∙ c.in_ok-slot.ensures.found.1))
