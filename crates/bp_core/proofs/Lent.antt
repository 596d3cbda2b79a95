-- The image and the page LSN in the frame of a page of which a pass is out.
use Rattle.std.proofs.Common.{◌≡◌, ℕ, true, length, ap, ◌∙◌, subst}
use Rattle.std.specs.Prelude.{Contains}
use Rattle.bp_frames.specs.declared.frame.Frame.{Frame}
use Rattle.bp_trail.specs.Event.{grant}
use Rattle.bp_trail.specs.Images.{held}
use Rattle.bp_trail.specs.Legal.{is_out}
use Rattle.bp_trail.specs.Parameters.{Parameters}
use Rattle.bp_trail.specs.Passes.{passes_out}
use Rattle.bp_trail.specs.Saved.{page_lsn}
use Rattle.bp_trail.proofs.Ranges.{sized}
use Rattle.bp_keeper.specs.Kept.{Kept}
use Rattle.bp_core.specs.declared.state.State.{State}
use Rattle.bp_core.specs.Agreement.{parts_of, IsCore, view_of}
use Rattle.bp_core.specs.CoreView.{CoreView, EachPast}
use Rattle.bp_core.proofs.Seen.{frame_in}
use Rattle.bp_core.proofs.KeepsPasses.{pinned-page}

module _ (c : Parameters) (trail : Kept) (x : State) (core : IsCore c trail x) (v : CoreView) (is : view_of c trail ≡ v) (who p n : ℕ) (known : EachPast v (λ past. is_out (grant who p n) (passes_out past) ≡ true)) (f : Frame) (here : Contains x.frames.frames f) (page : f.page ≡ p) where
  as-held : f.image ≡ held trail.past p
  as-held = ap (λ (g : Frame). g.image) (frame_in c trail.past (parts_of x) core.agrees p f here page)

  -- it is the page's,
  pub image-held : EachPast v (λ past. f.image ≡ held past p)
  image-held = subst (λ u. EachPast u (λ past. f.image ≡ held past p)) is as-held

  -- and has the page size
  pub image-sized : length f.image ≡ v.parameters.size
  image-sized = subst (λ (u : CoreView). length f.image ≡ u.parameters.size) is (ap length as-held ∙ sized c trail.past core.agrees.legal p (pinned-page c trail x core v is who p n known))

  pub lsn-held : EachPast v (λ past. f.page_lsn ≡ page_lsn past p)
  lsn-held = subst (λ u. EachPast u (λ past. f.page_lsn ≡ page_lsn past p)) is (ap (λ (g : Frame). g.page_lsn) (frame_in c trail.past (parts_of x) core.agrees p f here page))
