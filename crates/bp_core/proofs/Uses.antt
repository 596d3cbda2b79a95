-- What a slot or a frame that was found says, and the frame of a page whose use ended.
use Rattle.std.proofs.Common.{◌≡◌, ℕ, Option, Some, None, refl, sym, ap, ◌∙◌, subst}
use Rattle.std.specs.Prelude.{Contains, IfSome, IfNone, IsSome}
use Rattle.bp_replacer.specs.Histories.{place_of}
use Rattle.bp_frames.specs.declared.frame.Frame.{Frame}
use Rattle.bp_frames.specs.declared.frame.FrameSlot.{FrameSlot}
use Rattle.bp_frames.specs.Frames.{changed_at}
use Rattle.bp_frames.specs.Tables.{Table, IsSlotIn}
use Rattle.bp_frames.proofs.Tables.{changed-in, changed-all}
use Rattle.bp_trail.specs.Parameters.{Parameters}
use Rattle.bp_keeper.specs.Kept.{Kept}
use Rattle.bp_core.specs.declared.state.State.{State}
use Rattle.bp_core.specs.Agreement.{parts_of, frame_of, IsCore, TellBlocks}
use Rattle.bp_core.proofs.Seen.{frame_in}
use Rattle.bp_core.proofs.Placed.{tell-blocks}

-- what is sure to be there
pub is_there : {A : Type 0} (o : Option A) (Away : Type 0) → IfNone o Away → (Away → ⊥) → IsSome o
is_there None Away away never = absurd (never away)
is_there (Some a) Away away never = refl

pub at_some : {A : Type 0} (P : A → Type 0) (o : Option A) (a : A) → IfSome o P → o ≡ Some a → P a
at_some P o a tells is = subst (λ o. IfSome o P) is tells

pub found : (table : Table) (page : ℕ) (o : Option FrameSlot) (slot : FrameSlot) → IfSome o (λ s. IsSlotIn table s × (s.page ≡ page)) → o ≡ Some slot → IsSlotIn table slot × (slot.page ≡ page)
found table page o slot tells is = at_some (λ s. IsSlotIn table s × (s.page ≡ page)) o slot tells is

module _ (c : Parameters) (trail : Kept) (x : State) (core : IsCore c trail x) (p : ℕ) (change : Frame → Frame) (same : (f : Frame) → (change f).page ≡ f.page) where
  -- what the frame of a page is after a change of it
  pub frame-after : (f : Frame) → Contains (changed_at p change x.frames.frames) f → f.page ≡ p → f ≡ change (frame_of trail.past p (place_of x.histories p))
  frame-after f here page =
      let was = changed-in p change same x.frames.frames f here page in
      was.3 ∙ ap change (frame_in c trail.past (parts_of x) core.agrees p was.0 was.1 was.2)

  -- and each frame still tells where the block of its page is
  pub told-after : ((f : Frame) → (change f).block ≡ f.block) → TellBlocks x.histories (changed_at p change x.frames.frames)
  told-after block =
      changed-all (λ f. IsSome f.block × (f.block ≡ place_of x.histories f.page)) p change
      (λ f told. (subst IsSome (sym (block f)) told.0, block f ∙ told.1 ∙ ap (place_of x.histories) (sym (same f))))
      x.frames.frames (tell-blocks c trail x core)
