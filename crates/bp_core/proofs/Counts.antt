-- What a core counts is what its entries say.
use Rattle.std.proofs.Common.{◌≡◌, ◌<◌, ◌^◌, length, ap, ◌∙◌, subst}
use Rattle.bp_trail.specs.Parameters.{Parameters}
use Rattle.bp_trail.specs.Lists.{count}
use Rattle.bp_trail.specs.Places.{residents}
use Rattle.bp_trail.specs.Saved.{unsaved}
use Rattle.bp_trail.proofs.Redo.{first-unsaved}
use Rattle.bp_trail.specs.Totals.{totals_of}
use Rattle.bp_frames.specs.Frames.{is_pinned, is_to_save}
use Rattle.bp_keeper.specs.Kept.{Kept}
use Rattle.bp_core.specs.declared.state.State.{State}
use Rattle.bp_core.specs.declared.stats.Stats.{Stats}
use Rattle.bp_core.specs.Agreement.{parts_of, IsCore, view_of}
use Rattle.bp_core.specs.Counts.{AreCounts}
use Rattle.bp_core.specs.CoreView.{CoreView}
use Rattle.bp_core.proofs.Placed.{same-counts}
use Rattle.bp_core.proofs.Seen.{frames_count}

module _ (c : Parameters) (trail : Kept) (x : State) (core : IsCore c trail x) (v : CoreView) (is : view_of c trail ≡ v) where
  pub counted : (s : Stats) → (length trail.past < 2 ^ 64 → s.totals ≡ totals_of trail.past) → s.resident ≡ length x.frames.frames → s.pinned ≡ count is_pinned x.frames.frames → s.unsaved ≡ count is_to_save x.frames.frames
      → s.loading ≡ length x.reads.out → s.writing ≡ length x.writes.out → AreCounts v.past s
  counted s totals resident pinned to_save loading writing =
      let seen = core.agrees.observed in
      subst (λ (u : CoreView). AreCounts u.past s) is (record {
        totals = totals;
        resident = resident ∙ frames_count c trail.past (parts_of x) core.agrees;
        pinned = pinned ∙ seen.frames_is is_pinned;
        unsaved = to_save ∙ seen.frames_is is_to_save ∙ same-counts _ (unsaved trail.past) (residents trail.past) (λ q here. first-unsaved trail.past q);
        loading = loading ∙ ap length seen.reads_is;
        writing = writing ∙ ap length seen.writes_is;
      })
