-- The turns of a fix and of a flush, each of at most one mark and one event.
use Rattle.std.proofs.Common.{◌≡◌, refl, sym, subst, ℕ, [], ◌∷◌, ◌++◌, Result, Ok, Err, inl, inr}
use Rattle.std.specs.Prelude.{IsErrAnd}
use Rattle.bp_page.specs.declared.refusals.Refusal.{Refusal}
use Rattle.bp_page.specs.declared.refusals.Refusal.TheVariants as refusal
use Rattle.bp_session_log.specs.declared.pending.Fix.{Fix as Fixing}
use Rattle.bp_session_log.specs.declared.pending.Flush.{Flush as Flushing}
use Rattle.bp_core.specs.CoreView.{CoreView}
use Rattle.bp_trail.specs.declared.entries.Call.TheVariants.{Mark}
use Rattle.bp_trail.specs.declared.entries.Reply.TheVariants.{Done}
use Rattle.bp_trail.specs.Trail.{Trail}
use Rattle.bp_trail.specs.Pieces.{by, FixGoesOn, FlushGoesOn}
use Rattle.bp_trail.specs.Pieces.Manner.{session}
use Rattle.bp_trail.specs.Pieces.FixGoesOn.{begins as fix_begins, marked as fix_marked_by}
use Rattle.bp_trail.specs.Pieces.FlushGoesOn.{begins as flush_begins, marked as flush_marked_by}
use Rattle.bp_session_log.specs.Turns.{LookOutcome, MarksOnce, AskFixOutcome, AskFlushOutcome, FlushTurn}

-- marks and waits so far, after which the fix or the flush goes on
pub record FixWaits (client page : ℕ) (said after : Trail) : Type 0 where
  pub piece : Trail
  pub goes_on : FixGoesOn session client page piece
  pub grows : after ≡ piece ++ said

pub record FlushWaits (client page : ℕ) (said after : Trail) : Type 0 where
  pub piece : Trail
  pub goes_on : FlushGoesOn session client page piece
  pub grows : after ≡ piece ++ said

-- all turns so far
pub record FixTurns (client page : ℕ) (answer : Result Fixing Refusal) (said after : Trail) : Type 0 where
  pub marked : Trail
  pub waits : FixWaits client page said marked
  pub asks : AskFixOutcome client page answer marked after

pub record FlushTurns (client page : ℕ) (answer : Result Flushing Refusal) (said after : Trail) : Type 0 where
  pub marked : Trail
  pub waits : FlushWaits client page said marked
  pub asks : AskFlushOutcome client page answer marked after

pub fix_marked : (client page : ℕ) (said after : Trail) → MarksOnce client said after → FixWaits client page said after
fix_marked client page said after (inl same) = record { piece = []; goes_on = fix_begins; grows = same }
fix_marked client page said after (inr m) = record { piece = by client (Mark m.0) Done ∷ []; goes_on = fix_marked_by m.0 refl fix_begins; grows = m.1 }

pub flush_marked : (client page : ℕ) (said after : Trail) → MarksOnce client said after → FlushWaits client page said after
flush_marked client page said after (inl same) = record { piece = []; goes_on = flush_begins; grows = same }
flush_marked client page said after (inr m) = record { piece = by client (Mark m.0) Done ∷ []; goes_on = flush_marked_by m.0 refl flush_begins; grows = m.1 }
