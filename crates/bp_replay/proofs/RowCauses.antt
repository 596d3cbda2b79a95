-- Why a row is refused, and that each refused row of a script had its cause.
use Rattle.std.proofs.Common.{List, ◌≡◌, sym, subst, ℕ, ◌++◌, ◌∷◌, [], length, Result, Ok, Err}
use Rattle.std.specs.Prelude.{IfErr, reverse}
use Rattle.bp_page.specs.declared.refusals.Refusal.{Refusal}
use Rattle.bp_page.specs.declared.refusals.Refusal.TheVariants as refusal
use Rattle.bp_trail.specs.declared.entries.Call.TheVariants.{Fix, Flush, Mark}
use Rattle.bp_scripts.specs.declared.rows.Row.{Row}
use Rattle.bp_scripts.specs.declared.rows.Refused.{Refused}
use Rattle.bp_scripts.specs.declared.rows.Step.TheVariants as step
use Rattle.bp_trail.specs.Event.{Grant}
use Rattle.bp_trail.specs.Pieces.{outcome_of}
use Rattle.bp_scripts.specs.Script.{refused_row}
use Rattle.bp_trail.proofs.Counting.{reverse-push}
use Rattle.bp_core.specs.CoreView.{CoreView, LacksRoomFor}
use Rattle.bp_core.specs.Outcomes.{DiscardOutcome, TickOutcome, StepOutcome}
use Rattle.bp_device.specs.Drivers.{IsCaused}
use Rattle.bp_replay.specs.Rows.{DrivesRow, GaveBack, RowCaused, IsLate, CausedRows, DrivesRowsCaused, ScriptCaused}
use Rattle.bp_replay.specs.Rows.CausedRows.{none, accepted, refused}
use Rattle.bp_replay.proofs.ScriptSteps.{rows-none, rows-step, two-pieces}

pub fix-row-caused : (core : CoreView) (page : ℕ) (why : Refusal) → IsCaused (Fix page) why core → RowCaused (step.Fix page) why core
fix-row-caused core page refusal.TrailFull h = h
fix-row-caused core page refusal.OutOfMemory h = h
fix-row-caused core page refusal.ClockFull h = absurd h
fix-row-caused core page _ h = tt

pub flush-row-caused : (core : CoreView) (page : ℕ) (why : Refusal) → IsCaused (Flush page) why core → RowCaused (step.Flush page) why core
flush-row-caused core page refusal.TrailFull h = h
flush-row-caused core page refusal.OutOfMemory h = h
flush-row-caused core page refusal.ClockFull h = absurd h
flush-row-caused core page _ h = tt

pub discard-row-caused : (old new : CoreView) (client page : ℕ) (why : Refusal) → DiscardOutcome old client page (Err why) new → RowCaused (step.Discard page) why new
discard-row-caused old new client page refusal.Pinned h = tt
discard-row-caused old new client page refusal.Busy h = tt
discard-row-caused old new client page refusal.TrailFull h = subst (LacksRoomFor 1) (sym h.1) h.0
discard-row-caused old new client page _ h = absurd h

pub tick-row-caused : (old new : CoreView) (client n : ℕ) (result : Result (Unit {0}) Refusal) → TickOutcome old client n result new → IfErr result (λ why. RowCaused (step.Tick n) why new)
tick-row-caused old new client n (Ok done) h = tt
tick-row-caused old new client n (Err refusal.TrailFull) h = subst (LacksRoomFor 1) (sym h.1) h.0
tick-row-caused old new client n (Err refusal.ClockFull) h = subst (IsLate (step.Tick n)) (sym h.2) h.1
tick-row-caused old new client n (Err _) h = absurd h

pub log-row-caused : (old new : CoreView) (client lsn : ℕ) (result : Result (Unit {0}) Refusal) → StepOutcome old client (Mark lsn) result new → IfErr result (λ why. RowCaused (step.Log lsn) why new)
log-row-caused old new client lsn (Ok done) h = tt
log-row-caused old new client lsn (Err refusal.TrailFull) h = subst (LacksRoomFor 1) (sym h.1) h.0
log-row-caused old new client lsn (Err _) h = absurd h

pub caused-none : (core : CoreView) → DrivesRowsCaused core [] [] [] core
unfolding rows-none
caused-none core = record { driven = rows-none core; caused = none }

pub caused-step : (old mid new : CoreView) (rows : List Row) (row : Row) (outcome : Result (Unit {0}) Refusal) (refusals refusals_after : List Refused) (held held_after : List Grant)
    → DrivesRowsCaused old rows refusals held mid → DrivesRow mid row.client row.step (outcome_of outcome) held held_after new → IfErr outcome (λ why. RowCaused row.step why new)
    → reverse refusals_after ≡ refused_row row.row (outcome_of outcome) ++ reverse refusals → DrivesRowsCaused old (rows ++ row ∷ []) refusals_after held_after new
unfolding rows-step
caused-step old mid new rows row outcome refusals refusals_after held held_after before adds cause noted = record {
  driven = rows-step old mid new rows row (outcome_of outcome) refusals refusals_after held held_after before.driven adds noted;
  caused = subst (λ rs. CausedRows old rs ends (adds.piece ++ before.driven.said) (reverse refusals_after)) (sym (reverse-push rows row))
      (subst (λ rs. CausedRows old (row ∷ reverse rows) ends (adds.piece ++ before.driven.said) rs) (sym noted) (go outcome cause));
}
  where
    ends : List ℕ
    ends = length (adds.piece ++ before.driven.said) ∷ before.driven.ends

    go : (o : Result (Unit {0}) Refusal) → IfErr o (λ why. RowCaused row.step why new) → CausedRows old (row ∷ reverse rows) ends (adds.piece ++ before.driven.said) (refused_row row.row (outcome_of o) ++ reverse refusals)
    go (Ok done) c = accepted row adds.piece before.caused
    go (Err why) c = refused row adds.piece why before.caused (subst (RowCaused row.step why) (two-pieces old mid new before.driven.said adds.piece before.driven.is adds.is) c)

pub script-caused : (old mid new : CoreView) (rows : List Row) (refusals : List Refused) (held : List Grant) → DrivesRowsCaused old rows refusals held mid → GaveBack mid held new → ScriptCaused old rows refusals new
script-caused old mid new rows refusals held h gave = record {
  by_rows = h.driven.said;
  ends = h.driven.ends;
  said = gave.back ++ h.driven.said;
  is = two-pieces old mid new h.driven.said gave.back h.driven.is gave.is;
  pieces = h.driven.follows;
  gives_back = gave.gives_back h.driven.said h.driven.are_held;
  caused = h.caused;
}
