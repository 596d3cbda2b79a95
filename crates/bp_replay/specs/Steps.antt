-- What one step of a client's script adds to the client's list.
use Rattle.std.specs.Prelude.{◌≡◌, ◌≤◌, ℕ, ◌==◌, ◌++◌, filter_map}
use Rattle.bp_scripts.specs.declared.rows.Step.{Step}
use Rattle.bp_scripts.specs.declared.rows.Step.TheVariants as step
use Rattle.bp_trail.specs.Lists.{count}
use Rattle.bp_trail.specs.Passes.{pass_of}
use Rattle.bp_trail.specs.Trail.{Trail}
use Rattle.bp_trail.specs.Pieces.{Outcome}
use Rattle.bp_trail.specs.Pieces.Manner.{session}
use Rattle.bp_scripts.specs.Script.{RowPiece}
use Rattle.bp_core.specs.Work.{Reads, Writes}
use Rattle.bp_shared.specs.Sessions.{DoesWorkSaid, SessionValue}
use Rattle.bp_shared.specs.Telling.{GoesOnFrom}

-- no two of the passes that a list was given have one number
abbrev pub GivesEachOnce : Trail → Type 0
GivesEachOnce said = (n : ℕ) → count (λ g. g.serial == n) (filter_map pass_of said) ≤ 1

-- a client's session is still the client's, nothing was cut of its list, no pass that it was given has
-- the number of another one, and it sees what it saw
pub record Stays (old new : SessionValue) : Type 0 where
  pub client : new.client ≡ old.client
  pub before : new.before ≡ old.before
  pub once : GivesEachOnce old.said → GivesEachOnce new.said
  pub goes_on : GoesOnFrom old.seen new.seen

-- the piece of the step was added
pub record StepSaid (client : ℕ) (step : Step) (outcome : Outcome)
    (said after : Trail) : Type 0 where
  pub piece : Trail
  pub of_row : RowPiece session said client step piece outcome
  pub grows : after ≡ piece ++ said

-- for a fix or a flush the port did the work of what the list got, and no other step asks the port
abbrev pub StepWork : {P : Type 0} → Reads P → Writes P → Step → Trail → Trail → P → P → Type 0
StepWork reads writes (step.Fix page) said after port kept =
    DoesWorkSaid reads writes said after port kept
StepWork reads writes (step.Flush page) said after port kept =
    DoesWorkSaid reads writes said after port kept
StepWork reads writes _ said after port kept = kept ≡ port
