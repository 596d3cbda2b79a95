-- What the rows of a script add to a driver's core, which passes are then held, and why a row is
-- refused.
use Rattle.std.specs.Prelude.{◌≡◌, ◌≤◌, ◌<◌, ◌+◌, ◌^◌, ℕ, ◌==◌, List, [], ◌∷◌, ◌++◌, length, reverse}
use Rattle.bp_page.specs.declared.refusals.Refusal.{Refusal}
use Rattle.bp_page.specs.declared.refusals.Refusal.TheVariants as refusal
use Rattle.bp_page.specs.Refusals.{number_of}
use Rattle.bp_trail.specs.declared.entries.Call.TheVariants as call
use Rattle.bp_scripts.specs.declared.rows.Row.{Row}
use Rattle.bp_scripts.specs.declared.rows.Refused.{Refused}
use Rattle.bp_scripts.specs.declared.rows.Step.{Step}
use Rattle.bp_scripts.specs.declared.rows.Step.TheVariants as step
use Rattle.bp_trail.specs.Lists.{count}
use Rattle.bp_trail.specs.Event.{Grant}
use Rattle.bp_trail.specs.Trail.{Trail}
use Rattle.bp_trail.specs.Clock.{clock}
use Rattle.bp_core.specs.CoreView.{CoreView, EachPast, HasRoomFor, LacksRoomFor}
use Rattle.bp_core.specs.Outcomes.{TakesMemory}
use Rattle.bp_trail.specs.Pieces.{Outcome}
use Rattle.bp_trail.specs.Pieces.Manner.{driver}
use Rattle.bp_trail.specs.HeldPasses.{held_passes}
use Rattle.bp_scripts.specs.Script.{RowPiece, FollowsBy, GivesBack, Follows}
use Rattle.bp_core.specs.Added.{with_piece}

-- the notes of the passes that these entries leave out, in the order taken
abbrev pub AreHeld : List Grant → Trail → Type 0
AreHeld held said = held ≡ held_passes said

-- the core's newest entries are those of a list that leaves these passes out
pub record EndsIn (core : CoreView) (held : List Grant) : Type 0 where
  pub said : Trail
  pub start : Trail
  pub joined : core.past ≡ said ++ start
  pub are_held : AreHeld held said

-- no two of the passes have one serial number
abbrev pub SerialsDiffer : List Grant → Type 0
SerialsDiffer held = (n : ℕ) → count (λ g. g.serial == n) held ≤ 1

-- a row was driven: its piece was added, and the notes are of the passes that are out then
pub record DrivesRow (old : CoreView) (client : ℕ) (step : Step) (outcome : Outcome)
    (held held_after : List Grant) (new : CoreView) : Type 0 where
  pub piece : Trail
  pub is : new ≡ with_piece old piece
  pub of_row : (said : Trail) → AreHeld held said → RowPiece driver said client step piece outcome
  pub holds : (said : Trail) → AreHeld held said → AreHeld held_after (piece ++ said)

-- some of the passes that were held went back, each when it was the next one to, and the others are
-- left
pub record GoingBack (old : CoreView) (held left : List Grant) (new : CoreView) : Type 0 where
  pub back : Trail
  pub is : new ≡ with_piece old back
  pub are_held : (said : Trail) → AreHeld held said → AreHeld left (back ++ said)
  pub onwards : (said : Trail) → AreHeld held said → (after : Trail)
      → GivesBack (back ++ said) after → GivesBack said after

-- the passes that were held went back
pub record GaveBack (old : CoreView) (held : List Grant) (new : CoreView) : Type 0 where
  pub back : Trail
  pub is : new ≡ with_piece old back
  pub gives_back : (said : Trail) → AreHeld held said → GivesBack said (back ++ said)

-- the rows were driven: their pieces were added, one cut into pieces
pub record DrivesRows (old : CoreView) (rows : List Row) (refused : List Refused)
    (held : List Grant) (new : CoreView) : Type 0 where
  pub said : Trail
  pub ends : List ℕ
  pub is : new ≡ with_piece old said
  pub are_held : AreHeld held said
  pub follows : FollowsBy driver (reverse rows) ends said (reverse refused)

-- the entries that were added follow the script
pub record AddsScript (old : CoreView) (script : List Row) (refused : List Refused)
    (new : CoreView) : Type 0 where
  pub said : Trail
  pub is : new ≡ with_piece old said
  pub follows : Follows driver script said refused

-- how much room the call of a row asks for
abbrev pub room_asked : Step → ℕ
room_asked (step.Fix page) = 3
room_asked (step.Flush page) = 2
room_asked _ = 1

-- the clock would pass its limit; only a tick is refused for that
abbrev pub IsLate : Step → CoreView → Type 0
IsLate (step.Tick n) core = EachPast core (λ past. 2 ^ 62 < clock past + n)
IsLate _ core = Unit {0}

-- the row takes memory
abbrev pub WantsMemory : Step → CoreView → Type 0
WantsMemory (step.Fix page) core = TakesMemory (call.Fix page) core
WantsMemory (step.Flush page) core = TakesMemory (call.Flush page) core
WantsMemory (step.Read page) core = Unit {0}
WantsMemory (step.Write page offset bytes lsn) core = Unit {0}
WantsMemory _ core = ⊥

-- why a row is refused, by the core that it leaves: 20 where that lacks the room, 21 where the
-- clock would pass its limit, and 22 where it has the room and the row takes memory
abbrev pub RowCaused : Step → Refusal → CoreView → Type 0
RowCaused s refusal.TrailFull core = LacksRoomFor (room_asked s) core
RowCaused s refusal.ClockFull core = IsLate s core
RowCaused s refusal.OutOfMemory core = HasRoomFor (room_asked s) core × WantsMemory s core
RowCaused s _ core = Unit {0}

-- the rows, where the piece of each ends, the entries so far and the refusals, each newest first: a
-- refused row had its cause where its piece ends
pub data CausedRows (old : CoreView) : List Row → List ℕ → Trail → List Refused → Type 0 where
  none : CausedRows old [] [] [] []
  accepted : {rows : List Row} {ends : List ℕ} {said : Trail} {refusals : List Refused} (row : Row)
      (piece : Trail) → CausedRows old rows ends said refusals
      → CausedRows old (row ∷ rows) (length (piece ++ said) ∷ ends) (piece ++ said) refusals
  refused : {rows : List Row} {ends : List ℕ} {said : Trail} {refusals : List Refused} (row : Row)
      (piece : Trail) (why : Refusal) → CausedRows old rows ends said refusals
      → RowCaused row.step why (with_piece old (piece ++ said))
      → CausedRows old (row ∷ rows) (length (piece ++ said) ∷ ends) (piece ++ said)
      (record { row = row.row; number = number_of why } ∷ refusals)

-- the rows were driven, each with its cause where it was refused
pub record DrivesRowsCaused (old : CoreView) (rows : List Row) (refused : List Refused)
    (held : List Grant) (new : CoreView) : Type 0 where
  pub driven : DrivesRows old rows refused held new
  pub caused : CausedRows old (reverse rows) driven.ends driven.said (reverse refused)

-- by the cut by which what was added follows the script, each refused row had its cause
pub record ScriptCaused (old : CoreView) (script : List Row) (refused : List Refused)
    (new : CoreView) : Type 0 where
  pub by_rows : Trail
  pub ends : List ℕ
  pub said : Trail
  pub is : new ≡ with_piece old said
  pub pieces : FollowsBy driver (reverse script) ends by_rows (reverse refused)
  pub gives_back : GivesBack by_rows said
  pub caused : CausedRows old (reverse script) ends by_rows (reverse refused)
