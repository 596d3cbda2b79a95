-- How the references go by, one by one.
use Rattle.std.specs.Prelude.{◌≡◌, ℕ, ◌^◌, ◌<◌, ◌≤◌, Bool, true, false, not, List, [], All, Option, Some, None, Result, Ok, Err}
use Rattle.bp_page.specs.declared.refusals.Refusal.{Refusal}
use Rattle.bp_page.specs.declared.refusals.Refusal.TheVariants as refusal
use Rattle.bp_page.specs.Refusals.{number_of}
use Rattle.bp_scripts.specs.declared.rows.Refused.{Refused}
use Rattle.bp_trail.specs.Event.{is_write}
use Rattle.bp_trail.specs.Lists.{every}
use Rattle.bp_trail.specs.Trail.{Trail}
use Rattle.bp_core.specs.declared.passes.Pass.{Pass}
use Rattle.bp_core.specs.CoreView.{CoreView}
use Rattle.bp_device.specs.Drivers.{DrivesFix}
use Rattle.bp_replay.specs.Rows.{DrivesRows}
use Rattle.bp_trail.specs.declared.totals.Totals.{Totals}
use Rattle.bp_trail.specs.Totals.{totals_of}
use Rattle.bp_sweep.specs.Cells.{script_of}

-- no page was written to
abbrev pub is_unwritten : Trail → Bool
is_unwritten past = every (λ e. not (is_write e.call)) past

-- a core whose entries were counted from the first on, and that wrote to no page
pub record IsTallied (core : CoreView) (totals : Totals) : Type 0 where
  pub whole : core.before ≡ []
  pub room : core.parameters.room ≤ 2 ^ 61
  pub unwritten : is_unwritten core.past ≡ true
  pub counted : totals ≡ totals_of core.past

-- the references so far went by, and no pass is held
pub record HasRun (start : CoreView) (pages : List ℕ) (core : CoreView) : Type 0 where
  pub refusals : List Refused
  pub driven : DrivesRows start (script_of pages) refusals [] core
  pub went_on : All (λ r. r.number < 20) refusals

-- a pass of the page, or none where the fix was refused or its read failed
abbrev pub FixesPage : CoreView → ℕ → Result (Option Pass) Refusal → CoreView → Type 0
FixesPage old page (Ok (Some pass)) new = DrivesFix old 0 page (Ok pass) new
FixesPage old page (Ok None) new =
    (why : Refusal) × (number_of why < 20) × DrivesFix old 0 page (Err why) new
FixesPage old page (Err why) new = Unit {0}

-- a fix that was refused so is an entry, after which the references go on
abbrev pub is_passed_over : Refusal → Bool
is_passed_over refusal.NoVictim = true
is_passed_over (refusal.NeedLog lsn) = true
is_passed_over refusal.Busy = true
is_passed_over _ = false

-- why a cell is not counted to its end
abbrev pub EndsCell : Refusal → Type 0
EndsCell refusal.TrailFull = Unit {0}
EndsCell refusal.ClockFull = Unit {0}
EndsCell refusal.OutOfMemory = Unit {0}
EndsCell _ = ⊥

-- what a cell may have for frames
abbrev pub AreFrames : ℕ → Type 0
AreFrames frames = (1 ≤ frames) × (frames ≤ 65536)

-- a cell was refused: its frames are out of their limits, or it was not counted to its end
abbrev pub CellRefused : ℕ → Refusal → Type 0
CellRefused frames refusal.BadSettings = ¬ AreFrames frames
CellRefused frames why = EndsCell why
