-- What a command line asks for, in clap's own words: a run, a migration, a sweep, or an
-- explanation.
use Rattle.std.specs.Prelude.{◌≢◌, ℕ, ◌^◌, ◌≤◌, if◌then◌else◌, All, Bool, List, codes, length, Option, Some, None, IfSome, option_map}
use Rattle.std.specs.Str.{bytes_eq}
use Rattle.clap.specs.Walk.{is_empty}
use Rattle.clap.specs.Words.{Row, Text, first_of, subcommand_of}
use Rattle.bp_cli.specs.Command.{bpool_app}
use Rattle.bp_trace.specs.NumberLists.{most_listed}
use Rattle.bp_cli.specs.Words.{RunOptions, TraceAt, IsInLimits, ◌>>=◌, draws_over, explanation_at, fault_in, frames_at, ks_at, number_at, options_by_rows, options_of, trace_of, trace_given}
use Rattle.bp_cli.specs.Words.TraceAt.{at_path}
use Rattle.bp_cli.specs.declared.words.MigrationWords.{MigrationWords}
use Rattle.bp_cli.specs.declared.words.SweepWords.{SweepWords}
use Rattle.bp_cli.specs.declared.words.Task.{Task}
use Rattle.bp_cli.specs.declared.words.Task.TheVariants as task

-- what a migration is told: the page file of version 1, and the one of version 2 that is made
pub record Migration : Type 0 where
  pub old : Text
  pub new : Text
  pub size : ℕ

-- what a sweep is told: it runs each number of frames with each K
pub record Sweep : Type 0 where
  pub references : TraceAt
  pub frames : List ℕ
  pub ks : List ℕ
  pub correlated : ℕ
  -- which field of a record the number is in, from 1, where each line is a record; else each is a
  -- number
  pub column : Option ℕ
  -- where a picture of the table is written, if one is asked for
  pub svg : Option Text

-- what the words ask for
pub data Asked : Type 0 where
  a_run : RunOptions → Asked
  a_migration : Migration → Asked
  a_sweep : Sweep → Asked
  an_explanation : Text → Asked

-- what a migration's own rows tell it
abbrev pub migration_by_rows : List Row → Option Migration
migration_by_rows rows = do
  old ← first_of (codes "old") rows
  new ← first_of (codes "new") rows
  size ← number_at (codes "page-size") rows
  Some (record { old = old; new = new; size = size })

-- what a sweep's own rows tell it, beside its numbers of frames and its K
abbrev pub sweep_with : List ℕ → List ℕ → List Row → Option Sweep
sweep_with frames ks rows = do
  references ← first_of (codes "references") rows
  correlated ← number_at (codes "correlated") rows
  Some (record {
    references = trace_of references;
    frames = frames;
    ks = ks;
    correlated = correlated;
    column = number_at (codes "column") rows;
    svg = first_of (codes "svg") rows;
  })

-- what a sweep's own rows tell it, where its picture does not go into its references
abbrev pub sweep_given : Option (List ℕ) → Option (List ℕ) → Bool → List Row → Option Sweep
sweep_given (Some frames) (Some ks) over rows = if over then None else sweep_with frames ks rows
sweep_given _ _ over rows = None

abbrev pub sweep_by_rows : List Row → Option Sweep
sweep_by_rows rows = sweep_given (frames_at rows) (ks_at rows) (draws_over rows) rows

-- what the subcommand that was met asks for
abbrev pub asked_in : Option (Text × List Row) → Option Asked
asked_in None = None
asked_in (Some met) =
    if bytes_eq met.0 (codes "run") then option_map a_run (options_by_rows met.1)
    else if bytes_eq met.0 (codes "sweep") then option_map a_sweep (sweep_by_rows met.1)
    else if bytes_eq met.0 (codes "migrate") then option_map a_migration (migration_by_rows met.1)
    else if bytes_eq met.0 (codes "explain") then option_map an_explanation (explanation_at met.1)
    else None

-- what the words ask for, where they have no fault
abbrev pub asked_by : List Text → Option Asked
asked_by words =
    if is_empty (fault_in words) then asked_in (subcommand_of bpool_app words) else None

-- a page has so many bytes at most, and at least
pub record HasPageSize (size : ℕ) : Type 0 where
  pub some_bytes : 16 ≤ size
  pub few_bytes : size ≤ 65536

-- so many frames are within the limits of a pool
pub record IsFrames (frames : ℕ) : Type 0 where
  pub some_frames : 1 ≤ frames
  pub few_frames : frames ≤ 65536

-- so many references of a page may count
pub record IsStamps (k : ℕ) : Type 0 where
  pub some_stamps : 1 ≤ k
  pub few_stamps : k ≤ 16

-- a record may have the number in this field
pub record IsColumn (column : ℕ) : Type 0 where
  pub from_one : 1 ≤ column
  pub few_columns : column ≤ 65536

-- the numbers of a sweep are in the limits of the options, there are some of each, but not too
-- many, and no picture is drawn where the references are
pub record SweepsInLimits (s : Sweep) : Type 0 where
  pub frames : All IsFrames s.frames
  pub some_sizes : 1 ≤ length s.frames
  pub few_sizes : length s.frames ≤ most_listed
  pub ks : All IsStamps s.ks
  pub some_ks : 1 ≤ length s.ks
  pub few_ks : length s.ks ≤ most_listed
  pub correlated : s.correlated ≤ 2 ^ 62
  pub column : IfSome s.column IsColumn
  pub apart : IfSome s.svg (λ path. s.references ≢ at_path path)

abbrev pub AreInLimits : Asked → Type 0
AreInLimits (a_run options) = IsInLimits options
AreInLimits (a_migration m) = HasPageSize m.size
AreInLimits (a_sweep s) = SweepsInLimits s
AreInLimits (an_explanation text) = Unit {0}

-- ---- the values of the code

abbrev pub migration_of : MigrationWords → Migration
migration_of w = record { old = w.old.now; new = w.new.now; size = w.page_size }

abbrev pub sweep_of : SweepWords → Sweep
sweep_of w = record {
  references = trace_given w.references;
  frames = w.frames.items;
  ks = w.ks.items;
  correlated = w.correlated;
  column = w.column;
  svg = option_map (λ path. path.now) w.svg;
}

abbrev pub asked_of : Task → Asked
asked_of (task.Run w) = a_run (options_of w)
asked_of (task.Migrate w) = a_migration (migration_of w)
asked_of (task.Sweep w) = a_sweep (sweep_of w)
asked_of (task.Explain text) = an_explanation text.now
