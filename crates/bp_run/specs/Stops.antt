-- How a run ends without a report, a sweep without a table, and a migration without a new page
-- file, by the cause.
use Rattle.std.specs.Prelude.{◌≡◌, ◌⊎◌, ℕ, Bool, true, false, List, Option, Some, None, IfSome, Ok, Err}
use Rattle.std.specs.Io.KnownBytes.{Appends}
use Rattle.clap.specs.Words.{Text}
use Rattle.bp_page.specs.declared.limits.Geometry.{Geometry}
use Rattle.bp_page.specs.declared.refusals.Refusal.TheVariants.{BadLength, OutOfMemory}
use Rattle.bp_ports.specs.declared.files.OpenFault.{OpenFault}
use Rattle.bp_scripts.specs.declared.rows.Row.{Row}
use Rattle.bp_trace.specs.Script.{Answers, script_of}
use Rattle.bp_trace.specs.declared.faults.TraceFault.{TraceFault}
use Rattle.bp_cli.specs.Words.{RunOptions, TraceAt, from_stdin, at_path}
use Rattle.bp_cli.specs.Asked.{Asked, Migration, asked_by}
use Rattle.bp_cli.specs.Asked.Asked.{a_run, a_migration, a_sweep, an_explanation}
use Rattle.bp_cli.specs.Decision.{IsDecision}
use Rattle.bp_cli.specs.declared.ending.Ending.{Ending}
use Rattle.bp_cli.specs.declared.ending.Ending.TheVariants as ending
use Rattle.bp_run.specs.Opening.{ending_of}
use Rattle.bp_run.specs.PageFile.{IsOpenFault, memory_named}
use Rattle.bp_run.specs.Sweep.{StopsSweepOf}
use Rattle.bp_run.specs.Ways.{Ways}
use Rattle.bp_run.specs.Run.{AreRead, ports_for}

-- the page file is not opened
pub record NotOpened {F P T : Type 0} (ways : Ways F P T) (options : RunOptions)
    (ended : Ending) : Type 0 where
  pub fault : OpenFault
  pub gave : ways.opens options.page_file options.size options.format (Err fault)
  pub cause : IsOpenFault (memory_named options.page_file) options.size fault
  pub said : ended ≡ ending_of fault

-- no rows can be read: the bytes have this fault, where they are known, but for want of memory and
-- a reader that failed
pub record HasNoRows (g : Geometry) (bytes : Option (List ℕ)) (ended : Ending) : Type 0 where
  pub fault : TraceFault
  pub cause : IfSome bytes (λ bytes. Answers (Err fault) (script_of g bytes))
  pub said : ended ≡ ending.TraceRefused fault

-- the trace has no rows: those of standard input, or of what was opened at its path; or nothing
-- could be opened there
abbrev pub NotRead : {T : Type 0} → (Text → Option T → Type 0) → (T → Option (List ℕ)) → TraceAt
    → Geometry → Option (List ℕ) → Ending → Type 0
NotRead traces bytes_of from_stdin g bytes ended = HasNoRows g bytes ended
NotRead {T} traces bytes_of (at_path path) g bytes ended =
    (traces path None × (ended ≡ ending.TraceNotOpened))
    ⊎ ((file : T) × traces path (Some file) × HasNoRows g (bytes_of file) ended)

-- there are not so many ports to the page file
pub record NotConnected {F P T : Type 0} (ways : Ways F P T) (file : F) (clients : ℕ)
    (ended : Ending) : Type 0 where
  pub fault : OpenFault
  pub gave : ways.connects file clients (Err fault)
  pub cause : IsOpenFault (ways.memory file) (ways.geometry file).size fault
  pub said : ended ≡ ending_of fault

-- memory is wanted, or not all of the report was written
abbrev pub NotReported : Ending → Type 0
NotReported ended = (ended ≡ ending.RunRefused OutOfMemory) ⊎ (ended ≡ ending.OutputFailed)

-- the page file was opened, and the trace has no rows
pub record StopsAtTrace {F P T : Type 0} (ways : Ways F P T) (bytes_of : T → Option (List ℕ))
    (options : RunOptions) (bytes : Option (List ℕ)) (ended : Ending) : Type 0 where
  pub file : F
  pub opened : ways.opens options.page_file options.size options.format (Ok file)
  pub not_read : NotRead ways.traces bytes_of options.trace (ways.geometry file) bytes ended

-- the page file was opened and the rows were read, and then the run came to no end, or its report
-- to none
pub record StopsAfterRead {F P T : Type 0} (ways : Ways F P T) (bytes_of : T → Option (List ℕ))
    (options : RunOptions) (bytes : Option (List ℕ)) (ended : Ending) : Type 0 where
  pub file : F
  pub opened : ways.opens options.page_file options.size options.format (Ok file)
  pub rows : List Row
  pub read : AreRead ways.traces bytes_of options.trace (ways.geometry file) bytes rows
  pub stopped : NotConnected ways file (ports_for options.order rows) ended
      ⊎ NotReported ended

-- why a run makes no report
abbrev pub StopsRun : {F P T : Type 0} → Ways F P T → (T → Option (List ℕ)) → RunOptions → Option (List ℕ)
    → Ending → Type 0
StopsRun ways bytes_of options bytes ended =
    NotOpened ways options ended
    ⊎ (StopsAtTrace ways bytes_of options bytes ended
    ⊎ StopsAfterRead ways bytes_of options bytes ended)

-- and a migration no page file
abbrev pub StopsMigration : Ending → Type 0
StopsMigration (ending.CommandLine line) = Unit {0}
StopsMigration ending.PageFileNotOpened = Unit {0}
StopsMigration (ending.PageFileRefused refusal) = (refusal ≡ BadLength) ⊎ (refusal ≡ OutOfMemory)
StopsMigration (ending.RunRefused refusal) = refusal ≡ OutOfMemory
StopsMigration ending.OutputFailed = Unit {0}
StopsMigration _ = ⊥

-- the words name such a run, or such a migration
pub record StopsRunOf {F P T : Type 0} (ways : Ways F P T) (bytes_of : T → Option (List ℕ))
    (words : List Text) (bytes : Option (List ℕ)) (ended : Ending) : Type 0 where
  pub options : RunOptions
  pub named : asked_by words ≡ Some (a_run options)
  pub stops : StopsRun ways bytes_of options bytes ended

pub record StopsMigrationOf (words : List Text) (ended : Ending) : Type 0 where
  pub options : Migration
  pub named : asked_by words ≡ Some (a_migration options)
  pub stops : StopsMigration ended

-- the words name the number of a refusal, and not all of its text was written
pub record StopsExplanationOf (words : List Text) (ended : Ending) : Type 0 where
  pub text : Text
  pub named : asked_by words ≡ Some (an_explanation text)
  pub stops : ended ≡ ending.OutputFailed

-- the words decide on this end, or what they name comes to it
abbrev pub EndsBy : {F P T : Type 0} → Ways F P T → (T → Option (List ℕ)) → List Text
    → Option (List ℕ) → Option (List ℕ) → Option (List ℕ) → Ending → Type 0
EndsBy ways bytes_of words bytes old new ended =
    IsDecision words (Err ended)
    ⊎ (StopsRunOf ways bytes_of words bytes ended
    ⊎ (StopsSweepOf ways bytes_of words bytes old new ended
    ⊎ (StopsMigrationOf words ended ⊎ StopsExplanationOf words ended)))

-- ---- the outputs

-- help, the version, a report or a table that was begun, and a table that has no picture, may be on
-- the output
abbrev pub keeps_out : Ending → Bool
keeps_out (ending.Help text) = false
keeps_out ending.Version = false
keeps_out ending.OutputFailed = false
keeps_out ending.PictureNotWritten = false
keeps_out _ = true

-- the program ended so, and wrote nothing else on its output
pub record Ended {O : Type 0} (cause : Ending → Type 0) (old new : O) : Type 0 where
  pub ended : Ending
  pub by : cause ended
  pub out_kept : keeps_out ended ≡ true → new ≡ old

-- a text was written
pub record Prints (old new : Option (List ℕ)) : Type 0 where
  pub text : List ℕ
  pub written : Appends old new text

-- how far these come is shown
abbrev pub TakesLong : Asked → Type 0
TakesLong (a_migration options) = Unit {0}
TakesLong (a_sweep options) = Unit {0}
TakesLong _ = ⊥

-- the words name a migration or a sweep, and somebody watches how far it comes
pub record IsShown (watched : Bool) (words : List Text) : Type 0 where
  pub asked : Asked
  pub named : asked_by words ≡ Some asked
  pub long : TakesLong asked
  pub seen : watched ≡ true
