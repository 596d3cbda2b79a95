-- What a sweep writes and draws, or why it does not.
use Rattle.std.specs.Prelude.{◌≡◌, ◌⊎◌, ℕ, Bool, List, Option, Some, None, IfSome, Result, Ok, Err}
use Rattle.std.specs.Io.KnownBytes.{Appends}
use Rattle.clap.specs.Words.{Text}
use Rattle.bp_page.specs.declared.refusals.Refusal.TheVariants.{OutOfMemory}
use Rattle.bp_charts.specs.declared.table.Line.{Line}
use Rattle.bp_charts.specs.Table.{table_text}
use Rattle.bp_sweep.specs.Column.{ReadsColumn}
use Rattle.bp_sweep.specs.Dense.{Pages}
use Rattle.bp_sweep.specs.Lines.{IsList}
use Rattle.bp_sweep.specs.Sweeping.{AreCells, SweepRefused, plans_of}
use Rattle.bp_sweep.specs.declared.cells.CellFault.{CellFault}
use Rattle.bp_sweep.specs.declared.cells.Plan.{Plan}
use Rattle.bp_sweep.specs.declared.faults.ReferenceFault.{ReferenceFault}
use Rattle.bp_cli.specs.Asked.{Sweep, asked_by}
use Rattle.bp_cli.specs.Asked.Asked.{a_sweep}
use Rattle.bp_cli.specs.Words.{TraceAt, from_stdin, at_path}
use Rattle.bp_cli.specs.declared.ending.Ending.{Ending}
use Rattle.bp_cli.specs.declared.ending.Ending.TheVariants as ending
use Rattle.bp_run.specs.Drawing.{FailsToDraw, IsDrawn}
use Rattle.bp_run.specs.Ways.{Ways}

-- what reading a list answers: with a number a line, or with the number in a column of records
abbrev pub ReadsList : Option ℕ → Result Pages ReferenceFault → List ℕ → Type 0
ReadsList None result bytes = IsList result bytes
ReadsList (Some column) result bytes = ReadsColumn result column bytes

-- the references are those that the bytes say, where these are known
abbrev pub AreReferencesOf : Option ℕ → Option (List ℕ) → Pages → Type 0
AreReferencesOf column bytes references = IfSome bytes (ReadsList column (Ok references))

-- the list is standard input, with these bytes, or what was opened at its path
abbrev pub AreTaken : {T : Type 0} → (Text → Option T → Type 0) → (T → Option (List ℕ)) → TraceAt
    → Option ℕ → Option (List ℕ) → Pages → Type 0
AreTaken traces bytes_of from_stdin column bytes references =
    AreReferencesOf column bytes references
AreTaken {T} traces bytes_of (at_path path) column bytes references =
    (file : T) × traces path (Some file) × AreReferencesOf column (bytes_of file) references

-- for each number of frames a pool of each K, and the optimum
abbrev pub plans_given : Sweep → List Plan
plans_given s = plans_of s.frames s.ks s.correlated

-- what was written is the table of their cells, which has these lines: each says what its pool
-- counts over the references
pub record Tabulates (s : Sweep) (references : Pages) (lines : List Line)
    (old new : Option (List ℕ)) : Type 0 where
  pub cells : AreCells references (plans_given s) lines
  pub written : Appends old new (table_text lines)

-- the table was written, and its picture drawn where the words ask for one
pub record Shows (saves : Text → List ℕ → Bool → Type 0) (s : Sweep) (references : Pages)
    (old new : Option (List ℕ)) : Type 0 where
  pub lines : List Line
  pub tabulates : Tabulates s references lines old new
  pub drawn : IsDrawn saves s.svg s.ks lines

-- what was written is such a table, with its picture, of the references that were read
pub record Sweeps {F P T : Type 0} (ways : Ways F P T) (bytes_of : T → Option (List ℕ)) (s : Sweep)
    (bytes old new : Option (List ℕ)) : Type 0 where
  pub references : Pages
  pub taken : AreTaken ways.traces bytes_of s.references s.column bytes references
  pub shows : Shows ways.saves s references old new

-- the words name such a sweep, and the status is 0
pub record SweepsWords {F P T : Type 0} (ways : Ways F P T) (bytes_of : T → Option (List ℕ))
    (words : List Text) (bytes : Option (List ℕ)) (status : ℕ)
    (old new : Option (List ℕ)) : Type 0 where
  pub options : Sweep
  pub named : asked_by words ≡ Some (a_sweep options)
  pub sweeps : Sweeps ways bytes_of options bytes old new
  pub status_is : status ≡ 0

-- ---- why there is no table

abbrev pub no_references : ReferenceFault → Ending
no_references fault = ending.ReferenceRefused fault.line fault.why

-- no references can be read: the bytes have this fault, where they are known
pub record HasNoReferences (column : Option ℕ) (bytes : Option (List ℕ))
    (ended : Ending) : Type 0 where
  pub why : ReferenceFault
  pub cause : IfSome bytes (ReadsList column (Err why))
  pub said : ended ≡ no_references why

-- there are none on standard input, or in what was opened at their path; or nothing could be opened
-- there
abbrev pub NotTaken : {T : Type 0} → (Text → Option T → Type 0) → (T → Option (List ℕ)) → TraceAt
    → Option ℕ → Option (List ℕ) → Ending → Type 0
NotTaken traces bytes_of from_stdin column bytes ended = HasNoReferences column bytes ended
NotTaken {T} traces bytes_of (at_path path) column bytes ended =
    (traces path None × (ended ≡ ending.ReferencesNotOpened))
    ⊎ ((file : T) × traces path (Some file) × HasNoReferences column (bytes_of file) ended)

-- a cell was refused, and the sweep with it
pub record StopsAtCell (s : Sweep) (references : Pages) (ended : Ending) : Type 0 where
  pub why : CellFault
  pub refused : SweepRefused references (plans_given s) why
  pub said : ended ≡ ending.RunRefused why.refusal

-- memory is wanted for the plans, or a cell was refused
abbrev pub NotCounted : Sweep → Pages → Ending → Type 0
NotCounted s references ended =
    (ended ≡ ending.RunRefused OutOfMemory) ⊎ StopsAtCell s references ended

-- the table of the lines was written, and writing their picture failed
pub record NotDrawn (saves : Text → List ℕ → Bool → Type 0) (s : Sweep) (lines : List Line)
    (old new : Option (List ℕ)) (ended : Ending) : Type 0 where
  pub written : Appends old new (table_text lines)
  pub failed : FailsToDraw saves s.svg s.ks lines
  pub said : ended ≡ ending.PictureNotWritten

-- why lines that were counted are not all shown: memory is wanted for their picture, the table was
-- not written, or not all of it, or the picture was not
abbrev pub NotWritten : (Text → List ℕ → Bool → Type 0) → Sweep → List Line → Option (List ℕ)
    → Option (List ℕ) → Ending → Type 0
NotWritten saves s lines old new ended =
    (ended ≡ ending.RunRefused OutOfMemory) ⊎ (ended ≡ ending.OutputFailed)
    ⊎ NotDrawn saves s lines old new ended

-- all cells were counted, and their lines are not shown
pub record StopsAtTable (saves : Text → List ℕ → Bool → Type 0) (s : Sweep) (references : Pages)
    (old new : Option (List ℕ)) (ended : Ending) : Type 0 where
  pub lines : List Line
  pub cells : AreCells references (plans_given s) lines
  pub why : NotWritten saves s lines old new ended

-- there is no table, or no picture of it
abbrev pub NotShown : (Text → List ℕ → Bool → Type 0) → Sweep → Pages → Option (List ℕ)
    → Option (List ℕ) → Ending → Type 0
NotShown saves s references old new ended =
    NotCounted s references ended ⊎ StopsAtTable saves s references old new ended

-- the references were read, and then there was no table, or no picture of it
pub record StopsAfterTaken {F P T : Type 0} (ways : Ways F P T) (bytes_of : T → Option (List ℕ))
    (s : Sweep) (bytes old new : Option (List ℕ)) (ended : Ending) : Type 0 where
  pub references : Pages
  pub taken : AreTaken ways.traces bytes_of s.references s.column bytes references
  pub stopped : NotShown ways.saves s references old new ended

-- why a sweep writes no table, or no picture of it
abbrev pub StopsSweep : {F P T : Type 0} → Ways F P T → (T → Option (List ℕ)) → Sweep
    → Option (List ℕ) → Option (List ℕ) → Option (List ℕ) → Ending → Type 0
StopsSweep ways bytes_of s bytes old new ended =
    NotTaken ways.traces bytes_of s.references s.column bytes ended
    ⊎ StopsAfterTaken ways bytes_of s bytes old new ended

-- the words name such a sweep
pub record StopsSweepOf {F P T : Type 0} (ways : Ways F P T) (bytes_of : T → Option (List ℕ))
    (words : List Text) (bytes old new : Option (List ℕ)) (ended : Ending) : Type 0 where
  pub options : Sweep
  pub named : asked_by words ≡ Some (a_sweep options)
  pub stops : StopsSweep ways bytes_of options bytes old new ended
