-- What a run of rows over a new core reports.
use Rattle.std.specs.Prelude.{◌≡◌, ◌⊎◌, ℕ, ◌+◌, ◌*◌, ◌==◌, min, Bool, List, [], ◌∷◌, ◌++◌, length, reverse, Option, Some, IfSome, Ok, Vec, if◌then◌else◌}
use Rattle.std.specs.declared.alloc.Global.{Global}
use Rattle.std.specs.Io.KnownBytes.{Appends}
use Rattle.bp_page.specs.declared.limits.Geometry.{Geometry}
use Rattle.bp_trail.specs.declared.entries.Entry.{Entry}
use Rattle.bp_scripts.specs.declared.rows.Row.{Row}
use Rattle.bp_scripts.specs.declared.rows.Refused.{Refused}
use Rattle.bp_trail.specs.Parameters.{Parameters}
use Rattle.bp_trail.specs.Legal.{Legal}
use Rattle.bp_trail.specs.Pieces.Manner.{driver}
use Rattle.bp_scripts.specs.Script.{Follows}
use Rattle.bp_core.specs.CoreView.{CoreView}
use Rattle.bp_core.specs.Added.{with_piece}
use Rattle.bp_core.specs.Work.{Reads, Writes, WorksThrough}
use Rattle.bp_replay.specs.Rows.{ScriptCaused}
use Rattle.bp_trace.specs.Script.{IsScriptOfSome, script_of}
use Rattle.bp_trace.specs.Report.{report_text, rows_text}
use Rattle.bp_trace.specs.Totals.{totals_text}
use Rattle.bp_trail.specs.Totals.{totals_of}
use Rattle.bp_replay.specs.ScriptRuns.{IsRun}
use Rattle.clap.specs.Words.{Text}
use Rattle.bp_cli.specs.declared.words.Order.{Order}
use Rattle.bp_cli.specs.declared.words.Order.TheVariants as order
use Rattle.bp_run.specs.Scripts.{clients_of, scripts_of}
use Rattle.bp_cli.specs.Words.{RunOptions, TraceAt, from_stdin, at_path}
use Rattle.bp_cli.specs.Asked.{Migration, asked_by}
use Rattle.bp_cli.specs.Asked.Asked.{a_run, a_migration, an_explanation}
use Rattle.bp_run.specs.PageFile.{IsNamed}
use Rattle.bp_run.specs.Sweep.{SweepsWords}
use Rattle.bp_run.specs.Ways.{Ways}

-- the room of a trail for so many rows
abbrev pub room_for : Order → ℕ → ℕ
room_for order.Trace rows = min (8 * rows + 16) 16777216
room_for order.Free rows = min (64 * rows + 1024) 16777216

-- how many clients the pool of a run has
abbrev pub clients_for : Order → List Row → ℕ
clients_for order.Trace rows = 64
clients_for order.Free rows = clients_of rows

-- how many ports a run of these rows has
abbrev pub ports_for : Order → List Row → ℕ
ports_for order.Trace rows = 1
ports_for order.Free rows = clients_of rows

-- what the core of a run in this order is made with, over a page file of this geometry, for these
-- rows
abbrev pub parameters_for : Order → RunOptions → Geometry → List Row → Parameters
parameters_for in_order options g rows = record {
  frames = options.frames;
  k = options.k;
  correlated = options.correlated;
  retained = options.retained;
  pages = g.pages;
  size = g.size;
  clients = clients_for in_order rows;
  room = room_for in_order (length rows);
}

-- the report of a trail: without the lines of events where only the totals are wanted
abbrev pub report_of : Bool → List Entry → List ℕ
report_of totals trail = if totals then totals_text (totals_of trail) else report_text trail

-- a core that has said nothing
abbrev pub new_core : Parameters → CoreView
new_core c = record { parameters = c; before = []; past = [] }

-- what was written is the report of a legal trail and of refused rows, both of which follow the
-- script, and each refused row had its cause; the trail's device work was done by the port, in the
-- trail's order, and nothing else was
pub record Reports {P : Type 0} (reads : Reads P) (writes : Writes P) (totals : Bool)
    (c : Parameters) (port : P) (script : List Row) (all_accepted : Bool)
    (old new : Option (List ℕ)) : Type 0 where
  pub trail : List Entry
  pub refused : List Refused
  pub legal : Legal c (reverse trail)
  pub follows : Follows driver script (reverse trail) refused
  pub caused : ScriptCaused (new_core c) script refused (with_piece (new_core c) (reverse trail))
  pub after : P
  pub work : WorksThrough reads writes [] (reverse trail) port after
  pub accepted : all_accepted ≡ (length refused == 0)
  pub written : Appends old new (report_of totals trail ++ rows_text refused)

-- what was written is the report of the trail of a run of client threads, which ran these scripts
-- over these ports, each over the port at its place, and of its refused rows
pub record ReportsFree {P : Type 0} (reads : Reads P) (writes : Writes P) (totals : Bool)
    (c : Parameters) (ports : List P) (scripts : List (List Row)) (all_accepted : Bool)
    (old new : Option (List ℕ)) : Type 0 where
  pub trail : List Entry
  pub said : List (List Entry)
  pub refused : List Refused
  pub after : List P
  pub run : IsRun reads writes c scripts ports trail said refused after
  pub accepted : all_accepted ≡ (length refused == 0)
  pub written : Appends old new (report_of totals trail ++ rows_text refused)

-- the rows were run over the one port in the order of the trace, or the clients as threads, each
-- with its own rows
abbrev pub ReportsIn : {P : Type 0} → Reads P → Writes P → Order → Bool → Parameters → List P
    → List Row → Bool → Option (List ℕ) → Option (List ℕ) → Type 0
ReportsIn {P} reads writes order.Trace totals c ports rows all_accepted old new =
    (port : P) × (ports ≡ port ∷ []) × Reports reads writes totals c port rows all_accepted old new
ReportsIn reads writes order.Free totals c ports rows all_accepted old new =
    ReportsFree reads writes totals c ports (scripts_of rows) all_accepted old new

-- the rows are those that the bytes say, where these are known, and those of some records in any
-- case
pub record AreRowsOf (g : Geometry) (bytes : Option (List ℕ)) (rows : List Row) : Type 0 where
  pub said : IfSome bytes (λ bytes. script_of g bytes ≡ Ok rows)
  pub some : IsScriptOfSome g rows

-- the trace is standard input, with these bytes, or what was opened at its path
abbrev pub AreRead : {T : Type 0} → (Text → Option T → Type 0) → (T → Option (List ℕ)) → TraceAt
    → Geometry → Option (List ℕ) → List Row → Type 0
AreRead traces bytes_of from_stdin g bytes rows = AreRowsOf g bytes rows
AreRead {T} traces bytes_of (at_path path) g bytes rows =
    (file : T) × traces path (Some file) × AreRowsOf g (bytes_of file) rows

-- what was written is the report of such a run of the rows of the trace, over ports to the page
-- file that was opened as the words name it
pub record Runs {F P T : Type 0} (ways : Ways F P T) (bytes_of : T → Option (List ℕ))
    (reads : Reads P) (writes : Writes P) (options : RunOptions) (bytes : Option (List ℕ))
    (all_accepted : Bool) (old new : Option (List ℕ)) : Type 0 where
  pub file : F
  pub opened : ways.opens options.page_file options.size options.format (Ok file)
  pub named : IsNamed options.page_file options.size options.format (ways.memory file)
      (ways.geometry file) (ways.headed file)
  pub rows : List Row
  pub read : AreRead ways.traces bytes_of options.trace (ways.geometry file) bytes rows
  pub ports : Vec P Global
  pub connected : ways.connects file (ports_for options.order rows) (Ok ports)
  pub reports : ReportsIn reads writes options.order options.totals
      (parameters_for options.order options (ways.geometry file) rows) ports.items rows all_accepted
      old new

-- what was written is the report of such a run, with what the words name; the status is 0 where all
-- rows were accepted, else 1
pub record RunsWords {F P T : Type 0} (ways : Ways F P T) (bytes_of : T → Option (List ℕ))
    (reads : Reads P) (writes : Writes P) (words : List Text) (bytes : Option (List ℕ)) (status : ℕ)
    (old new : Option (List ℕ)) : Type 0 where
  pub options : RunOptions
  pub named : asked_by words ≡ Some (a_run options)
  pub all_accepted : Bool
  pub runs : Runs ways bytes_of reads writes options bytes all_accepted old new
  pub status_is : status ≡ (if all_accepted then 0 else 1)

-- the words name a migration; nothing was written here, and the status is 0
pub record MigratesWords (words : List Text) (status : ℕ) (old new : Option (List ℕ)) : Type 0 where
  pub options : Migration
  pub named : asked_by words ≡ Some (a_migration options)
  pub written : Appends old new []
  pub status_is : status ≡ 0

-- the words name the number of a refusal; its text was written as a line, and the status is 0
pub record ExplainsWords (words : List Text) (status : ℕ) (old new : Option (List ℕ)) : Type 0 where
  pub text : Text
  pub named : asked_by words ≡ Some (an_explanation text)
  pub written : Appends old new (text ++ 10 ∷ [])
  pub status_is : status ≡ 0

-- what the words name was done
abbrev pub DoesWords : {F P T : Type 0} → Ways F P T → (T → Option (List ℕ)) → Reads P → Writes P
    → List Text → Option (List ℕ) → ℕ → Option (List ℕ) → Option (List ℕ) → Type 0
DoesWords ways bytes_of reads writes words bytes status old new =
    RunsWords ways bytes_of reads writes words bytes status old new
    ⊎ (SweepsWords ways bytes_of words bytes status old new
    ⊎ (MigratesWords words status old new ⊎ ExplainsWords words status old new))
