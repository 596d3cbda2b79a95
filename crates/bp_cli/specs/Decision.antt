-- What the words of a command line decide.
use Rattle.std.specs.Prelude.{◌≡◌, ◌≢◌, ◌⊎◌, ℕ, ◌%◌, List, Option, Result, Ok, Err, Some, None}
use Rattle.clap.specs.Kinds.{IsAmong}
use Rattle.clap.specs.Words.{Text}
use Rattle.clap.specs.declared.error.kind.ErrorKind.{ErrorKind}
use Rattle.clap.specs.declared.error.kind.ErrorKind.TheVariants.{DisplayHelp, DisplayVersion, OutOfMemory as no_memory}
use Rattle.bp_page.specs.declared.refusals.Refusal.TheVariants.{BadGeometry, OutOfMemory}
use Rattle.bp_cli.specs.Words.{RunOptions, IsInLimits, fault_in}
use Rattle.bp_cli.specs.Asked.{Migration, Asked, HasPageSize, SweepsInLimits, asked_by, asked_of}
use Rattle.bp_cli.specs.Asked.Asked.{a_run, a_migration, a_sweep, an_explanation}
use Rattle.bp_cli.specs.declared.words.Task.{Task}
use Rattle.bp_cli.specs.declared.ending.Ending.{Ending}
use Rattle.bp_cli.specs.declared.ending.Ending.TheVariants as ending

-- a run can begin with what it is told
pub record IsRunnable (options : RunOptions) : Type 0 where
  pub limits : IsInLimits options
  pub in_sixteens : options.size % 16 ≡ 0

-- and a migration with what it is told
pub record IsMigratable (m : Migration) : Type 0 where
  pub limits : HasPageSize m.size
  pub in_sixteens : m.size % 16 ≡ 0

abbrev pub CanBegin : Asked → Type 0
CanBegin (a_run options) = IsRunnable options
CanBegin (a_migration m) = IsMigratable m
CanBegin (a_sweep s) = SweepsInLimits s
CanBegin (an_explanation text) = Unit {0}

-- how many bytes a page is to have, where there are pages
abbrev pub size_asked : Asked → Option ℕ
size_asked (a_run options) = Some options.size
size_asked (a_migration m) = Some m.size
size_asked (a_sweep s) = None
size_asked (an_explanation text) = None

-- no page file has pages of this size
abbrev pub FitsNoPage : Option ℕ → Type 0
FitsNoPage None = ⊥
FitsNoPage (Some size) = size % 16 ≢ 0

-- the words ask for help
abbrev pub AsksForHelp : List Text → Type 0
AsksForHelp words = IsAmong DisplayHelp (fault_in words)

-- or for the version
abbrev pub AsksForVersion : List Text → Type 0
AsksForVersion words = IsAmong DisplayVersion (fault_in words)

-- and for either of these answers
abbrev pub AsksForAnswer : List Text → Type 0
AsksForAnswer words = AsksForHelp words ⊎ AsksForVersion words

-- the kind of a fault, and not of a call for help or for the version
abbrev pub IsFault : ErrorKind → Type 0
IsFault kind = (kind ≢ DisplayHelp) × (kind ≢ DisplayVersion)

abbrev pub HasFault : List Text → Type 0
HasFault words = (kind : ErrorKind) × IsAmong kind (fault_in words) × IsFault kind

-- what a refusal of this kind by clap comes to, but for want of memory
abbrev pub IsRefusal : ErrorKind → Ending → Type 0
IsRefusal kind (ending.Help text) = kind ≡ DisplayHelp
IsRefusal kind ending.Version = kind ≡ DisplayVersion
IsRefusal kind (ending.CommandLine line) = IsFault kind × (kind ≢ no_memory)
IsRefusal kind (ending.RunRefused refusal) = refusal ≡ OutOfMemory
IsRefusal kind _ = ⊥

-- the words name a page size that no page file has
abbrev pub NamesNoPages : List Text → Type 0
NamesNoPages words =
    (asked : Asked) × (asked_by words ≡ Some asked) × FitsNoPage (size_asked asked)

-- the words decide on the result, but for want of memory
abbrev pub IsDecision : List Text → Result Task Ending → Type 0
IsDecision words (Ok task) = (asked_by words ≡ Some (asked_of task)) × CanBegin (asked_of task)
IsDecision words (Err (ending.Help text)) = AsksForHelp words
IsDecision words (Err ending.Version) = AsksForVersion words
IsDecision words (Err (ending.CommandLine line)) = HasFault words
IsDecision words (Err (ending.PageFileRefused refusal)) =
    (refusal ≡ BadGeometry) × NamesNoPages words
IsDecision words (Err (ending.RunRefused refusal)) = refusal ≡ OutOfMemory
IsDecision words (Err _) = ⊥
