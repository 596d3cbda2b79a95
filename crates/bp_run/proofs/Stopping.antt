-- How a run ends without a report.
use Rattle.std.proofs.Common.{◌≡◌, ◌∙◌, ◌⊎◌, inl, inr, refl, sym, ap, subst, ℕ, zero, suc, ◌<◌, arith, All, Bool, true, false, List, [], ◌∷◌, length, Option, Some, None, Result, Ok, Err}
use Rattle.std.proofs.lemmas.Bool.{eqb-true}
use Rattle.std.specs.Prelude.{if◌then◌else◌}
use Rattle.std.specs.Io.KnownBytes.{Appends}
use Rattle.clap.specs.Kinds.{IsAmong, Kinds}
use Rattle.clap.specs.Walk.{is_empty}
use Rattle.clap.specs.Words.{Text, subcommand_of}
use Rattle.clap.specs.declared.error.kind.ErrorKind.{ErrorKind}
use Rattle.clap.specs.declared.error.kind.ErrorKind.TheVariants.{DisplayHelp, DisplayVersion}
use Rattle.bp_page.specs.declared.limits.Geometry.{Geometry}
use Rattle.bp_page.specs.declared.refusals.Refusal.{Refusal}
use Rattle.bp_page.specs.declared.refusals.Refusal.TheVariants as refusal
use Rattle.bp_page.specs.declared.refusals.PortFault.TheVariants.{Device, Memory, WrongPage}
use Rattle.bp_ports.specs.declared.files.OpenFault.{OpenFault}
use Rattle.bp_ports.specs.declared.files.OpenFault.TheVariants.{Refused, Port}
use Rattle.bp_scripts.specs.declared.rows.Row.{Row}
use Rattle.bp_trail.specs.Parameters.{Parameters}
use Rattle.bp_trace.specs.InRange.{IsInRange}
use Rattle.bp_core.specs.Work.{Reads, Writes}
use Rattle.bp_core.specs.Outcomes.{IsFit}
use Rattle.bp_replay.specs.ScriptRuns.{RunAnswers}
use Rattle.bp_charts.specs.declared.table.Line.{Line}
use Rattle.bp_charts.specs.Table.{table_text}
use Rattle.bp_sweep.specs.Dense.{Pages}
use Rattle.bp_cli.specs.Asked.{Asked, Sweep, asked_by, asked_in}
use Rattle.bp_cli.specs.Asked.Asked.{a_run, a_migration, a_sweep, an_explanation}
use Rattle.bp_cli.specs.Command.{bpool_app}
use Rattle.bp_cli.specs.Decision.{AsksForAnswer, AsksForHelp, IsRunnable}
use Rattle.bp_cli.specs.Ending.{is_help}
use Rattle.bp_cli.specs.Words.{RunOptions, TraceAt, from_stdin, at_path, fault_in}
use Rattle.bp_cli.specs.declared.ending.Ending.{Ending}
use Rattle.bp_cli.specs.declared.ending.Ending.TheVariants as ending
use Rattle.bp_cli.specs.declared.words.Order.TheVariants as order
use Rattle.bp_run.specs.Opening.{ending_of}
use Rattle.bp_run.specs.Run.{DoesWords, parameters_for, ports_for}
use Rattle.bp_run.proofs.Threads.{few_clients as at_most_64}
use Rattle.bp_run.specs.Ways.{Ways}
use Rattle.bp_run.specs.Stops.{EndsBy, IsShown, TakesLong, keeps_out, NotConnected, NotRead, NotReported, StopsRun}
use Rattle.bp_run.specs.Sweep.{NotShown, NotTaken, NotWritten, StopsSweep}

-- ---- a run of threads is refused for want of memory

pub wants_memory : {A : Type 0} (c : Parameters) (result : Result A Refusal) (why : Refusal) → IsFit c → result ≡ Err why → RunAnswers c result → NotReported (ending.RunRefused why)
wants_memory c (Ok done) why fit is answers = absurd (let no = is in cc)
wants_memory c (Err refusal.BadSettings) why fit is unfit = absurd (unfit fit)
wants_memory c (Err refusal.OutOfMemory) why fit is answers = let same : refusal.OutOfMemory ≡ why = cc in inl (ap ending.RunRefused (sym same))
wants_memory c (Err other) why fit is never = absurd never

-- those of a run in either order are fit
pub free_fits : (t : RunOptions) (g : Geometry) (rows : List Row) → IsRunnable t → All (IsInRange g) rows → IsFit (parameters_for order.Free t g rows)
free_fits t g rows runnable in_range = record {
  frames = runnable.limits.some_frames;
  few_frames = runnable.limits.few_frames;
  clients = omega arith;
  few_clients = at_most_64 g rows in_range;
  room = omega arith;
  small_room = omega arith;
}

-- ---- what is asked for help

not_help : (fault : OpenFault) → is_help (ending_of fault) ≡ false
not_help (Refused why) = refl
not_help (Port Device) = refl
not_help (Port WrongPage) = refl
not_help (Port Memory) = refl

no_help_reported : (ended : Ending) → is_help ended ≡ true → NotReported ended → ⊥
no_help_reported ended help (inl is) = (let none = ap is_help is in cc)
no_help_reported ended help (inr is) = (let none = ap is_help is in cc)

no_help_trace : {T : Type 0} (traces : Text → Option T → Type 0) (bytes_of : T → Option (List ℕ)) (at : TraceAt) (g : Geometry) (bytes : Option (List ℕ)) (ended : Ending) → is_help ended ≡ true → NotRead traces bytes_of at g bytes ended → ⊥
no_help_trace traces bytes_of from_stdin g bytes ended help not = (let none = ap is_help not.said in cc)
no_help_trace traces bytes_of (at_path path) g bytes ended help (inl not) = (let none = ap is_help not.1 in cc)
no_help_trace traces bytes_of (at_path path) g bytes ended help (inr not) = (let none = ap is_help not.2.said in cc)

no_help_run : {F P T : Type 0} (ways : Ways F P T) (bytes_of : T → Option (List ℕ)) (options : RunOptions) (bytes : Option (List ℕ)) (ended : Ending) → is_help ended ≡ true → StopsRun ways bytes_of options bytes ended → ⊥
no_help_run ways bytes_of options bytes ended help (inl not) = (let none = ap is_help not.said ∙ not_help not.fault in cc)
no_help_run ways bytes_of options bytes ended help (inr (inl at)) = no_help_trace ways.traces bytes_of options.trace (ways.geometry at.file) bytes ended help at.not_read
no_help_run ways bytes_of options bytes ended help (inr (inr after)) = go after.stopped
  where
    go : NotConnected ways after.file (ports_for options.order after.rows) ended ⊎ NotReported ended → ⊥
    go (inl not) = (let none = ap is_help not.said ∙ not_help not.fault in cc)
    go (inr not) = no_help_reported ended help not

no_help_taken : {T : Type 0} (traces : Text → Option T → Type 0) (bytes_of : T → Option (List ℕ)) (at : TraceAt) (column : Option ℕ) (bytes : Option (List ℕ)) (ended : Ending) → is_help ended ≡ true → NotTaken traces bytes_of at column bytes ended → ⊥
no_help_taken traces bytes_of from_stdin column bytes ended help not = (let none = ap is_help not.said in cc)
no_help_taken traces bytes_of (at_path path) column bytes ended help (inl not) = (let none = ap is_help not.1 in cc)
no_help_taken traces bytes_of (at_path path) column bytes ended help (inr not) = (let none = ap is_help not.2.said in cc)

no_help_written : (saves : Text → List ℕ → Bool → Type 0) (s : Sweep) (lines : List Line) (old new : Option (List ℕ)) (ended : Ending) → is_help ended ≡ true → NotWritten saves s lines old new ended → ⊥
no_help_written saves s lines old new ended help (inl is) = (let none = ap is_help is in cc)
no_help_written saves s lines old new ended help (inr (inl is)) = (let none = ap is_help is in cc)
no_help_written saves s lines old new ended help (inr (inr not)) = (let none = ap is_help not.said in cc)

no_help_shown : (saves : Text → List ℕ → Bool → Type 0) (s : Sweep) (references : Pages) (old new : Option (List ℕ)) (ended : Ending) → is_help ended ≡ true → NotShown saves s references old new ended → ⊥
no_help_shown saves s references old new ended help (inl (inl is)) = (let none = ap is_help is in cc)
no_help_shown saves s references old new ended help (inl (inr at)) = (let none = ap is_help at.said in cc)
no_help_shown saves s references old new ended help (inr at) = no_help_written saves s at.lines old new ended help at.why

no_help_sweep : {F P T : Type 0} (ways : Ways F P T) (bytes_of : T → Option (List ℕ)) (s : Sweep) (bytes old new : Option (List ℕ)) (ended : Ending) → is_help ended ≡ true → StopsSweep ways bytes_of s bytes old new ended → ⊥
no_help_sweep ways bytes_of s bytes old new ended help (inl not) = no_help_taken ways.traces bytes_of s.references s.column bytes ended help not
no_help_sweep ways bytes_of s bytes old new ended help (inr after) = no_help_shown ways.saves s after.references old new ended help after.stopped

pub help_asked : {F P T : Type 0} (ways : Ways F P T) (bytes_of : T → Option (List ℕ)) (words : List Text) (bytes old new : Option (List ℕ)) (ended : Ending) → EndsBy ways bytes_of words bytes old new ended → is_help ended ≡ true → AsksForAnswer words
help_asked ways bytes_of words bytes old new (ending.Help text) (inl decided) help = inl decided
help_asked ways bytes_of words bytes old new ending.Version (inl decided) help = inr decided
help_asked ways bytes_of words bytes old new ended (inr (inl run)) help = absurd (no_help_run ways bytes_of run.options bytes ended help run.stops)
help_asked ways bytes_of words bytes old new ended (inr (inr (inl sweep))) help = absurd (no_help_sweep ways bytes_of sweep.options bytes old new ended help sweep.stops)
help_asked ways bytes_of words bytes old new (ending.Help text) (inr (inr (inr (inl migration)))) help = absurd migration.stops
help_asked ways bytes_of words bytes old new ending.Version (inr (inr (inr (inl migration)))) help = absurd migration.stops
help_asked ways bytes_of words bytes old new ended (inr (inr (inr (inr explanation)))) help = absurd (let none = ap is_help explanation.stops in cc)
help_asked ways bytes_of words bytes old new other by help = cc

-- where no help was asked for the answer is the version
pub is_version : {F P T : Type 0} (ways : Ways F P T) (bytes_of : T → Option (List ℕ)) (words : List Text) (bytes old new : Option (List ℕ)) (ended : Ending) → EndsBy ways bytes_of words bytes old new ended → is_help ended ≡ true
    → (AsksForHelp words → ⊥) → ended ≡ ending.Version
is_version ways bytes_of words bytes old new (ending.Help text) (inl decided) help unasked = absurd (unasked decided)
is_version ways bytes_of words bytes old new (ending.Help text) (inr (inl run)) help unasked = absurd (no_help_run ways bytes_of run.options bytes (ending.Help text) help run.stops)
is_version ways bytes_of words bytes old new (ending.Help text) (inr (inr (inl sweep))) help unasked = absurd (no_help_sweep ways bytes_of sweep.options bytes old new (ending.Help text) help sweep.stops)
is_version ways bytes_of words bytes old new (ending.Help text) (inr (inr (inr (inl migration)))) help unasked = absurd migration.stops
is_version ways bytes_of words bytes old new (ending.Help text) (inr (inr (inr (inr explanation)))) help unasked = absurd (let none = ap is_help explanation.stops in cc)
is_version ways bytes_of words bytes old new ending.Version by help unasked = refl
is_version ways bytes_of words bytes old new other by help unasked = cc

-- who asks for an answer names nothing else
none_among : (one : ErrorKind) (kinds : Kinds) → is_empty kinds ≡ true → IsAmong one kinds → ⊥
none_among one [] none among = among
none_among one (kind ∷ kinds) none among = (let length_is : length (kind ∷ kinds) ≡ 0 = eqb-true (length (kind ∷ kinds)) 0 none in omega (arith, length_is))

named_none : (kind : ErrorKind) (kinds : Kinds) (asked : Option Asked) (one : Asked) (b : Bool) → is_empty kinds ≡ b → IsAmong kind kinds → (if b then asked else None) ≡ Some one → ⊥
named_none kind kinds asked one true none among is = none_among kind kinds none among
named_none kind kinds asked one false some among is = cc

no_answer : (kind : ErrorKind) (words : List Text) (one : Asked) → asked_by words ≡ Some one → IsAmong kind (fault_in words) → ⊥
no_answer kind words one named among = named_none kind (fault_in words) (asked_in (subcommand_of bpool_app words)) one (is_empty (fault_in words)) refl among named

pub no_help : (words : List Text) (one : Asked) → asked_by words ≡ Some one → AsksForAnswer words → ⊥
no_help words one named (inl help) = no_answer DisplayHelp words one named help
no_help words one named (inr version) = no_answer DisplayVersion words one named version

-- ---- the output

pub kept_when : (ended : Ending) → keeps_out ended ≡ true → (is_help ended ≡ false) × (ended ≡ ending.OutputFailed → ⊥) × (ended ≡ ending.PictureNotWritten → ⊥)
kept_when (ending.Help text) is = cc
kept_when ending.Version is = cc
kept_when ending.OutputFailed is = cc
kept_when ending.PictureNotWritten is = cc
kept_when other is = (refl, λ same. cc, λ same. cc)

-- a status that is 2 where it is not 0
pub not_one : (status : ℕ) → ((status ≡ 0 → ⊥) → status ≡ 2) → status ≡ 1 → ⊥
not_one status two one = (let bad : status ≡ 2 = two (λ none. omega (arith, none, one)) in omega (arith, bad, one))

pub zero_of : (status : ℕ) → ((status ≡ 0 → ⊥) → status ≡ 2) → status < 2 → status ≡ 0
zero_of zero two small = refl
zero_of (suc n) two small = absurd (let bad : suc n ≡ 2 = two (λ none. omega (arith, none)) in omega (arith, bad, small))

-- what was kept before and after
pub then_kept : {A X : Type 0} (old mid new : X) → A ⊎ (mid ≡ old) → new ≡ mid → A ⊎ (new ≡ old)
then_kept old mid new (inl shown) later = inl shown
then_kept old mid new (inr kept) later = inr (later ∙ kept)

-- words that name something ask for no answer
pub does_no_help : {F P T : Type 0} (ways : Ways F P T) (bytes_of : T → Option (List ℕ)) (reads : Reads P) (writes : Writes P) (words : List Text) (bytes : Option (List ℕ)) (status : ℕ) (old new : Option (List ℕ))
    → DoesWords ways bytes_of reads writes words bytes status old new → AsksForAnswer words → ⊥
does_no_help ways bytes_of reads writes words bytes status old new (inl run) asks = no_help words (a_run run.options) run.named asks
does_no_help ways bytes_of reads writes words bytes status old new (inr (inl sweep)) asks = no_help words (a_sweep sweep.options) sweep.named asks
does_no_help ways bytes_of reads writes words bytes status old new (inr (inr (inl migration))) asks = no_help words (a_migration migration.options) migration.named asks
does_no_help ways bytes_of reads writes words bytes status old new (inr (inr (inr explanation))) asks = no_help words (an_explanation explanation.text) explanation.named asks

-- an answer is no failure of the output, and no picture
pub no_failure : (ended : Ending) → is_help ended ≡ true → ended ≡ ending.OutputFailed → ⊥
no_failure ended help failed = (let none = ap is_help failed in cc)

pub no_picture : (ended : Ending) → is_help ended ≡ true → ended ≡ ending.PictureNotWritten → ⊥
no_picture ended help failed = (let none = ap is_help failed in cc)

-- what is said in the end is said of the same output, but for an answer
stops_the_same : {F P T : Type 0} (ways : Ways F P T) (bytes_of : T → Option (List ℕ)) (s : Sweep) (bytes old mid new : Option (List ℕ)) (ended : Ending)
    → (is_help ended ≡ false → new ≡ mid) → StopsSweep ways bytes_of s bytes old mid ended → StopsSweep ways bytes_of s bytes old new ended
stops_the_same ways bytes_of s bytes old mid new ended kept (inl not) = inl not
stops_the_same ways bytes_of s bytes old mid new ended kept (inr after) =
    inr (record { references = after.references; taken = after.taken; stopped = go after.stopped })
  where
    why : (lines : List Line) → NotWritten ways.saves s lines old mid ended → NotWritten ways.saves s lines old new ended
    why lines (inl is) = inl is
    why lines (inr (inl is)) = inr (inl is)
    why lines (inr (inr not)) = inr (inr (record {
      written = subst (λ out. Appends old out (table_text lines)) (sym (kept (ap is_help not.said))) not.written;
      failed = not.failed;
      said = not.said;
    }))

    go : NotShown ways.saves s after.references old mid ended → NotShown ways.saves s after.references old new ended
    go (inl not) = inl not
    go (inr at) = inr (record { lines = at.lines; cells = at.cells; why = why at.lines at.why })

pub ends_the_same : {F P T : Type 0} (ways : Ways F P T) (bytes_of : T → Option (List ℕ)) (words : List Text) (bytes old mid new : Option (List ℕ)) (ended : Ending)
    → (is_help ended ≡ false → new ≡ mid) → EndsBy ways bytes_of words bytes old mid ended → EndsBy ways bytes_of words bytes old new ended
ends_the_same ways bytes_of words bytes old mid new ended kept (inl decided) = inl decided
ends_the_same ways bytes_of words bytes old mid new ended kept (inr (inl run)) = inr (inl run)
ends_the_same ways bytes_of words bytes old mid new ended kept (inr (inr (inl sweep))) =
    inr (inr (inl (record { options = sweep.options; named = sweep.named; stops = stops_the_same ways bytes_of sweep.options bytes old mid new ended kept sweep.stops })))
ends_the_same ways bytes_of words bytes old mid new ended kept (inr (inr (inr other))) = inr (inr (inr other))

-- somebody watches what takes long, or it says nothing
shown_or : {X : Type 0} (watched : Bool) (words : List Text) (asked : Asked) (old new : X) → asked_by words ≡ Some asked → TakesLong asked → (watched ≡ false → new ≡ old) → IsShown watched words ⊎ (new ≡ old)
shown_or true words asked old new named long kept = inl (record { asked = asked; named = named; long = long; seen = refl })
shown_or false words asked old new named long kept = inr (kept refl)

pub sweep_shown_or_kept : {X : Type 0} (watched : Bool) (words : List Text) (options : Sweep) (old new : X) → asked_by words ≡ Some (a_sweep options) → (watched ≡ false → new ≡ old) → IsShown watched words ⊎ (new ≡ old)
sweep_shown_or_kept watched words options old new named kept = shown_or watched words (a_sweep options) old new named tt kept
