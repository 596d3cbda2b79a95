-- What the words of a command line name, in clap's own words.
use Rattle.std.specs.Prelude.{ℕ, ◌^◌, ◌&&◌, ◌==◌, ◌≤◌, nat_lt, if◌then◌else◌, Bool, true, false, not, List, [], ◌∷◌, codes, Option, Some, None, is_some}
use Rattle.std.specs.Option.{option_map_or}
use Rattle.std.specs.Str.{bytes_eq}
use Rattle.std.specs.Str.Parse.{digits_value, without_leading_plus}
use Rattle.clap.specs.ValueTests.{is_numeral}
use Rattle.clap.specs.Kinds.{or_else}
use Rattle.clap.specs.Words.{Kinds, Row, Text, fault_of, first_of, one_of, subcommand_of}
use Rattle.clap.specs.declared.error.kind.ErrorKind.TheVariants.{InvalidValue}
use Rattle.bp_replacer.specs.Limits.{IsWithinLimits}
use Rattle.bp_cli.specs.Command.{bpool_app}
use Rattle.bp_trace.specs.Numbers.{number_in}
use Rattle.bp_page.specs.Explained.{explanation_of}
use Rattle.bp_trace.specs.NumberLists.{numbers_listed}
use Rattle.bp_cli.specs.declared.words.Order.{Order}
use Rattle.bp_cli.specs.declared.words.Order.TheVariants as order
use Rattle.bp_cli.specs.declared.words.TraceSource.{TraceSource}
use Rattle.bp_cli.specs.declared.words.TraceSource.TheVariants as trace_source
use Rattle.bp_cli.specs.declared.words.RunWords.{RunWords}
use Rattle.bp_page.specs.declared.slots.Format.{Format}
use Rattle.bp_page.specs.declared.slots.Format.TheVariants as format

-- where a run reads its trace, or a sweep its references
pub data TraceAt : Type 0 where
  from_stdin : TraceAt
  at_path : Text → TraceAt

-- what a run is told
pub record RunOptions : Type 0 where
  pub trace : TraceAt
  pub page_file : Text
  pub frames : ℕ
  pub k : ℕ
  pub correlated : ℕ
  pub retained : ℕ
  pub size : ℕ
  pub format : Format
  pub order : Order
  -- the report has no lines of events
  pub totals : Bool

-- ---- one word

abbrev pub trace_of : Text → TraceAt
trace_of word = if bytes_eq word (codes "stdin") then from_stdin else at_path word

-- the order that a word names
abbrev pub order_of : Text → Option Order
order_of word =
    if bytes_eq word (codes "trace") then Some order.Trace
    else if bytes_eq word (codes "free") then Some order.Free else None

-- the version with this number, of 1 and 2
abbrev pub format_of : ℕ → Format
format_of number = if number == 2 then format.Headed else format.Plain

-- the number that `u64` reads from a text: digits, where a plus may stand before them
abbrev pub unsigned_of : Text → Option ℕ
unsigned_of text =
    let digits = without_leading_plus text in
    if is_numeral digits && nat_lt (digits_value 10 digits) (2 ^ 64)
    then Some (digits_value 10 digits) else None

-- ---- all of them

infixl 10 ◌>>=◌
abbrev pub ◌>>=◌ : {A B : Type 0} → Option A → (A → Option B) → Option B
None >>= f = None
(Some x) >>= f = f x

-- the number of an option
abbrev pub number_at : Text → List Row → Option ℕ
number_at id rows = one_of id rows >>= unsigned_of

-- the numbers of an option's list, each from low to high
abbrev pub list_at : Text → ℕ → ℕ → List Row → Option (List ℕ)
list_at id low high rows = first_of id rows >>= numbers_listed low high

-- the numbers of frames, and those of stamps, that a sweep's own rows name
abbrev pub frames_at : List Row → Option (List ℕ)
frames_at = list_at (codes "frames") 1 65536

abbrev pub ks_at : List Row → Option (List ℕ)
ks_at = list_at (codes "k") 1 16

abbrev pub are_same : Option Text → Option Text → Bool
are_same (Some a) (Some b) = bytes_eq a b
are_same _ _ = false

-- whether the picture of a sweep would go into its references: their words are the same
abbrev pub draws_over : List Row → Bool
draws_over rows = are_same (first_of (codes "references") rows) (first_of (codes "svg") rows)

-- the words of a sweep name numbers of frames, values of K, and no picture or another file than the
-- references
abbrev pub names_sweep : Option (List ℕ) → Option (List ℕ) → Bool → Bool
names_sweep frames ks over = is_some frames && is_some ks && not over

-- the text of the number that is to be explained
abbrev pub explanation_at : List Row → Option Text
explanation_at rows = first_of (codes "number") rows >>= number_in >>= explanation_of

-- whether an option without a value is there
abbrev pub flag_at : Text → List Row → Bool
flag_at id rows = option_map_or (λ text. bytes_eq text (codes "true")) (first_of id rows) false

-- the order that a run's own rows name
abbrev pub order_at : List Row → Option Order
order_at rows = first_of (codes "order") rows >>= order_of

-- what a run's own rows tell it
abbrev pub options_by_rows : List Row → Option RunOptions
options_by_rows rows = do
  trace ← first_of (codes "trace") rows
  page_file ← first_of (codes "page-file") rows
  frames ← number_at (codes "frames") rows
  k ← number_at (codes "k") rows
  correlated ← number_at (codes "correlated") rows
  retained ← number_at (codes "retained") rows
  size ← number_at (codes "page-size") rows
  version ← number_at (codes "format") rows
  order ← order_at rows
  Some (record {
    trace = trace_of trace;
    page_file = page_file;
    frames = frames;
    k = k;
    correlated = correlated;
    retained = retained;
    size = size;
    format = format_of version;
    order = order;
    totals = flag_at (codes "totals") rows;
  })

-- the words that clap lets through name what they should: an order, lists of numbers and a picture,
-- a refusal
abbrev pub names_all : Text → List Row → Bool
names_all command rows =
    if bytes_eq command (codes "run") then is_some (order_at rows)
    else if bytes_eq command (codes "sweep")
    then names_sweep (frames_at rows) (ks_at rows) (draws_over rows)
    else if bytes_eq command (codes "explain") then is_some (explanation_at rows)
    else true

abbrev pub naming_fault : Option (Text × List Row) → Kinds
naming_fault None = []
naming_fault (Some met) = if names_all met.0 met.1 then [] else InvalidValue ∷ []

-- the first fault of the words: clap's, and else that of an option whose word names nothing
abbrev pub fault_in : List Text → Kinds
fault_in words = or_else (fault_of bpool_app words) (naming_fault (subcommand_of bpool_app words))

-- the numbers are in the limits of the options
pub record IsInLimits (options : RunOptions) : Type 0 where
  pub some_frames : 1 ≤ options.frames
  pub few_frames : options.frames ≤ 65536
  pub settings : IsWithinLimits options.k options.correlated options.retained
  pub some_bytes : 16 ≤ options.size
  pub few_bytes : options.size ≤ 65536

-- no words at all act as these
abbrev pub default_words : List Text
default_words =
    codes "run" ∷ codes "stdin" ∷ codes "mem:16" ∷ codes "--frames" ∷ codes "2" ∷ codes "--k"
    ∷ codes "1" ∷ []

abbrev pub words_or_default : List Text → List Text
words_or_default [] = default_words
words_or_default (word ∷ words) = word ∷ words

-- ---- the values of the code

abbrev pub trace_given : TraceSource → TraceAt
trace_given trace_source.Stdin = from_stdin
trace_given (trace_source.Path path) = at_path path.now

abbrev pub options_of : RunWords → RunOptions
options_of w =
    record {
      trace = trace_given w.trace;
      page_file = w.page_file.now;
      frames = w.frames;
      k = w.k;
      correlated = w.correlated;
      retained = w.retained;
      size = w.page_size;
      format = w.format;
      order = w.order;
      totals = w.totals;
    }
