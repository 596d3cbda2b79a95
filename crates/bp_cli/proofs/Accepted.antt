-- Words in which clap finds no fault name a run, a sweep, a migration or an explanation.
use Rattle.std.proofs.Common.{◌≡◌, ◌≢◌, ◌∙◌, ℕ, ◌≤◌, ◌^◌, ◌&&◌, ◌||◌, ◌⊎◌, inl, inr, not, nat_le, nat_lt, if◌then◌else◌, cond, true, false, Bool, codes, ap, ap₂, refl, sym, subst, List, [], ◌∷◌, Option, Some, None, IfSome, is_some, option_map}
use Rattle.std.proofs.lemmas.Slice.Eq.{bytes_eq-Decides}
use Rattle.std.proofs.lemmas.Bool.{leb-true}
use Rattle.std.specs.List.{filter, find, list_any}
use Rattle.std.specs.Option.{option_map_or}
use Rattle.std.specs.Str.{bytes_eq}
use Rattle.std.specs.Str.Parse.{digits_value, without_leading_plus}
use Rattle.clap.specs.Facts.{explicit_source}
use Rattle.clap.specs.Kinds.{HasKind, IsAmong, Kinds, or_else}
use Rattle.clap.specs.Faults.{check_fault, defaults_fault, entered_fault, fault_of, level_fault, settle_fault, walk_fault}
use Rattle.clap.specs.declared.parser.matches.ArgMatches.{ArgMatches}
use Rattle.clap.specs.Simple.{App, HasMatchesOf, Shape, is_simple, subcommand_rows_of, built, built_leaf, entered, inherited, marked_built, names_of, on_top, rows_at, subcommand_of, with_index, with_leaf_noted, filled as filled_rule, help_shape}
use Rattle.clap.specs.Takes.{is_given, value_passes}
use Rattle.clap.specs.ValueTests.{is_numeral}
use Rattle.clap.specs.Values.{kind_of, read_as}
use Rattle.clap.specs.Walk.{Row, Rule, Text, answers_to, finished, first_of, has_row, is_empty, nothing_held, one_of, reading_by, settled, stop_after, walk, walk_from}
use Rattle.clap.specs.declared.builder.value_parser.ValueParser.TheVariants as parser
use Rattle.clap.specs.declared.error.Error.{Error}
use Rattle.clap.specs.declared.error.kind.ErrorKind.{ErrorKind}
use Rattle.clap.specs.declared.error.kind.ErrorKind.TheVariants.{InvalidValue, MissingRequiredArgument}
use Rattle.clap.proofs.WalkLemmas.{both}
use Rattle.bp_cli.specs.Command.{bpool_app, number_option, bare_number, positional as positional_rule, run_shape, migrate_shape, sweep_shape, explain_shape}
use Rattle.bp_cli.specs.declared.words.Order.{Order}
use Rattle.bp_cli.specs.Words.{IsInLimits, RunOptions, ◌>>=◌, are_same, draws_over, explanation_at, fault_in, flag_at, format_of, frames_at, ks_at, names_sweep, number_at, order_at, naming_fault, options_by_rows, trace_of}
use Rattle.bp_cli.specs.Words.TraceAt.{from_stdin, at_path}
use Rattle.bp_cli.specs.Asked.{Asked, Migration, Sweep, HasPageSize, AreInLimits, IsColumn, SweepsInLimits, asked_by, asked_in, migration_by_rows, sweep_given, sweep_with}
use Rattle.bp_cli.specs.Asked.Asked.{a_run, a_migration, a_sweep, an_explanation}
use Rattle.bp_cli.proofs.Entering.{NotHelp, walk_not_help}
use Rattle.bp_cli.proofs.Fits.{AllFit, Fits, IsOf, or_else-nil}
use Rattle.bp_cli.proofs.Level.{IsFilled, has_default, level_filled}
use Rattle.bp_cli.proofs.Listed.{frames_listed, ks_listed}

-- ---- one argument

abbrev pub named : Text → List Rule → List Rule
named id = filter (λ a. bytes_eq a.id id)

fits_named : (id : Text) (c : List Rule) (r : Row) → Fits c r → r.id ≡ id → Fits (named id c) r
fits_named id [] r fits same = fits
fits_named id (a ∷ rest) r fits same = go (bytes_eq a.id id) refl fits (λ f. fits_named id rest r f same)
  where
    go : (b : Bool) → bytes_eq a.id id ≡ b → IsOf a r ⊎ Fits rest r → (Fits rest r → Fits (named id rest) r) → Fits (cond b (a ∷ named id rest) (named id rest)) r
    go true e (inl is) later = inl is
    go true e (inr f) later = inr (later f)
    go false e (inl is) later = let bad : bytes_eq a.id id ≡ true = (bytes_eq-Decides a.id id).1 (sym is.id ∙ same) in cc
    go false e (inr f) later = later f

row_at : (id : Text) (c : List Rule) (rows : List Row) → AllFit c rows → has_row id rows ≡ true
    → (r : Row) × (find (λ r. bytes_eq r.id id) rows ≡ Some r) × Fits (named id c) r
row_at id c [] fit e = cc
row_at id c (r ∷ rows) fit e = go (bytes_eq r.id id) refl e (row_at id c rows fit.1)
  where
    go : (b : Bool) → bytes_eq r.id id ≡ b → b || has_row id rows ≡ true
        → (has_row id rows ≡ true → (q : Row) × (find (λ r. bytes_eq r.id id) rows ≡ Some q) × Fits (named id c) q)
        → (q : Row) × (cond b (Some r) (find (λ r. bytes_eq r.id id) rows) ≡ Some q) × Fits (named id c) q
    go true is e later = (r, refl, fits_named id c r fit.0 ((bytes_eq-Decides r.id id).0 is))
    go false is e later = later e

-- what the getters read of an argument
record IsRead (id : Text) (a : Rule) (rows : List Row) : Type 0 where
  word : Text
  as_text : first_of id rows ≡ Some word
  as_value : one_of id rows ≡ Some (read_as (reading_by a) word)
  passes : value_passes a word ≡ true

argument_read : (id : Text) (c : List Rule) (a : Rule) (rows : List Row) → named id c ≡ a ∷ [] → AllFit c rows → has_row id rows ≡ true → IsRead id a rows
argument_read id c a rows only fit has = go (row_at id c rows fit has)
  where
    of_one : (r : Row) → find (λ r. bytes_eq r.id id) rows ≡ Some r → IsOf a r ⊎ ⊥ → IsRead id a rows
    of_one r found (inl is) = record {
      word = is.first;
      as_text = rw (found, is.values) refl;
      as_value = rw (found, is.values, is.reading) refl;
      passes = is.passes;
    }
    of_one r found (inr none) = absurd none

    go : (r : Row) × (find (λ r. bytes_eq r.id id) rows ≡ Some r) × Fits (named id c) r → IsRead id a rows
    go p = of_one p.0 p.1 (subst (λ (l : List Rule). Fits l p.0) only p.2)

-- a number from low to high
record IsNumber (id : Text) (low high : ℕ) (rows : List Row) : Type 0 where
  number : ℕ
  is : number_at id rows ≡ Some number
  at_least : low ≤ number
  at_most : number ≤ high

number_read : (id : Text) (low high : ℕ) (a : Rule) (rows : List Row) → a.parser ≡ Some (parser.Unsigned low high) → IsRead id a rows → IsNumber id low high rows
number_read id low high a rows parses read = record {
  number = value;
  is = rw read.as_value (rw parses (rw (numeral.0, fits.0) refl));
  at_least = leb-true low value range.0;
  at_most = leb-true value high range.1;
}
  where
    value : ℕ
    value = digits_value 10 (without_leading_plus read.word)

    passed : is_numeral (without_leading_plus read.word) && (nat_lt value (2 ^ 64) && (nat_le low value && nat_le value high)) ≡ true
    passed = rw parses at read.passes

    numeral : (is_numeral (without_leading_plus read.word) ≡ true) × (nat_lt value (2 ^ 64) && (nat_le low value && nat_le value high) ≡ true)
    numeral = both _ _ passed

    fits : (nat_lt value (2 ^ 64) ≡ true) × (nat_le low value && nat_le value high ≡ true)
    fits = both _ _ numeral.1

    range : (nat_le low value ≡ true) × (nat_le value high ≡ true)
    range = both _ _ fits.1

-- ---- the arguments of a run

-- the command `run`, built below the command of the program
abbrev pub run_built : Shape
run_built = built_leaf (inherited (on_top with_leaf_noted (on_top marked_built bpool_app)).top run_shape)

-- and the command `sweep`
abbrev pub sweep_built : Shape
sweep_built = built_leaf (inherited (on_top with_leaf_noted (on_top marked_built bpool_app)).top sweep_shape)

-- and the command `migrate`
abbrev pub migrate_built : Shape
migrate_built = built_leaf (inherited (on_top with_leaf_noted (on_top marked_built bpool_app)).top migrate_shape)

-- and the command `explain`
abbrev pub explain_built : Shape
explain_built = built_leaf (inherited (on_top with_leaf_noted (on_top marked_built bpool_app)).top explain_shape)

given_has : (id : Text) (rows : List Row) → is_given id rows ≡ true → has_row id rows ≡ true
given_has id [] e = cc
given_has id (r ∷ rows) e = go (bytes_eq r.id id) e (given_has id rows)
  where
    go : (b : Bool) → option_map_or (λ r. explicit_source r.source) (cond b (Some r) (find (λ r. bytes_eq r.id id) rows)) false ≡ true
        → (is_given id rows ≡ true → has_row id rows ≡ true) → b || has_row id rows ≡ true
    go true e later = refl
    go false e later = later e

-- the rules of a run as building fills them in
abbrev trace_rule : Rule
trace_rule = with_index 1 (filled_rule (positional_rule (codes "trace")))

abbrev page_file_rule : Rule
page_file_rule = with_index 2 (filled_rule (positional_rule (codes "page-file")))

abbrev option_rule : Text → ℕ → ℕ → Text → Rule
option_rule id low high default = filled_rule (number_option id low high default)

-- the words that a run needs are there
both_given : (g h : Bool) → (if not g || (not h || false) then MissingRequiredArgument ∷ [] else []) ≡ [] → (g ≡ true) × (h ≡ true)
both_given true true e = (refl, refl)
both_given true false e = cc
both_given false h e = cc

-- what the rows tell a run in either order
record Tells (rows : List Row) : Type 0 where
  options : Order → RunOptions
  tells : options_by_rows rows ≡ option_map options (order_at rows)
  limits : (order : Order) → IsInLimits (options order)

last_bound : {A B : Type 0} (f : A → B) (o : Option A) → (o >>= λ x. Some (f x)) ≡ option_map f o
last_bound f None = refl
last_bound f (Some x) = refl

rows_tell : (rows : List Row) → IsFilled run_built rows → Tells rows
rows_tell rows filled = record {
  options = told_in_order;
  tells = rw (trace.as_text, pages.as_text, frames.is, k.is, correlated.is, retained.is, size.is, version.is) (last_bound told_in_order (order_at rows));
  limits = λ order. record {
    some_frames = frames.at_least;
    few_frames = frames.at_most;
    settings = record { at_least_one = k.at_least; at_most_sixteen = k.at_most; correlated_fits = correlated.at_most; retained_fits = retained.at_most };
    some_bytes = size.at_least;
    few_bytes = size.at_most;
  };
}
  where
    given : (is_given (codes "trace") rows ≡ true) × (is_given (codes "page-file") rows ≡ true)
    given = both_given (is_given (codes "trace") rows) (is_given (codes "page-file") rows) filled.checked

    trace : IsRead (codes "trace") (trace_rule) rows
    trace = argument_read (codes "trace") run_built.rules trace_rule rows refl filled.fits (given_has (codes "trace") rows given.0)

    pages : IsRead (codes "page-file") (page_file_rule) rows
    pages = argument_read (codes "page-file") run_built.rules page_file_rule rows refl filled.fits (given_has (codes "page-file") rows given.1)

    option_read : (id : Text) (low high : ℕ) (default : Text) → named id run_built.rules ≡ option_rule id low high default ∷ []
        → list_any (has_default id) run_built.rules ≡ true → IsNumber id low high rows
    option_read id low high default only there =
        number_read id low high (option_rule id low high default) rows refl (argument_read id run_built.rules (option_rule id low high default) rows only filled.fits (filled.defaults id there))

    frames : IsNumber (codes "frames") 1 65536 rows
    frames = option_read (codes "frames") 1 65536 (codes "8") refl refl

    k : IsNumber (codes "k") 1 16 rows
    k = option_read (codes "k") 1 16 (codes "2") refl refl

    correlated : IsNumber (codes "correlated") 0 4611686018427387904 rows
    correlated = option_read (codes "correlated") 0 4611686018427387904 (codes "0") refl refl

    retained : IsNumber (codes "retained") 0 4611686018427387904 rows
    retained = option_read (codes "retained") 0 4611686018427387904 (codes "1000") refl refl

    size : IsNumber (codes "page-size") 16 65536 rows
    size = option_read (codes "page-size") 16 65536 (codes "64") refl refl

    version : IsNumber (codes "format") 1 2 rows
    version = option_read (codes "format") 1 2 (codes "1") refl refl

    told_in_order : Order → RunOptions
    told_in_order order = record {
      trace = trace_of trace.word;
      page_file = pages.word;
      frames = frames.number;
      k = k.number;
      correlated = correlated.number;
      retained = retained.number;
      size = size.number;
      format = format_of version.number;
      order = order;
      totals = flag_at (codes "totals") rows;
    }

-- ---- the arguments of a migration

abbrev old_rule : Rule
old_rule = with_index 1 (filled_rule (positional_rule (codes "old")))

abbrev new_rule : Rule
new_rule = with_index 2 (filled_rule (positional_rule (codes "new")))

abbrev size_rule : Rule
size_rule = filled_rule (bare_number (codes "page-size") true 16 65536)

-- the words that a migration needs are there
record AreGiven (g h k : Bool) : Type 0 where
  first : g ≡ true
  second : h ≡ true
  third : k ≡ true

three_given : (g h k : Bool) → (if not g || (not h || (not k || false)) then MissingRequiredArgument ∷ [] else []) ≡ [] → AreGiven g h k
three_given true true true e = record { first = refl; second = refl; third = refl }
three_given true true false e = cc
three_given true false k e = cc
three_given false h k e = cc

-- what the rows tell a migration
record TellsMigration (rows : List Row) : Type 0 where
  options : Migration
  tells : migration_by_rows rows ≡ Some options
  limits : HasPageSize options.size

rows_tell_migration : (rows : List Row) → IsFilled migrate_built rows → TellsMigration rows
rows_tell_migration rows filled = record {
  options = record { old = old.word; new = new.word; size = size.number };
  tells = rw (old.as_text, new.as_text, size.is) refl;
  limits = record { some_bytes = size.at_least; few_bytes = size.at_most };
}
  where
    given : AreGiven (is_given (codes "old") rows) (is_given (codes "new") rows) (is_given (codes "page-size") rows)
    given = three_given (is_given (codes "old") rows) (is_given (codes "new") rows) (is_given (codes "page-size") rows) filled.checked

    old : IsRead (codes "old") old_rule rows
    old = argument_read (codes "old") migrate_built.rules old_rule rows refl filled.fits (given_has (codes "old") rows given.first)

    new : IsRead (codes "new") new_rule rows
    new = argument_read (codes "new") migrate_built.rules new_rule rows refl filled.fits (given_has (codes "new") rows given.second)

    size : IsNumber (codes "page-size") 16 65536 rows
    size = number_read (codes "page-size") 16 65536 size_rule rows refl
        (argument_read (codes "page-size") migrate_built.rules size_rule rows refl filled.fits (given_has (codes "page-size") rows given.third))

-- ---- the arguments of a sweep

abbrev references_rule : Rule
references_rule = with_index 1 (filled_rule (positional_rule (codes "references")))

abbrev column_rule : Rule
column_rule = filled_rule (bare_number (codes "column") false 1 65536)

no_row : (id : Text) (rows : List Row) → has_row id rows ≡ false → find (λ r. bytes_eq r.id id) rows ≡ None
no_row id [] e = refl
no_row id (r ∷ rows) e = go (bytes_eq r.id id) e (no_row id rows)
  where
    go : (b : Bool) → b || has_row id rows ≡ false → (has_row id rows ≡ false → find (λ r. bytes_eq r.id id) rows ≡ None)
        → cond b (Some r) (find (λ r. bytes_eq r.id id) rows) ≡ None
    go true e later = cc
    go false e later = later e

-- a number that is there is within the limits of its field
column_within : (rows : List Row) → AllFit sweep_built.rules rows → IfSome (number_at (codes "column") rows) IsColumn
column_within rows fit = go (has_row (codes "column") rows) refl
  where
    found : IsNumber (codes "column") 1 65536 rows → IfSome (number_at (codes "column") rows) IsColumn
    found column = rw column.is (record { from_one = column.at_least; few_columns = column.at_most })

    go : (b : Bool) → has_row (codes "column") rows ≡ b → IfSome (number_at (codes "column") rows) IsColumn
    go true has = found (number_read (codes "column") 1 65536 column_rule rows refl (argument_read (codes "column") sweep_built.rules column_rule rows refl fit has))
    go false has = rw (no_row (codes "column") rows has) tt

-- the references are not where the picture is
apart_from : (word : Text) (svg : Option Text) → are_same (Some word) svg ≡ false → IfSome svg (λ path. trace_of word ≢ at_path path)
apart_from word None other = tt
apart_from word (Some path) other = go (bytes_eq word (codes "stdin"))
  where
    go : (b : Bool) → (if b then from_stdin else at_path word) ≡ at_path path → ⊥
    go true e = cc
    go false e =
        let same : word ≡ path = cc in
        let bad : bytes_eq word path ≡ true = (bytes_eq-Decides word path).1 same in
        cc

-- what the rows tell a sweep, with the numbers of its lists
record TellsSweep (rows : List Row) : Type 0 where
  options : List ℕ → List ℕ → Sweep
  tells : (frames ks : List ℕ) → sweep_with frames ks rows ≡ Some (options frames ks)
  limits : (frames ks : List ℕ) → frames_at rows ≡ Some frames → ks_at rows ≡ Some ks → draws_over rows ≡ false → SweepsInLimits (options frames ks)

rows_tell_sweep : (rows : List Row) → IsFilled sweep_built rows → TellsSweep rows
rows_tell_sweep rows filled = record {
  options = told_with;
  tells = λ frames ks. rw (references.as_text, correlated.is) refl;
  limits = λ frames ks f k other.
      let sizes = frames_listed (first_of (codes "frames") rows) frames f in
      let stamps = ks_listed (first_of (codes "k") rows) ks k in
      record {
        frames = sizes.0;
        some_sizes = sizes.1;
        few_sizes = sizes.2;
        ks = stamps.0;
        some_ks = stamps.1;
        few_ks = stamps.2;
        correlated = correlated.at_most;
        column = column_within rows filled.fits;
        apart = apart_from references.word (first_of (codes "svg") rows) (rw references.as_text at other);
      };
}
  where
    given : (is_given (codes "references") rows ≡ true) × (is_given (codes "frames") rows ≡ true)
    given = both_given (is_given (codes "references") rows) (is_given (codes "frames") rows) filled.checked

    references : IsRead (codes "references") references_rule rows
    references = argument_read (codes "references") sweep_built.rules references_rule rows refl filled.fits (given_has (codes "references") rows given.0)

    correlated : IsNumber (codes "correlated") 0 4611686018427387904 rows
    correlated =
        let rule = option_rule (codes "correlated") 0 4611686018427387904 (codes "0") in
        number_read (codes "correlated") 0 4611686018427387904 rule rows refl
        (argument_read (codes "correlated") sweep_built.rules rule rows refl filled.fits (filled.defaults (codes "correlated") refl))

    told_with : List ℕ → List ℕ → Sweep
    told_with frames ks = record {
      references = trace_of references.word;
      frames = frames;
      ks = ks;
      correlated = correlated.number;
      column = number_at (codes "column") rows;
      svg = first_of (codes "svg") rows;
    }

-- ---- the words

entered_one : (rows : List Row) (entered : Bool) → check_fault (built bpool_app).top rows entered ≡ [] → entered ≡ true
entered_one rows true e = refl
entered_one rows false e = cc

-- the subcommand that was met is the one with this shape, and its words have no fault
record IsMet (shape : Shape) (stop : Option (Text × List Text)) : Type 0 where
  words : List Text
  met : entered (built bpool_app) stop ≡ Some (rows_at shape words)
  fault : level_fault shape [] nothing_held words false [] ≡ []

-- it is the one with one of these shapes
abbrev AnyMet : Option (Text × List Text) → Type 0
AnyMet stop = IsMet run_built stop ⊎ (IsMet sweep_built stop ⊎ (IsMet migrate_built stop ⊎ IsMet explain_built stop))

command_entered : (stop : Option (Text × List Text)) → NotHelp stop → is_some (entered (built bpool_app) stop) ≡ true → entered_fault (built bpool_app) stop ≡ []
    → AnyMet stop
command_entered None other e fault = cc
command_entered (Some p) other e fault =
    go (answers_to p.0 (codes "run", [])) (answers_to p.0 (codes "sweep", [])) (answers_to p.0 (codes "migrate", [])) (answers_to p.0 (codes "explain", []))
    (answers_to p.0 (codes "help", [])) refl refl refl refl (not_help (bytes_eq (codes "help") p.0) refl) e fault
  where
    not_help : (b : Bool) → bytes_eq (codes "help") p.0 ≡ b → b || false ≡ false
    not_help true e =
        let same : codes "help" ≡ p.0 = (bytes_eq-Decides (codes "help") p.0).0 e in
        let bad : bytes_eq p.0 (codes "help") ≡ true = (bytes_eq-Decides p.0 (codes "help")).1 (sym same) in
        cc
    not_help false e = refl

    help_built : Shape
    help_built = built_leaf help_shape

    shape_met : Bool → Bool → Bool → Bool → Bool → Option Shape
    shape_met run sweep migrate explain help =
        cond run (Some run_built) (cond sweep (Some sweep_built) (cond migrate (Some migrate_built)
        (cond explain (Some explain_built) (cond help (Some help_built) None))))

    go : (run sweep migrate explain help : Bool) → answers_to p.0 (codes "run", []) ≡ run → answers_to p.0 (codes "sweep", []) ≡ sweep
        → answers_to p.0 (codes "migrate", []) ≡ migrate → answers_to p.0 (codes "explain", []) ≡ explain → help ≡ false
        → is_some (option_map (λ s. rows_at s p.1) (shape_met run sweep migrate explain help)) ≡ true
        → option_map_or (λ s. level_fault s [] nothing_held p.1 false []) (shape_met run sweep migrate explain help) [] ≡ []
        → AnyMet (Some p)
    go true sweep migrate explain help is as_s as_m as_e other e fault = inl (record { words = p.1; met = rw is refl; fault = fault })
    go false true migrate explain help is as_s as_m as_e other e fault = inr (inl (record { words = p.1; met = rw (is, as_s) refl; fault = fault }))
    go false false true explain help is as_s as_m as_e other e fault = inr (inr (inl (record { words = p.1; met = rw (is, as_s, as_m) refl; fault = fault })))
    go false false false true help is as_s as_m as_e other e fault = inr (inr (inr (record { words = p.1; met = rw (is, as_s, as_m, as_e) refl; fault = fault })))
    go false false false false true is as_s as_m as_e other e fault = cc
    go false false false false false is as_s as_m as_e other e fault = cc

-- what words in which clap finds no fault ask for, if they name an order where they are those of a run
record IsAccepted (words : List Text) : Type 0 where
  asked : Option Asked
  asks : asked_in (subcommand_of bpool_app words) ≡ asked
  limits : IfSome asked AreInLimits
  fault : naming_fault (subcommand_of bpool_app words) ≡ (if is_some asked then [] else InvalidValue ∷ [])

run_tells : (words : List Text) (run : IsMet run_built (stop_after (built bpool_app).top.rules (names_of (built bpool_app)) words))
    → Tells (finished run_built.rules (walk run_built.rules [] nothing_held run.words).held) → IsAccepted words
run_tells words run tells = go (order_at rows) refl
  where
    rows : List Row
    rows = finished run_built.rules (walk run_built.rules [] nothing_held run.words).held

    met : asked_in (subcommand_of bpool_app words) ≡ asked_in (Some (rows_at run_built run.words))
    met = ap asked_in run.met

    named : naming_fault (subcommand_of bpool_app words) ≡ naming_fault (Some (rows_at run_built run.words))
    named = ap naming_fault run.met

    go : (order : Option Order) → order_at rows ≡ order → IsAccepted words
    go (Some order) is = record {
      asked = Some (a_run (tells.options order));
      asks = met ∙ ap (λ (o : Option RunOptions). option_map a_run o) (tells.tells ∙ ap (λ (o : Option Order). option_map tells.options o) is);
      limits = tells.limits order;
      fault = named ∙ ap (λ (o : Option Order). if is_some o then [] else InvalidValue ∷ []) is;
    }
    go None is = record {
      asked = None;
      asks = met ∙ ap (λ (o : Option RunOptions). option_map a_run o) (tells.tells ∙ ap (λ (o : Option Order). option_map tells.options o) is);
      limits = tt;
      fault = named ∙ ap (λ (o : Option Order). if is_some o then [] else InvalidValue ∷ []) is;
    }

migration_tells : (words : List Text) (migrate : IsMet migrate_built (stop_after (built bpool_app).top.rules (names_of (built bpool_app)) words))
    → TellsMigration (finished migrate_built.rules (walk migrate_built.rules [] nothing_held migrate.words).held) → IsAccepted words
migration_tells words migrate tells = record {
  asked = Some (a_migration tells.options);
  asks = ap asked_in migrate.met ∙ ap (λ (o : Option Migration). option_map a_migration o) tells.tells;
  limits = tells.limits;
  fault = ap naming_fault migrate.met;
}

sweep_tells : (words : List Text) (sweep : IsMet sweep_built (stop_after (built bpool_app).top.rules (names_of (built bpool_app)) words))
    → TellsSweep (finished sweep_built.rules (walk sweep_built.rules [] nothing_held sweep.words).held) → IsAccepted words
sweep_tells words sweep tells = go (frames_at rows) (ks_at rows) (draws_over rows) refl refl refl
  where
    rows : List Row
    rows = finished sweep_built.rules (walk sweep_built.rules [] nothing_held sweep.words).held

    by_lists : Option (List ℕ) → Option (List ℕ) → Bool → Option Asked
    by_lists frames ks over = option_map a_sweep (sweep_given frames ks over rows)

    fault_by : Option (List ℕ) → Option (List ℕ) → Bool → Kinds
    fault_by frames ks over = if names_sweep frames ks over then [] else InvalidValue ∷ []

    met : asked_in (subcommand_of bpool_app words) ≡ asked_in (Some (rows_at sweep_built sweep.words))
    met = ap asked_in sweep.met

    named : naming_fault (subcommand_of bpool_app words) ≡ naming_fault (Some (rows_at sweep_built sweep.words))
    named = ap naming_fault sweep.met

    -- what each of the three comes to
    asks_by : (frames ks : Option (List ℕ)) (over : Bool) → frames_at rows ≡ frames → ks_at rows ≡ ks → draws_over rows ≡ over
        → asked_in (subcommand_of bpool_app words) ≡ by_lists frames ks over
    asks_by frames ks over f k d = met ∙ ap₂ (λ (f k : Option (List ℕ)). by_lists f k (draws_over rows)) f k ∙ ap (λ (b : Bool). by_lists frames ks b) d

    faults_by : (frames ks : Option (List ℕ)) (over : Bool) → frames_at rows ≡ frames → ks_at rows ≡ ks → draws_over rows ≡ over
        → naming_fault (subcommand_of bpool_app words) ≡ fault_by frames ks over
    faults_by frames ks over f k d = named ∙ ap₂ (λ (f k : Option (List ℕ)). fault_by f k (draws_over rows)) f k ∙ ap (λ (b : Bool). fault_by frames ks b) d

    go : (frames ks : Option (List ℕ)) (over : Bool) → frames_at rows ≡ frames → ks_at rows ≡ ks → draws_over rows ≡ over → IsAccepted words
    go (Some frames) (Some ks) false f k d = record {
      asked = Some (a_sweep (tells.options frames ks));
      asks = asks_by (Some frames) (Some ks) false f k d ∙ ap (λ (o : Option Sweep). option_map a_sweep o) (tells.tells frames ks);
      limits = tells.limits frames ks f k d;
      fault = faults_by (Some frames) (Some ks) false f k d;
    }
    go (Some frames) (Some ks) true f k d = record { asked = None; asks = asks_by (Some frames) (Some ks) true f k d; limits = tt; fault = faults_by (Some frames) (Some ks) true f k d }
    go (Some frames) None over f k d = record { asked = None; asks = asks_by (Some frames) None over f k d; limits = tt; fault = faults_by (Some frames) None over f k d }
    go None ks over f k d = record { asked = None; asks = asks_by None ks over f k d; limits = tt; fault = faults_by None ks over f k d }

explain_tells : (words : List Text) → IsMet explain_built (stop_after (built bpool_app).top.rules (names_of (built bpool_app)) words) → IsAccepted words
explain_tells words explain = go (explanation_at rows) refl
  where
    rows : List Row
    rows = finished explain_built.rules (walk explain_built.rules [] nothing_held explain.words).held

    met : asked_in (subcommand_of bpool_app words) ≡ asked_in (Some (rows_at explain_built explain.words))
    met = ap asked_in explain.met

    named : naming_fault (subcommand_of bpool_app words) ≡ naming_fault (Some (rows_at explain_built explain.words))
    named = ap naming_fault explain.met

    go : (text : Option Text) → explanation_at rows ≡ text → IsAccepted words
    go (Some text) is = record {
      asked = Some (an_explanation text);
      asks = met ∙ ap (λ (o : Option Text). option_map an_explanation o) is;
      limits = tt;
      fault = named ∙ ap (λ (o : Option Text). if is_some o then [] else InvalidValue ∷ []) is;
    }
    go None is = record {
      asked = None;
      asks = met ∙ ap (λ (o : Option Text). option_map an_explanation o) is;
      limits = tt;
      fault = named ∙ ap (λ (o : Option Text). if is_some o then [] else InvalidValue ∷ []) is;
    }

-- words in which clap finds no fault
accepted : (words : List Text) → fault_of bpool_app words ≡ [] → IsAccepted words
accepted words fault =
    let top = (built bpool_app).top in
    let names = names_of (built bpool_app) in
    let stop = stop_after top.rules names words in
    let end = (walk top.rules names nothing_held words).held in
    let has = is_some (entered (built bpool_app) stop) in
    let walked = or_else-nil (walk_fault top names (walk_from nothing_held) words) _ fault in
    let below = or_else-nil (entered_fault (built bpool_app) stop) _ walked.1 in
    let settles = or_else-nil (settle_fault top.rules top.args_override_self end) _ below.1 in
    let filled = or_else-nil (defaults_fault (settled top.rules end).rows top.rules) (check_fault top (finished top.rules end) has) settles.1 in
    by_command words (command_entered stop (walk_not_help top names (walk_from nothing_held) words refl walked.0 tt) (entered_one (finished top.rules end) has filled.1) below.0)
  where
    stop_in : List Text → Option (Text × List Text)
    stop_in words = stop_after (built bpool_app).top.rules (names_of (built bpool_app)) words

    by_command : (words : List Text) → AnyMet (stop_in words) → IsAccepted words
    by_command words (inl run) = run_tells words run (rows_tell _ (level_filled run_built run.words refl run.fault))
    by_command words (inr (inl sweep)) = sweep_tells words sweep (rows_tell_sweep _ (level_filled sweep_built sweep.words refl sweep.fault))
    by_command words (inr (inr (inl migrate))) = migration_tells words migrate (rows_tell_migration _ (level_filled migrate_built migrate.words refl migrate.fault))
    by_command words (inr (inr (inr explain))) = explain_tells words explain

-- what the matches of such words ask for, where a run names an order
pub record IsTold (words : List Text) (m : ArgMatches) : Type 0 where
  pub asked : Asked
  pub by_matches : asked_in (subcommand_rows_of m) ≡ Some asked
  pub by_words : asked_by words ≡ Some asked
  pub limits : AreInLimits asked
  pub fault : fault_in words ≡ []

-- and where it names none
pub record IsUntold (words : List Text) (m : ArgMatches) : Type 0 where
  pub by_matches : asked_in (subcommand_rows_of m) ≡ None
  pub fault : fault_in words ≡ InvalidValue ∷ []

pub matches_told : (app : App) (words : List Text) (m : ArgMatches) → app ≡ bpool_app → HasMatchesOf app words m → fault_of app words ≡ [] → IsTold words m ⊎ IsUntold words m
matches_told app words m same matches fault = go found.asked found.asks found.limits found.fault
  where
    none : fault_of bpool_app words ≡ []
    none = ap (λ (a : App). fault_of a words) (sym same) ∙ fault

    found : IsAccepted words
    found = accepted words none

    met : subcommand_rows_of m ≡ subcommand_of bpool_app words
    met = (matches (ap is_simple same)).1 ∙ ap (λ (a : App). subcommand_of a words) same

    go : (asked : Option Asked) → asked_in (subcommand_of bpool_app words) ≡ asked → IfSome asked AreInLimits
        → naming_fault (subcommand_of bpool_app words) ≡ (if is_some asked then [] else InvalidValue ∷ []) → IsTold words m ⊎ IsUntold words m
    go (Some asked) asks limits names =
        let no_fault : fault_in words ≡ [] = ap₂ or_else none names in
        inl (record {
          asked = asked;
          by_matches = ap asked_in met ∙ asks;
          by_words = ap (λ (kinds : Kinds). if is_empty kinds then asked_in (subcommand_of bpool_app words) else None) no_fault ∙ asks;
          limits = limits;
          fault = no_fault;
        })
    go None asks limits names = inr (record { by_matches = ap asked_in met ∙ asks; fault = ap₂ or_else none names })

-- what is asked for is what the words ask for
pub task_is : {X : Type 0} (asked_as : X → Asked) (x : X) (words : List Text) (m : ArgMatches) → IsTold words m ⊎ IsUntold words m → Some (asked_as x) ≡ asked_in (subcommand_rows_of m)
    → (asked_by words ≡ Some (asked_as x)) × AreInLimits (asked_as x) × (fault_in words ≡ [])
task_is asked_as x words m (inl tells) is =
    let same : tells.asked ≡ asked_as x = (let both : Some (asked_as x) ≡ Some tells.asked = is ∙ tells.by_matches in cc) in
    (tells.by_words ∙ ap Some same, subst AreInLimits same tells.limits, tells.fault)
task_is asked_as x words m (inr untold) is = let bad : Some (asked_as x) ≡ None = is ∙ untold.by_matches in cc

-- where nothing is asked for the order is at fault
pub no_order_is : (words : List Text) (m : ArgMatches) (e : Error) → IsTold words m ⊎ IsUntold words m → None ≡ asked_in (subcommand_rows_of m) → kind_of e ≡ InvalidValue → HasKind (fault_in words) e
no_order_is words m e (inl tells) is kind = let bad : None ≡ Some tells.asked = is ∙ tells.by_matches in cc
no_order_is words m e (inr untold) is kind = inr (subst (IsAmong (kind_of e)) (sym untold.fault) (inl kind))

among_either : (kind : ErrorKind) (first next : Kinds) → IsAmong kind first → IsAmong kind (or_else first next)
among_either kind [] next among = absurd among
among_either kind (k ∷ ks) next among = among

-- a fault of clap's is one of the words
pub clap_faults : (app : App) (words : List Text) (e : Error) → app ≡ bpool_app → HasKind (fault_of app words) e → HasKind (fault_in words) e
clap_faults app words e same (inl memory) = inl memory
clap_faults app words e same (inr among) =
    inr (among_either (kind_of e) (fault_of bpool_app words) (naming_fault (subcommand_of bpool_app words)) (subst (λ (a : App). IsAmong (kind_of e) (fault_of a words)) same among))
