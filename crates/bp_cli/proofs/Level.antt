-- The rows at the end of a parse without a fault: each fits, and each default is there.
use Rattle.std.proofs.Common.{◌≡◌, ◌&&◌, ◌||◌, inl, inr, not, if◌then◌else◌, cond, true, false, Bool, refl, subst, List, [], ◌∷◌, ◌++◌, fold, arith, ne_eqb}
use Rattle.std.proofs.lemmas.Slice.Eq.{bytes_eq-Decides}
use Rattle.std.specs.List.{list_any}
use Rattle.std.specs.Str.{bytes_eq}
use Rattle.clap.specs.Kinds.{request_kinds}
use Rattle.clap.specs.Faults.{check_fault, default_fault, defaults_fault, given_default_fault, level_fault, settle_fault, values_fault, walk_fault}
use Rattle.clap.specs.Simple.{Shape}
use Rattle.clap.specs.Walk.{Row, Rule, Text, action_of, default_rows, finished, has_row, is_empty, more_values, nothing_held, reading_by, settled, walk, walk_from, with_default, with_values}
use Rattle.clap.specs.declared.builder.value_parser.Reading.{Reading}
use Rattle.clap.specs.declared.parser.matches.ValueSource.{ValueSource}
use Rattle.clap.specs.declared.parser.matches.ValueSource.TheVariants.{DefaultValue}
use Rattle.bp_cli.proofs.Fits.{AllFit, Fits, IsOf, first_passes, or_else-nil, with_values_fits}
use Rattle.bp_cli.proofs.Walking.{AreGood, settled_fits, walk_fits}

-- ---- defaults

some_values : {X : Type 0} (x : X) (xs : List X) → is_empty (x ∷ xs) ≡ false
some_values x xs = ne_eqb _ _ (λ e. omega arith)

default_fits : (c : List Rule) (a : Rule) (rows : List Row) → ((r : Row) → IsOf a r → Fits c r) → default_fault rows a ≡ [] → AllFit c rows → AllFit c (with_default rows a)
default_fits c a rows known fault fit = go (has_row a.id rows) a.defaults fault
  where
    go : (b : Bool) (values : List Text) → (if b || is_empty values then [] else given_default_fault a values) ≡ []
        → AllFit c (if b then rows else default_rows a.id (reading_by a) values rows)
    go true values e = fit
    go false [] e = fit
    go false (v ∷ vs) e =
        with_values_fits c a DefaultValue v vs rows known (first_passes a v vs (or_else-nil (request_kinds (action_of a)) (values_fault a (v ∷ vs)) (rw some_values at e)).1) fit

defaults_fit : (c xs : List Rule) (rows : List Row) → ((r : Row) → Fits xs r → Fits c r) → defaults_fault rows xs ≡ [] → AllFit c rows → AllFit c (fold with_default rows xs)
unfolding defaults_fault
defaults_fit c [] rows known fault fit = fit
defaults_fit c (a ∷ rest) rows known fault fit =
    let parts = or_else-nil (default_fault rows a) (defaults_fault (with_default rows a) rest) fault in
    defaults_fit c rest (with_default rows a) (λ r f. known r (inr f)) parts.1 (default_fits c a rows (λ r is. known r (inl is)) parts.0 fit)

-- ---- rows that are there

-- a row with this id stays where values are put in
with_values-has : (id own : Text) (how : Reading) (s : ValueSource) (vs : List Text) (rows : List Row) → has_row id rows ≡ true → has_row id (with_values own how s vs rows) ≡ true
with_values-has id own how s vs [] e = cc
with_values-has id own how s vs (r ∷ rows) e = go (bytes_eq r.id own) (bytes_eq r.id id) refl e (with_values-has id own how s vs rows)
  where
    go : (here same : Bool) → bytes_eq r.id id ≡ same → same || has_row id rows ≡ true → (has_row id rows ≡ true → has_row id (with_values own how s vs rows) ≡ true)
        → has_row id (cond here (more_values s vs r ++ rows) (r ∷ with_values own how s vs rows)) ≡ true
    go true same is e later = rw is e
    go false true is e later = rw is refl
    go false false is e later = rw is (later e)

-- and values that are put in have a row
with_values-there : (id : Text) (how : Reading) (s : ValueSource) (vs : List Text) (rows : List Row) → has_row id (with_values id how s vs rows) ≡ true
with_values-there id how s vs [] = rw ((bytes_eq-Decides id id).1 refl) refl
with_values-there id how s vs (r ∷ rows) = go (bytes_eq r.id id) refl (with_values-there id how s vs rows)
  where
    go : (b : Bool) → bytes_eq r.id id ≡ b → has_row id (with_values id how s vs rows) ≡ true
        → has_row id (cond b (more_values s vs r ++ rows) (r ∷ with_values id how s vs rows)) ≡ true
    go true is later = rw is refl
    go false is later = rw is later

default-has : (id : Text) (a : Rule) (rows : List Row) → has_row id rows ≡ true → has_row id (with_default rows a) ≡ true
default-has id a rows e = go (has_row a.id rows) a.defaults
  where
    go : (b : Bool) (vs : List Text) → has_row id (if b then rows else default_rows a.id (reading_by a) vs rows) ≡ true
    go true vs = e
    go false [] = e
    go false (v ∷ vs) = with_values-has id a.id (reading_by a) DefaultValue (v ∷ vs) rows e

default-there : (a : Rule) (rows : List Row) → not (is_empty a.defaults) ≡ true → has_row a.id (with_default rows a) ≡ true
default-there a rows some = go (has_row a.id rows) refl a.defaults some
  where
    go : (b : Bool) → has_row a.id rows ≡ b → (vs : List Text) → not (is_empty vs) ≡ true → has_row a.id (if b then rows else default_rows a.id (reading_by a) vs rows) ≡ true
    go true is vs some = is
    go false is [] some = cc
    go false is (v ∷ vs) some = with_values-there a.id (reading_by a) DefaultValue (v ∷ vs) rows

defaults-has : (id : Text) (xs : List Rule) (rows : List Row) → has_row id rows ≡ true → has_row id (fold with_default rows xs) ≡ true
defaults-has id [] rows e = e
defaults-has id (a ∷ rest) rows e = defaults-has id rest (with_default rows a) (default-has id a rows e)

-- the argument of this id has a default
abbrev pub has_default : Text → Rule → Bool
has_default id a = bytes_eq a.id id && not (is_empty a.defaults)

pub defaults-there : (id : Text) (xs : List Rule) (rows : List Row) → list_any (has_default id) xs ≡ true → has_row id (fold with_default rows xs) ≡ true
defaults-there id [] rows e = cc
defaults-there id (a ∷ rest) rows e = go (bytes_eq a.id id) (not (is_empty a.defaults)) refl refl e (defaults-there id rest (with_default rows a))
  where
    go : (named some : Bool) → bytes_eq a.id id ≡ named → not (is_empty a.defaults) ≡ some → (named && some) || list_any (has_default id) rest ≡ true
        → (list_any (has_default id) rest ≡ true → has_row id (fold with_default (with_default rows a) rest) ≡ true)
        → has_row id (fold with_default (with_default rows a) rest) ≡ true
    go true true is filled e later =
        let same : a.id ≡ id = (bytes_eq-Decides a.id id).0 is in
        defaults-has id rest (with_default rows a) (subst (λ (t : Text). has_row t (with_default rows a) ≡ true) same (default-there a rows filled))
    go true false is filled e later = later e
    go false some is filled e later = later e

-- ---- one level

-- the rows of a level without a fault
pub record IsFilled (s : Shape) (rows : List Row) : Type 0 where
  pub fits : AllFit s.rules rows
  pub defaults : (id : Text) → list_any (has_default id) s.rules ≡ true → has_row id rows ≡ true
  pub checked : check_fault s rows false ≡ []

pub level_filled : (s : Shape) (words : List Text) → AreGood s.rules → level_fault s [] nothing_held words false [] ≡ []
    → IsFilled s (finished s.rules (walk s.rules [] nothing_held words).held)
level_filled s words good fault =
    let end = (walk s.rules [] nothing_held words).held in
    let walked = or_else-nil (walk_fault s [] (walk_from nothing_held) words) _ fault in
    let settles = or_else-nil (settle_fault s.rules s.args_override_self end) _ walked.1 in
    let filled = or_else-nil (defaults_fault (settled s.rules end).rows s.rules) (check_fault s (finished s.rules end) false) settles.1 in
    let fit = walk_fits s [] (walk_from nothing_held) words good walked.0 tt in
    record {
      fits = defaults_fit s.rules s.rules (settled s.rules end).rows (λ r f. f) filled.0 (settled_fits s.rules s.args_override_self end good settles.0 fit);
      defaults = λ id e. defaults-there id s.rules (settled s.rules end).rows e;
      checked = filled.1;
    }
