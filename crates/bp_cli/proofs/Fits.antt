-- The rows that a parse without a fault leaves: each is of one of the rules, and its first value passes that rule's parser.
use Rattle.std.proofs.Common.{◌≡◌, ℕ, ◌&&◌, ◌⊎◌, inl, inr, not, nat_lt, cond, true, false, Bool, ap, refl, subst, List, [], ◌∷◌, ◌++◌, Some}
use Rattle.std.specs.List.{find, list_all}
use Rattle.std.specs.Str.{bytes_eq}
use Rattle.clap.specs.Facts.{unwrap_or_range}
use Rattle.clap.specs.declared.error.kind.ErrorKind.{ErrorKind}
use Rattle.clap.specs.declared.error.kind.ErrorKind.TheVariants.{InvalidValue}
use Rattle.clap.specs.declared.parser.matches.ValueSource.TheVariants.{CommandLine}
use Rattle.clap.specs.Kinds.{Kinds, or_else, range_kinds}
use Rattle.clap.specs.Faults.{action_fault, repeat_fault, set_fault, use_fault, values_fault}
use Rattle.clap.specs.Takes.{value_passes}
use Rattle.clap.specs.Walk.{Row, Rule, Text, action_of, at_row, is_empty, more_values, most_values, reading_by, stronger, used, used_as, with_values, without}
use Rattle.clap.specs.declared.builder.action.ArgAction.{ArgAction}
use Rattle.clap.specs.declared.builder.action.ArgAction.TheVariants.{Set, SetTrue, Help}
use Rattle.clap.specs.declared.parser.matches.ValueSource.{ValueSource}

pub or_else-nil : (a b : Kinds) → or_else a b ≡ [] → (a ≡ []) × (b ≡ [])
or_else-nil [] b e = (refl, e)
or_else-nil (k ∷ ks) b e = cc

-- the row is of this rule, and its first value passes
pub record IsOf (a : Rule) (r : Row) : Type 0 where
  pub id : r.id ≡ a.id
  pub reading : r.reading ≡ reading_by a
  pub first : Text
  pub others : List Text
  pub values : r.values ≡ first ∷ others
  pub passes : value_passes a first ≡ true

abbrev pub Fits : List Rule → Row → Type 0
Fits [] r = ⊥
Fits (a ∷ rest) r = IsOf a r ⊎ Fits rest r

abbrev pub AllFit : List Rule → List Row → Type 0
AllFit c [] = Unit {0}
AllFit c (r ∷ rows) = Fits c r × AllFit c rows

-- a rule that is found is one of the rules
pub found_fits : (c : List Rule) (test : Rule → Bool) (a : Rule) (r : Row) → find test c ≡ Some a → IsOf a r → Fits c r
found_fits [] test a r e is = cc
found_fits (x ∷ rest) test a r e is = go (test x) e (found_fits rest test a r)
  where
    go : (b : Bool) → cond b (Some x) (find test rest) ≡ Some a → (find test rest ≡ Some a → IsOf a r → Fits rest r) → IsOf x r ⊎ Fits rest r
    go true here later = let same : a ≡ x = cc in inl (subst (λ (y : Rule). IsOf y r) same is)
    go false e later = inr (later e is)

-- and has what all of them have
pub found_passes : (c : List Rule) (test good : Rule → Bool) (a : Rule) → list_all good c ≡ true → find test c ≡ Some a → good a ≡ true
found_passes [] test good a all e = cc
found_passes (x ∷ rest) test good a all e = go (good x) (test x) refl all e (found_passes rest test good a)
  where
    go : (g b : Bool) → good x ≡ g → g && list_all good rest ≡ true → cond b (Some x) (find test rest) ≡ Some a
        → (list_all good rest ≡ true → find test rest ≡ Some a → good a ≡ true) → good a ≡ true
    go true true is all here later = let same : x ≡ a = cc in rw (← same) is
    go true false is all e later = later all e
    go false b is all e later = cc

-- values after the first change nothing
pub more_fits : (c : List Rule) (s : ValueSource) (values : List Text) (r : Row) → Fits c r → Fits c (record r { values = r.values ++ values; source = Some (stronger r.source s) })
more_fits [] s values r fits = fits
more_fits (a ∷ rest) s values r fits = elim fits [
  | inl is ↦ inl (record {
    id = is.id;
    reading = is.reading;
    first = is.first;
    others = is.others ++ values;
    values = ap (λ (vs : List Text). vs ++ values) is.values;
    passes = is.passes;
  })
  | inr later ↦ inr (more_fits rest s values r later)
]

-- two lists of rows that fit, one after the other
pub both_fit : (c : List Rule) (rows more : List Row) → AllFit c rows → AllFit c more → AllFit c (rows ++ more)
both_fit c [] more h k = k
both_fit c (r ∷ rows) more h k = (h.0, both_fit c rows more h.1 k)

pub at_row_fits : (c : List Rule) (id : Text) (change : Row → List Row) (missing rows : List Row)
    → ((r : Row) → Fits c r → AllFit c (change r)) → AllFit c missing → AllFit c rows → AllFit c (at_row id change missing rows)
at_row_fits c id change missing [] changed added h = added
at_row_fits c id change missing (r ∷ rows) changed added h = go (bytes_eq r.id id) (at_row_fits c id change missing rows changed added h.1)
  where
    go : (b : Bool) → AllFit c (at_row id change missing rows) → AllFit c (cond b (change r ++ rows) (r ∷ at_row id change missing rows))
    go true later = both_fit c (change r) rows (changed r h.0) h.1
    go false later = (h.0, later)

pub without_fits : (c : List Rule) (id : Text) (rows : List Row) → AllFit c rows → AllFit c (without id rows)
without_fits c id rows h = at_row_fits c id (λ _. []) [] rows (λ r fits. tt) tt h

-- values that pass, at the row of their rule
pub with_values_fits : (c : List Rule) (a : Rule) (s : ValueSource) (v : Text) (vs : List Text) (rows : List Row)
    → ((r : Row) → IsOf a r → Fits c r) → value_passes a v ≡ true → AllFit c rows → AllFit c (with_values a.id (reading_by a) s (v ∷ vs) rows)
with_values_fits c a s v vs rows known passes h =
    at_row_fits c a.id (more_values s (v ∷ vs)) _ rows (λ r fits. (more_fits c s (v ∷ vs) r fits, tt))
    (known _ (record { id = refl; reading = refl; first = v; others = vs; values = refl; passes = passes }), tt) h

-- the first of values without a fault passes
pub first_passes : (a : Rule) (v : Text) (vs : List Text) → values_fault a (v ∷ vs) ≡ [] → value_passes a v ≡ true
first_passes a v vs e = go (value_passes a v) _ _ e
  where
    go : (b : Bool) (k : ErrorKind) (rest : Kinds) → or_else (cond b [] (k ∷ [])) rest ≡ [] → b ≡ true
    go true k rest e = refl
    go false k rest e = cc

abbrev good_by : ArgAction → Bool → List Text → Bool
good_by Set has_value missing = has_value
good_by SetTrue has_value missing = not (is_empty missing)
good_by Help has_value missing = true
good_by _ has_value missing = false

-- each use of the argument has a value, or one that stands for none, or asks for help
abbrev pub is_good : Rule → Bool
is_good a = good_by (action_of a) (nat_lt 0 (unwrap_or_range a.range).start_inclusive) a.missing

no_values : (least most : ℕ) → nat_lt 0 least ≡ true → range_kinds least most 0 ≡ [] → ⊥
no_values least most some e =
    let none : InvalidValue ∷ [] ≡ [] = rw some at e in
    cc

-- values that are set without a fault
set_fits : (c : List Rule) (again : Bool) (a : Rule) (v : Text) (vs : List Text) (rows : List Row)
    → ((r : Row) → IsOf a r → Fits c r) → set_fault again a (v ∷ vs) rows ≡ [] → AllFit c rows
    → AllFit c (with_values a.id (reading_by a) CommandLine (v ∷ vs) (without a.id rows))
set_fits c again a v vs rows known e h =
    let passes = (or_else-nil (repeat_fault again a.id rows) (values_fault a (v ∷ vs)) e).1 in
    with_values_fits c a CommandLine v vs (without a.id rows) known (first_passes a v vs passes) (without_fits c a.id rows h)

-- a use without a fault
pub used_fits : (c : List Rule) (again : Bool) (a : Rule) (values : List Text) (rows : List Row)
    → is_good a ≡ true → ((r : Row) → IsOf a r → Fits c r) → use_fault again a values rows ≡ [] → AllFit c rows → AllFit c (used a values rows)
used_fits c again a [] rows good known fault h = go (action_of a) a.missing good parts.0 parts.1
  where
    parts : (range_kinds (unwrap_or_range a.range).start_inclusive (most_values a) 0 ≡ [])
        × (action_fault (action_of a) again a a.missing rows ≡ [])
    parts = or_else-nil _ _ fault

    go : (x : ArgAction) (missing : List Text) → good_by x (nat_lt 0 (unwrap_or_range a.range).start_inclusive) missing ≡ true
        → range_kinds (unwrap_or_range a.range).start_inclusive (most_values a) 0 ≡ [] → action_fault x again a missing rows ≡ []
        → AllFit c (used_as x a.id (reading_by a) missing rows)
    go Set missing some range e = absurd (no_values _ _ some range)
    go SetTrue [] some range e = cc
    go SetTrue (v ∷ vs) some range e = set_fits c again a v vs rows known e h
    go Help missing some range e = h
    go other missing some range e = cc
used_fits c again a (v ∷ vs) rows good known fault h = go (action_of a) good (or_else-nil _ _ fault).1
  where
    go : (x : ArgAction) → good_by x (nat_lt 0 (unwrap_or_range a.range).start_inclusive) a.missing ≡ true
        → action_fault x again a (v ∷ vs) rows ≡ [] → AllFit c (used_as x a.id (reading_by a) (v ∷ vs) rows)
    go Set some e = set_fits c again a v vs rows known e h
    go SetTrue some e = set_fits c again a v vs rows known e h
    go Help some e = h
    go other some e = cc
