-- A walk over words without a fault keeps to rows that fit.
use Rattle.std.proofs.Common.{◌≡◌, ℕ, zero, suc, ◌&&◌, not, if◌then◌else◌, true, false, Bool, refl, sym, subst, List, [], ◌∷◌, length, drop, fold, Option, Some, None, is_some, encode_utf8, slice_get}
use Rattle.std.specs.List.{find, list_all}
use Rattle.std.specs.Option.{option_map_or}
use Rattle.std.specs.Str.{bytes_eq, chars}
use Rattle.clap.specs.Lexer.{long_of, short_of}
use Rattle.clap.specs.Kinds.{or_else}
use Rattle.clap.specs.Faults.{bundle_fault, bundle_step_fault, flags_fault, flag_word_fault, long_fault, option_fault, other_fault, positional_fault, react_fault, settle_fault, short_fault, step_fault, stray_fault, turn_fault, use_fault, walk_fault, word_fault}
use Rattle.clap.specs.declared.error.kind.ErrorKind.TheVariants.{TooManyValues}
use Rattle.clap.specs.Simple.{Shape}
use Rattle.clap.specs.Walk.{Held, Names, Outcome, Row, Rule, Step, Text, Waiting, Walk, after_flag, after_step, arg_by_id, arg_by_index, arg_by_long, arg_by_short, attached_value, bundle, bundle_met, bundle_step, done, flag_met, has_long, has_short, idle, is_pending, long_met, long_or_other, next, option, option_met, option_word, plain, plain_word, positional, pushed, reacted, refused, settled, settled_rows, short_met, short_or_plain, subcommand, subcommand_met, subcommand_or_other, takes_several, takes_values, to_positional, trailing, used_by_id, value, waits, walked, walked_from, word_met}
use Rattle.bp_cli.proofs.Fits.{AllFit, found_fits, found_passes, is_good, or_else-nil, used_fits}

abbrev pub AreGood : List Rule → Type 0
AreGood c = list_all is_good c ≡ true

-- the argument that waits for values is used
pub settled_fits : (c : List Rule) (again : Bool) (h : Held) → AreGood c → settle_fault c again h ≡ [] → AllFit c h.rows → AllFit c (settled c h).rows
settled_fits c again h good fault fit = go h.pending fault
  where
    used_one : (p : Text × List Text) (o : Option Rule) → arg_by_id c p.0 ≡ o → option_map_or (λ a. use_fault again a p.1 h.rows) o [] ≡ [] → AllFit c (used_by_id o p.1 h.rows)
    used_one p None is e = fit
    used_one p (Some a) is e =
        used_fits c again a p.1 h.rows (found_passes c (λ x. bytes_eq x.id p.0) is_good a good is) (λ r. found_fits c (λ x. bytes_eq x.id p.0) a r is) e fit

    go : (pending : Option (Text × List Text)) → option_map_or (λ p. option_map_or (λ a. use_fault again a p.1 h.rows) (arg_by_id c p.0) []) pending [] ≡ []
        → AllFit c (settled_rows c pending h.rows)
    go None e = fit
    go (Some p) e = used_one p (arg_by_id c p.0) refl e

-- and then another
pub reacted_fits : (c : List Rule) (again : Bool) (test : Rule → Bool) (a : Rule) (values : List Text) (h : Held) → AreGood c → find test c ≡ Some a
    → react_fault c again a values h ≡ [] → AllFit c h.rows → AllFit c (reacted c a values h).rows
reacted_fits c again test a values h good found fault fit =
    let parts = or_else-nil (settle_fault c again h) (use_fault again a values (settled c h).rows) fault in
    used_fits c again a values (settled c h).rows (found_passes c test is_good a good found) (λ r. found_fits c test a r found) parts.1 (settled_fits c again h good parts.0 fit)

pub option_fits : (c : List Rule) (again : Bool) (test : Rule → Bool) (a : Rule) (v : Option Text) (h : Held) → AreGood c → find test c ≡ Some a
    → option_fault c again a v h ≡ [] → AllFit c h.rows → AllFit c (option_met c a v h).0.rows
option_fits c again test a None h good found fault fit = settled_fits c again h good fault fit
option_fits c again test a (Some v) h good found fault fit = reacted_fits c again test a (v ∷ []) h good found fault fit

pub long_fits : (c : List Rule) (again : Bool) (test : Rule → Bool) (o : Option Rule) (v : Option Text) (h : Held) → AreGood c → find test c ≡ o
    → long_fault c again o v h ≡ [] → AllFit c h.rows → AllFit c (long_met c o v h).0.rows
long_fits c again test None v h good found fault fit = fit
long_fits c again test (Some a) v h good found fault fit = go (takes_values a) fault
  where
    flag : (v : Option Text) → (if is_some v then TooManyValues ∷ [] else react_fault c again a [] h) ≡ [] → AllFit c (flag_met c a v h).0.rows
    flag None e = reacted_fits c again test a [] h good found e fit
    flag (Some v) e = fit

    go : (b : Bool) → (if b then option_fault c again a v h else (if is_some v then TooManyValues ∷ [] else react_fault c again a [] h)) ≡ []
        → AllFit c (if b then option_met c a v h else flag_met c a v h).0.rows
    go true e = option_fits c again test a v h good found e fit
    go false e = flag v e

-- the flags of a bundle that come after k others
abbrev RestFits : List Rule → Bool → ℕ → Type 0
RestFits c again k =
    (flags : Text) (skip : ℕ) (so_far : Outcome) (h : Held) → flags_fault c again k flags skip h ≡ [] → AllFit c h.rows → AllFit c (bundle_met c k flags skip so_far h).0.rows

short_fits : (c : List Rule) (again : Bool) (test : Rule → Bool) (o : Option Rule) (k : ℕ) (rest : Text) (h : Held) → AreGood c → find test c ≡ o
    → short_fault c again o rest h (flags_fault c again k rest 0) ≡ [] → AllFit c h.rows → RestFits c again k
    → AllFit c (short_met c o rest h (bundle_met c k rest 0 done)).0.rows
short_fits c again test None k rest h good found fault fit later = fit
short_fits c again test (Some a) k rest h good found fault fit later = go (takes_values a) fault
  where
    go : (b : Bool) → (if b then option_fault c again a (attached_value rest) h else or_else (react_fault c again a [] h) (flags_fault c again k rest 0 (reacted c a [] h))) ≡ []
        → AllFit c (if b then option_met c a (attached_value rest) h else bundle_met c k rest 0 done (reacted c a [] h)).0.rows
    go true e = option_fits c again test a (attached_value rest) h good found e fit
    go false e =
        let parts = or_else-nil (react_fault c again a [] h) (flags_fault c again k rest 0 (reacted c a [] h)) e in
        later rest 0 done (reacted c a [] h) parts.1 (reacted_fits c again test a [] h good found parts.0 fit)

-- the flags of a bundle
pub bundle_fits : (c : List Rule) (again : Bool) (k : ℕ) → AreGood c → RestFits c again k
unfolding bundle_met flags_fault
bundle_fits c again zero good flags skip so_far h fault fit = fit
bundle_fits c again (suc k) good flags skip so_far h fault fit = go (slice_get (chars flags) 0) skip fault (bundle_fits c again k good)
  where
    go : (o : Option ℕ) (skip : ℕ) → bundle_step_fault c again o flags skip h (flags_fault c again k) ≡ [] → RestFits c again k
        → AllFit c (bundle_step c o flags skip so_far h (bundle_met c k)).0.rows
    go None skip e later = fit
    go (Some x) zero e later =
        short_fits c again (λ a. not (is_some a.index) && has_short a x) (arg_by_short c x) k (drop (length (encode_utf8 x)) flags) h good refl e fit later
    go (Some x) (suc skip) e later = later (drop (length (encode_utf8 x)) flags) skip so_far h e fit

-- a word that is no flag leaves the rows
plain_rows : (c : List Rule) (waiting : Waiting) (word : Text) (h : Held) → (plain_word c waiting word h).0.rows ≡ h.rows
plain_rows c (option id) word h = go (arg_by_id c id)
  where
    go : (o : Option Rule) → (option_word o id word h).0.rows ≡ h.rows
    go None = refl
    go (Some a) = refl
plain_rows c idle word h = refl
plain_rows c positional word h = refl

after_rows : (c : List Rule) (waiting : Waiting) (word : Text) (h : Held) (o : Outcome) → (after_flag c waiting word h o).0.rows ≡ h.rows
after_rows c waiting word h done = refl
after_rows c waiting word h (waits id) = refl
after_rows c waiting word h plain = plain_rows c waiting word h
after_rows c waiting word h refused = plain_rows c waiting word h

fit_as : (c : List Rule) (rows more : List Row) → more ≡ rows → AllFit c rows → AllFit c more
fit_as c rows more e fit = subst (AllFit c) (sym e) fit

-- a flag, or a word that is none
pub flag_word_fits : (c : List Rule) (again : Bool) (o : Option (Text × Option Text)) (waiting : Waiting) (word : Text) (h : Held) → AreGood c
    → flag_word_fault c again o word h ≡ [] → AllFit c h.rows → AllFit c (long_or_other c waiting word o h).0.rows
flag_word_fits c again (Some p) waiting word h good fault fit =
    let met = long_met c (arg_by_long c p.0) p.1 h in
    fit_as c met.0.rows _ (after_rows c waiting word met.0 met.1)
    (long_fits c again (λ a. not (is_some a.index) && has_long a p.0) (arg_by_long c p.0) p.1 h good refl fault fit)
flag_word_fits c again None waiting word h good fault fit = go (short_of word) fault
  where
    go : (o : Option Text) → option_map_or (λ flags. bundle_fault c again flags h) o [] ≡ [] → AllFit c (short_or_plain c waiting word o h).0.rows
    go None e = fit_as c h.rows _ (plain_rows c waiting word h) fit
    go (Some flags) e =
        let met = bundle c flags h in
        fit_as c met.0.rows _ (after_rows c waiting word met.0 met.1)
        (bundle_fits c again (length flags) good flags h.skip plain (record h { skip = 0 }) e fit)

-- what a word is, before it goes to a positional
word_fits : (s : Shape) (names : Names) (is_trailing : Bool) (waiting : Waiting) (position : ℕ) (word : Text) (h : Held) → AreGood s.rules
    → word_fault s names is_trailing waiting word h ≡ [] → AllFit s.rules h.rows → AllFit s.rules (word_met s.rules names is_trailing waiting position word h).0.rows
word_fits s names true waiting position word h good fault fit = fit
word_fits s names false waiting position word h good fault fit = go (subcommand_met names waiting word) fault
  where
    other : (b : Bool) → (if b then [] else flag_word_fault s.rules s.args_override_self (long_of word) word h) ≡ []
        → AllFit s.rules (if b then (h, trailing position) else long_or_other s.rules waiting word (long_of word) h).0.rows
    other true e = fit
    other false e = flag_word_fits s.rules s.args_override_self (long_of word) waiting word h good e fit

    go : (o : Option Text) → other_fault s o word h ≡ [] → AllFit s.rules (subcommand_or_other s.rules o waiting position word h).0.rows
    go (Some name) e = fit
    go None e = other (bytes_eq word (45 ∷ 45 ∷ [])) e

-- a word that goes to a positional
to_positional_fits : (s : Shape) (word : Text) (w : Walk) (h : Held) (o : Option Rule) → AreGood s.rules
    → option_map_or (λ a. positional_fault s.rules s.args_override_self a h) o (stray_fault s) ≡ [] → AllFit s.rules h.rows
    → AllFit s.rules (to_positional s.rules o word w h).held.rows
to_positional_fits s word w h None good fault fit = fit
to_positional_fits s word w h (Some a) good fault fit = go (is_pending a h.pending && takes_several a) fault
  where
    go : (b : Bool) → (if b then [] else settle_fault s.rules s.args_override_self h) ≡ [] → AllFit s.rules (pushed a.id word (if b then h else settled s.rules h)).rows
    go true e = fit
    go false e = settled_fits s.rules s.args_override_self h good e fit

step_fits : (s : Shape) (word : Text) (w : Walk) (h : Held) (step : Step) → AreGood s.rules
    → step_fault s w.position h step ≡ [] → AllFit s.rules h.rows → AllFit s.rules (after_step s.rules word w h step).held.rows
step_fits s word w h (next waiting) good fault fit = fit
step_fits s word w h (trailing position) good fault fit = fit
step_fits s word w h (subcommand name) good fault fit = fit
step_fits s word w h value good fault fit = to_positional_fits s word w h (arg_by_index s.rules w.position) good fault fit

turn_fits : (s : Shape) (names : Names) (w : Walk) (word : Text) → AreGood s.rules → turn_fault s names w word ≡ [] → AllFit s.rules w.held.rows
    → AllFit s.rules (walked s.rules names w word).held.rows
unfolding walked
turn_fits s names w word good fault fit = go w.stopped fault
  where
    met : Held × Step
    met = word_met s.rules names w.is_trailing w.waiting w.position word w.held

    go : (o : Option (Text × List Text))
        → (if is_some o then [] else or_else (word_fault s names w.is_trailing w.waiting word w.held) (step_fault s w.position met.0 met.1)) ≡ []
        → AllFit s.rules (walked_from s.rules names o w word).held.rows
    go (Some p) e = fit
    go None e =
        let parts = or_else-nil (word_fault s names w.is_trailing w.waiting word w.held) (step_fault s w.position met.0 met.1) e in
        step_fits s word w met.0 met.1 good parts.1 (word_fits s names w.is_trailing w.waiting w.position word w.held good parts.0 fit)

-- a walk without a fault
pub walk_fits : (s : Shape) (names : Names) (w : Walk) (words : List Text) → AreGood s.rules → walk_fault s names w words ≡ [] → AllFit s.rules w.held.rows
    → AllFit s.rules (fold (walked s.rules names) w words).held.rows
unfolding walk_fault
walk_fits s names w [] good fault fit = fit
walk_fits s names w (word ∷ rest) good fault fit =
    let parts = or_else-nil (turn_fault s names w word) (walk_fault s names (walked s.rules names w word) rest) fault in
    walk_fits s names (walked s.rules names w word) rest good parts.1 (turn_fits s names w word good parts.0 fit)
