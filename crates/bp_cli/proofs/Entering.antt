-- A walk without a fault stops at no call for help.
use Rattle.std.proofs.Common.{◌≡◌, ℕ, ◌&&◌, not, if◌then◌else◌, true, false, Bool, codes, refl, List, [], ◌∷◌, fold, Option, Some, None, IfSome, is_some}
use Rattle.std.specs.Str.{bytes_eq}
use Rattle.clap.specs.Lexer.{long_of, short_of}
use Rattle.clap.specs.Kinds.{or_else}
use Rattle.clap.specs.declared.error.kind.ErrorKind.TheVariants.{DisplayHelp, InvalidSubcommand}
use Rattle.clap.specs.Faults.{other_fault, step_fault, turn_fault, walk_fault, word_fault}
use Rattle.clap.specs.Simple.{Shape}
use Rattle.clap.specs.Walk.{Held, Names, Outcome, Rule, Step, Text, Waiting, Walk, after_flag, after_step, arg_by_index, arg_by_long, bundle, done, idle, long_met, long_or_other, next, option, plain, plain_word, positional, refused, short_or_plain, subcommand, subcommand_met, subcommand_or_other, to_positional, trailing, value, waits, walked, walked_from, word_met}
use Rattle.bp_cli.proofs.Fits.{or_else-nil}

-- the walk has met no subcommand, or one of another name
abbrev pub NotHelp : Option (Text × List Text) → Type 0
NotHelp stop = IfSome stop (λ p. bytes_eq p.0 (codes "help") ≡ false)

abbrev IsOther : Step → Type 0
IsOther (subcommand name) = bytes_eq name (codes "help") ≡ false
IsOther _ = Unit {0}

plain_other : (c : List Rule) (waiting : Waiting) (word : Text) (h : Held) → IsOther (plain_word c waiting word h).1
plain_other c (option id) word h = tt
plain_other c idle word h = tt
plain_other c positional word h = tt

after_other : (c : List Rule) (waiting : Waiting) (word : Text) (h : Held) (o : Outcome) → IsOther (after_flag c waiting word h o).1
after_other c waiting word h done = tt
after_other c waiting word h (waits id) = tt
after_other c waiting word h plain = plain_other c waiting word h
after_other c waiting word h refused = plain_other c waiting word h

flag_other : (c : List Rule) (waiting : Waiting) (word : Text) (o : Option (Text × Option Text)) (h : Held) → IsOther (long_or_other c waiting word o h).1
flag_other c waiting word (Some p) h =
    let met = long_met c (arg_by_long c p.0) p.1 h in
    after_other c waiting word met.0 met.1
flag_other c waiting word None h = go (short_of word)
  where
    go : (o : Option Text) → IsOther (short_or_plain c waiting word o h).1
    go None = plain_other c waiting word h
    go (Some flags) = after_other c waiting word (bundle c flags h).0 (bundle c flags h).1

word_other : (s : Shape) (names : Names) (is_trailing : Bool) (waiting : Waiting) (position : ℕ) (word : Text) (h : Held) → s.disable_help_subcommand ≡ false
    → word_fault s names is_trailing waiting word h ≡ [] → IsOther (word_met s.rules names is_trailing waiting position word h).1
word_other s names true waiting position word h helps fault = tt
word_other s names false waiting position word h helps fault = go (subcommand_met names waiting word) fault
  where
    unhelped : (b d : Bool) → d ≡ false → (if b && not d then DisplayHelp ∷ InvalidSubcommand ∷ [] else []) ≡ [] → b ≡ false
    unhelped false d is e = refl
    unhelped true false is e = cc
    unhelped true true is e = cc

    other : (b : Bool) → IsOther (if b then (h, trailing position) else long_or_other s.rules waiting word (long_of word) h).1
    other true = tt
    other false = flag_other s.rules waiting word (long_of word) h

    go : (o : Option Text) → other_fault s o word h ≡ [] → IsOther (subcommand_or_other s.rules o waiting position word h).1
    go (Some name) e = unhelped (bytes_eq name (codes "help")) s.disable_help_subcommand helps e
    go None e = other (bytes_eq word (45 ∷ 45 ∷ []))

step_not_help : (c : List Rule) (word : Text) (w : Walk) (h : Held) (step : Step) → IsOther step → w.stopped ≡ None → NotHelp (after_step c word w h step).stopped
step_not_help c word w h (next waiting) other none = rw none tt
step_not_help c word w h (trailing position) other none = rw none tt
step_not_help c word w h (subcommand name) other none = other
step_not_help c word w h value other none = go (arg_by_index c w.position)
  where
    go : (o : Option Rule) → NotHelp (to_positional c o word w h).stopped
    go None = rw none tt
    go (Some a) = tt

turn_not_help : (s : Shape) (names : Names) (w : Walk) (word : Text) → s.disable_help_subcommand ≡ false → turn_fault s names w word ≡ [] → NotHelp w.stopped
    → NotHelp (walked s.rules names w word).stopped
unfolding walked
turn_not_help s names w word helps fault fine = go w.stopped refl fault fine
  where
    met : Held × Step
    met = word_met s.rules names w.is_trailing w.waiting w.position word w.held

    go : (o : Option (Text × List Text)) → w.stopped ≡ o
        → (if is_some o then [] else or_else (word_fault s names w.is_trailing w.waiting word w.held) (step_fault s w.position met.0 met.1)) ≡ []
        → NotHelp o → NotHelp (walked_from s.rules names o w word).stopped
    go (Some p) is e fine = fine
    go None is e fine =
        let parts = or_else-nil (word_fault s names w.is_trailing w.waiting word w.held) (step_fault s w.position met.0 met.1) e in
        step_not_help s.rules word w met.0 met.1 (word_other s names w.is_trailing w.waiting w.position word w.held helps parts.0) is

-- a walk without a fault
pub walk_not_help : (s : Shape) (names : Names) (w : Walk) (words : List Text) → s.disable_help_subcommand ≡ false → walk_fault s names w words ≡ [] → NotHelp w.stopped
    → NotHelp (fold (walked s.rules names) w words).stopped
unfolding walk_fault
walk_not_help s names w [] helps fault fine = fine
walk_not_help s names w (word ∷ rest) helps fault fine =
    let parts = or_else-nil (turn_fault s names w word) (walk_fault s names (walked s.rules names w word) rest) fault in
    walk_not_help s names (walked s.rules names w word) rest helps parts.1 (turn_not_help s names w word helps parts.0 fine)
