-- A fix that is tried again. What the pool says of its calls, `fixes` and `ticks`, leads from the
-- client's list as it was to the list as it is.
use Rattle.std.specs.Prelude.{◌≡◌, ℕ, suc, ◌≤◌, ◌<◌, Bool, true, false, if◌then◌else◌, ◌∷◌, Result, Ok, Err}
use Rattle.bp_page.specs.declared.refusals.Refusal.{Refusal}
use Rattle.bp_page.specs.declared.refusals.Refusal.TheVariants as refusal
use Rattle.bp_core.specs.declared.passes.Pass.{Pass}
use Rattle.bp_trail.specs.declared.entries.Call.TheVariants.{Tick}
use Rattle.bp_trail.specs.declared.entries.Reply.TheVariants.{Done}
use Rattle.bp_trail.specs.Trail.{Trail}
use Rattle.bp_trail.specs.Pieces.{by}

-- by a fix of a page, and by a tick of so many ticks, with this answer to the client
abbrev pub Fixes : Type 1
Fixes = ℕ → ℕ → Result Pass Refusal → Trail → Trail → Type 0

abbrev pub Ticks : Type 1
Ticks = ℕ → ℕ → Result (Unit {0}) Refusal → Trail → Trail → Type 0

-- what comes between a refused fix and the next try. Where the log was wanted, the mark is raised
-- so far; where no page may leave, the clock was moved, if it was not before
abbrev pub GoesOn : ℕ → ℕ → ℕ → Refusal → Bool → Bool → Trail → Trail → Type 0
GoesOn client steps raised (refusal.NeedLog lsn) ticked now said after =
    (lsn ≤ raised) × (now ≡ ticked) × (after ≡ said)
GoesOn client steps raised refusal.NoVictim ticked now said after =
    (now ≡ true) × (after ≡ (if ticked then said else by client (Tick steps) Done ∷ said))
GoesOn client steps raised _ ticked now said after = ⊥

-- or what is answered for it: its own refusal, where the log is not durable so far, or nothing here
-- overcomes it; and where no page may leave, the refusal of the clock's first move
abbrev pub GivesUp : Ticks → ℕ → ℕ → ℕ → Refusal → Bool → Refusal → Trail → Trail → Type 0
GivesUp ticks client steps durable (refusal.NeedLog lsn) ticked answer said after =
    (durable < lsn) × (answer ≡ refusal.NeedLog lsn) × (after ≡ said)
GivesUp ticks client steps durable refusal.NoVictim ticked answer said after =
    (ticked ≡ false) × ticks client steps (Err answer) said after × (after ≡ said)
GivesUp ticks client steps durable why ticked answer said after = (answer ≡ why) × (after ≡ said)

-- fixes, each refused but the last, where so many more may be tried and the clock was moved or not:
-- the log is durable, and the mark raised, up to these LSNs in the end
pub data Tries (fixes : Fixes) (ticks : Ticks) (client page steps durable raised : ℕ) : ℕ → Bool
    → Result Pass Refusal → Trail → Trail → Type 0 where
  at_last : {ticked : Bool} {answer : Result Pass Refusal} {said after : Trail}
      → fixes client page answer said after
      → Tries fixes ticks client page steps durable raised 0 ticked answer said after
  fixed : {left : ℕ} {ticked : Bool} {pass : Pass} {said after : Trail}
      → fixes client page (Ok pass) said after
      → Tries fixes ticks client page steps durable raised left ticked (Ok pass) said after
  given_up : {left : ℕ} {ticked : Bool} {answer : Refusal} {said after : Trail} (why : Refusal)
      (tried : Trail)
      → fixes client page (Err why) said tried
      → GivesUp ticks client steps durable why ticked answer tried after
      → Tries fixes ticks client page steps durable raised (suc left) ticked (Err answer) said after
  again : {left : ℕ} {ticked now : Bool} {answer : Result Pass Refusal} {said after : Trail}
      (why : Refusal) (tried mid : Trail)
      → fixes client page (Err why) said tried
      → GoesOn client steps raised why ticked now tried mid
      → Tries fixes ticks client page steps durable raised left now answer mid after
      → Tries fixes ticks client page steps durable raised (suc left) ticked answer said after
