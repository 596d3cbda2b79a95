-- Each reference adds its three rows to those before it.
use Rattle.std.proofs.Common.{◌≡◌, refl, sym, ◌∙◌, ap, subst, ℕ, zero, suc, ◌+◌, ◌*◌, ◌<◌, arith, cond, true, not, ◌||◌, ◌==◌, List, [], ◌∷◌, ◌++◌, length, append_assoc, Some, None, Ok, Err}
use Rattle.std.specs.Prelude.{All, find, filter, reverse}
use Rattle.std.proofs.lemmas.Bool.{eq-eqb, and_from}
use Rattle.std.proofs.lemmas.List.{append-nil}
use Rattle.std.proofs.lemmas.List.Elements.{All-append}
use Rattle.bp_page.specs.declared.refusals.Refusal.{Refusal}
use Rattle.bp_page.specs.Refusals.{number_of}
use Rattle.bp_trail.specs.declared.entries.Call.TheVariants.{Unfix}
use Rattle.bp_trail.specs.declared.entries.Reply.TheVariants.{Done}
use Rattle.bp_scripts.specs.declared.rows.Row.{Row}
use Rattle.bp_scripts.specs.declared.rows.Step.TheVariants as step
use Rattle.bp_scripts.specs.declared.rows.Refused.{Refused}
use Rattle.bp_trail.specs.Event.{Grant, grant, same_grant}
use Rattle.bp_trail.specs.Parameters.{Parameters}
use Rattle.bp_trail.specs.Passes.{passes_out}
use Rattle.bp_trail.specs.Legal.{Legal, is_out}
use Rattle.bp_trail.specs.Pieces.Outcome.{accepted, refused}
use Rattle.bp_trail.specs.Pieces.Manner.{driver}
use Rattle.bp_scripts.specs.Script.{is_pass_of, Follows}
use Rattle.bp_trail.proofs.Counting.{reverse-push}
use Rattle.bp_core.specs.declared.passes.Pass.{Pass}
use Rattle.bp_core.specs.CoreView.{CoreView, with_entry}
use Rattle.bp_core.specs.Outcomes.{KnowsPass, TickOutcome}
use Rattle.bp_device.specs.Drivers.{DrivesFix}
use Rattle.bp_replay.specs.Rows.{DrivesRows, AddsScript}
use Rattle.bp_replay.proofs.PieceSteps.{fix-drives, fix_refused-drives, unfix-drives, no_pass-drives, tick-drives}
use Rattle.bp_replay.proofs.ScriptSteps.{rows-none, rows-step, rows-end, rows-parameters, going-none, going-done, script-done}
use Rattle.bp_trail.specs.declared.totals.Totals.{Totals}
use Rattle.bp_sweep.specs.Cells.{rows_of, script_from, script_of, Counted}
use Rattle.bp_sweep.specs.Referring.{HasRun, IsTallied}

script-more : (i : ℕ) (pages : List ℕ) (page : ℕ) → script_from i (pages ++ page ∷ []) ≡ script_from i pages ++ rows_of (i + length pages) page
script-more i [] page = let same : i ≡ i + 0 = omega arith in ap (λ n. rows_of n page) same
script-more i (p ∷ pages) page =
    let same : i + 1 + length pages ≡ i + length (p ∷ pages) = omega arith in
    ap (λ r. rows_of i p ++ r) (script-more (i + 1) pages page ∙ ap (λ n. script_from (i + 1) pages ++ rows_of n page) same)

three : (rows : List Row) (a b c : Row) → ((rows ++ a ∷ []) ++ b ∷ []) ++ c ∷ [] ≡ rows ++ a ∷ b ∷ c ∷ []
three rows a b c = ap (λ r. r ++ c ∷ []) (append_assoc rows (a ∷ []) (b ∷ [])) ∙ append_assoc rows (a ∷ b ∷ []) (c ∷ [])

abbrev fix-row : ℕ → ℕ → Row
fix-row i page = record { row = 3 * i + 1; client = 0; step = step.Fix page }

abbrev unfix-row : ℕ → ℕ → Row
unfix-row i page = record { row = 3 * i + 2; client = 0; step = step.Unfix page }

abbrev tick-row : ℕ → Row
tick-row i = record { row = 3 * i + 3; client = 0; step = step.Tick 1 }

-- the rows so far with those of one more reference
script-next : (pages : List ℕ) (page : ℕ) → ((script_of pages ++ fix-row (length pages) page ∷ []) ++ unfix-row (length pages) page ∷ []) ++ tick-row (length pages) ∷ [] ≡ script_of (pages ++ page ∷ [])
script-next pages page = three (script_of pages) (fix-row (length pages) page) (unfix-row (length pages) page) (tick-row (length pages)) ∙ sym (script-more 0 pages page ∙ ap (λ n. script_of pages ++ rows_of n page) (let same : 0 + length pages ≡ length pages = omega arith in same))

-- what the pass was given as
abbrev noted : Pass → Grant
noted pass = grant pass.client pass.page pass.serial

-- the fix of the reference with this number was refused, and so its unfix
abbrev not-fixed : ℕ → Refusal → Refused
not-fixed i why = record { row = 3 * i + 1; number = number_of why }

abbrev no-pass : ℕ → Refused
no-pass i = record { row = 3 * i + 2; number = 14 }

abbrev more-refused : List Refused → ℕ → Refusal → List Refused
more-refused refusals i why = refusals ++ not-fixed i why ∷ []

same-itself : (g : Grant) → same_grant g g ≡ true
same-itself g = and_from _ _ (eq-eqb g.client g.client refl) (and_from _ _ (eq-eqb g.page g.page refl) (eq-eqb g.serial g.serial refl))

-- the pass that a fix gave is known
pub pass-known : (old mid : CoreView) (page : ℕ) (pass : Pass) → DrivesFix old 0 page (Ok pass) mid → KnowsPass mid pass
pass-known old mid page pass h =
    subst (λ past. is_out (grant pass.client pass.page pass.serial) (passes_out past) ≡ true) (sym (ap (λ (core : CoreView). core.past) h.2.is))
    (subst (λ out. is_out (grant pass.client pass.page pass.serial) out ≡ true) (sym (h.2.gives old.past))
    (subst (λ g. is_out (grant pass.client pass.page pass.serial) (g ∷ passes_out old.past) ≡ true) (λ i. grant (h.0 i) (h.1 i) pass.serial)
    (ap (λ b. b || is_out (grant pass.client pass.page pass.serial) (passes_out old.past)) (same-itself (grant pass.client pass.page pass.serial)))))

module _ (start old mid : CoreView) (pages : List ℕ) (page : ℕ) (run : HasRun start pages old) where
  -- a reference whose page was fixed
  pub run-fixed : (given new : CoreView) (pass : Pass) → DrivesFix old 0 page (Ok pass) mid → given ≡ with_entry mid pass.client (Unfix pass.serial pass.page) Done → TickOutcome {A = Unit {0}} given 0 1 (Ok tt) new
      → HasRun start (pages ++ page ∷ []) new
  run-fixed given new pass h is ticks = record {
    refusals = run.refusals;
    driven = subst (λ rows. DrivesRows start rows run.refusals [] new) (script-next pages page) ticked;
    went_on = run.went_on;
  }
    where
      fixed : DrivesRows start (script_of pages ++ fix-row (length pages) page ∷ []) run.refusals (noted pass ∷ []) mid
      fixed = rows-step start old mid (script_of pages) (fix-row (length pages) page) accepted run.refusals run.refusals [] (noted pass ∷ []) run.driven (fix-drives old mid [] (noted pass ∷ []) 0 page pass h refl) refl

      passes : is_pass_of 0 page (noted pass) ≡ true
      passes = and_from (pass.client == 0) (pass.page == page) (eq-eqb pass.client 0 h.0) (eq-eqb pass.page page h.1)

      found : find (is_pass_of 0 page) (reverse (noted pass ∷ [])) ≡ Some (noted pass)
      found = ap (λ b. cond b (Some (noted pass)) None) passes

      left : [] ≡ filter (λ (h : Grant). not (h.serial == pass.serial)) (noted pass ∷ [])
      left = sym (ap (λ b. cond (not b) (noted pass ∷ []) []) (eq-eqb pass.serial pass.serial refl))

      unfixed : DrivesRows start ((script_of pages ++ fix-row (length pages) page ∷ []) ++ unfix-row (length pages) page ∷ []) run.refusals [] given
      unfixed = rows-step start mid given (script_of pages ++ fix-row (length pages) page ∷ []) (unfix-row (length pages) page) accepted run.refusals run.refusals (noted pass ∷ []) [] fixed
          (unfix-drives mid given (noted pass ∷ []) [] 0 page (noted pass) (rows-end start mid (script_of pages ++ fix-row (length pages) page ∷ []) run.refusals (noted pass ∷ []) fixed) found is left) refl

      ticked : DrivesRows start (((script_of pages ++ fix-row (length pages) page ∷ []) ++ unfix-row (length pages) page ∷ []) ++ tick-row (length pages) ∷ []) run.refusals [] new
      ticked = rows-step start given new ((script_of pages ++ fix-row (length pages) page ∷ []) ++ unfix-row (length pages) page ∷ []) (tick-row (length pages)) accepted run.refusals run.refusals [] [] unfixed
          (tick-drives given new [] 0 1 (Ok tt) ticks) refl

  -- a reference whose fix was refused, or whose read failed
  pub run-passed : (new : CoreView) (why : Refusal) → number_of why < 20 → DrivesFix old 0 page (Err why) mid → TickOutcome {A = Unit {0}} mid 0 1 (Ok tt) new → HasRun start (pages ++ page ∷ []) new
  run-passed new why small h ticks = record {
    refusals = (more-refused run.refusals (length pages) why ++ no-pass (length pages) ∷ []);
    driven = subst (λ rows. DrivesRows start rows (more-refused run.refusals (length pages) why ++ no-pass (length pages) ∷ []) [] new) (script-next pages page) ticked;
    went_on = All-append (λ (r : Refused). r.number < 20) (more-refused run.refusals (length pages) why) ((no-pass (length pages)) ∷ []) (All-append (λ (r : Refused). r.number < 20) run.refusals ((not-fixed (length pages) why) ∷ []) run.went_on (one (not-fixed (length pages) why) small)) (one (no-pass (length pages)) (omega arith));
  }
    where
      one : (r : Refused) → r.number < 20 → All (λ (r : Refused). r.number < 20) (r ∷ [])
      one r is zero d within = is
      one r is (suc k) d within = absurd (omega arith)

      fixed : DrivesRows start (script_of pages ++ fix-row (length pages) page ∷ []) (more-refused run.refusals (length pages) why) [] mid
      fixed = rows-step start old mid (script_of pages) (fix-row (length pages) page) (refused (number_of why)) run.refusals (more-refused run.refusals (length pages) why) [] [] run.driven (fix_refused-drives old mid [] 0 page why h) (reverse-push run.refusals (not-fixed (length pages) why))

      unfixed : DrivesRows start ((script_of pages ++ fix-row (length pages) page ∷ []) ++ unfix-row (length pages) page ∷ []) (more-refused run.refusals (length pages) why ++ no-pass (length pages) ∷ []) [] mid
      unfixed = rows-step start mid mid (script_of pages ++ fix-row (length pages) page ∷ []) (unfix-row (length pages) page) (refused 14) (more-refused run.refusals (length pages) why) (more-refused run.refusals (length pages) why ++ no-pass (length pages) ∷ []) [] [] fixed
          (no_pass-drives mid [] 0 page (step.Unfix page) [] (λ n. Unfix n page) (λ said piece outcome w. w) refl) (reverse-push (more-refused run.refusals (length pages) why) (no-pass (length pages)))

      ticked : DrivesRows start (((script_of pages ++ fix-row (length pages) page ∷ []) ++ unfix-row (length pages) page ∷ []) ++ tick-row (length pages) ∷ []) (more-refused run.refusals (length pages) why ++ no-pass (length pages) ∷ []) [] new
      ticked = rows-step start mid new ((script_of pages ++ fix-row (length pages) page ∷ []) ++ unfix-row (length pages) page ∷ []) (tick-row (length pages)) accepted (more-refused run.refusals (length pages) why ++ no-pass (length pages) ∷ []) (more-refused run.refusals (length pages) why ++ no-pass (length pages) ∷ []) [] [] unfixed
          (tick-drives mid new [] 0 1 (Ok tt) ticks) refl

pub run-none : (start : CoreView) → HasRun start [] start
run-none start = record { refusals = []; driven = rows-none start; went_on = λ k d within. absurd (omega arith) }

pub run-parameters : (start core : CoreView) (pages : List ℕ) → HasRun start pages core → core.parameters ≡ start.parameters
run-parameters start core pages run = rows-parameters start core (script_of pages) run.refusals [] run.driven

-- all references over a new core
pub run-counted : (c : Parameters) (start core : CoreView) (pages : List ℕ) (totals : Totals) → start.parameters ≡ c → start.past ≡ [] → HasRun start pages core → IsTallied core totals
    → Legal core.parameters core.past → Counted c pages totals
run-counted c start core pages totals made none run tallied legal = record {
  past = core.past;
  refusals = run.refusals;
  legal = subst (λ p. Legal p core.past) (run-parameters start core pages run ∙ made) legal;
  follows = subst (λ past. Follows driver (script_of pages) past run.refusals) (sym whole) added.follows;
  went_on = run.went_on;
  totals_are = tallied.counted;
}
  where
    added : AddsScript start (script_of pages) run.refusals core
    added = script-done start core core (script_of pages) run.refusals [] run.driven (going-done core core [] [] (going-none core []) refl)

    whole : core.past ≡ added.said
    whole = ap (λ (v : CoreView). v.past) added.is ∙ ap (λ past. added.said ++ past) none ∙ append-nil added.said
