-- A run that ends well, or for which there was no memory, could be made.
use Rattle.std.proofs.Common.{ℕ, ◌≡◌, ◌∙◌, ap, sym, subst, rules, vec_len, List, Result, Ok, Err}
use Rattle.std.proofs.lemmas.Bool.{false≢true}
use Rattle.bp_page.specs.declared.limits.Geometry.{Geometry}
use Rattle.bp_page.specs.declared.refusals.Refusal.{Refusal}
use Rattle.bp_page.specs.declared.refusals.Refusal.TheVariants as refusal
use Rattle.bp_core.specs.CoreView.{CoreView}
use Rattle.bp_core.specs.declared.config.Config.{Config}
use Rattle.bp_workers.specs.Runs.{FitTogether, CanRunUpTo, RunAnswers}
use Rattle.bp_workers.proofs.run.run_sharing_workers.Goals as goal

-- what is said of the ports and the count that were lent
lent : {P : Type 0} (geometry_of : P → Geometry) (config : Config) (ports given : List P) (count counted : ℕ) → given ≡ ports → counted ≡ count → FitTogether geometry_of config given counted → FitTogether geometry_of config ports count
lent geometry_of config ports given count counted same is fit = subst (λ n. FitTogether geometry_of config ports n) is (subst (λ ps. FitTogether geometry_of config ps counted) same fit)

abbrev why_of : {A : Type 0} → Result A Refusal → Refusal
why_of (Ok made) = refusal.Busy
why_of (Err why) = why

-- (of the type of a run nothing is said)
no_memory : (A : Type 0) (can_run : Type 0) (why : Refusal) → why ≡ refusal.OutOfMemory → can_run → RunAnswers {A = A} can_run (Err why)
no_memory A can_run why is can = subst (λ w. RunAnswers {A = A} can_run (Err w)) (sym is) can

pub returns-in-Ok-ran-clause-answers : goal.returns-in-Ok-ran-clause-answers
returns-in-Ok-ran-clause-answers g c =
    let fit = lent g.P.Port.geometry_of c.args.config c.args.ports.items c.deref.result.now (vec_len c.args.workers) c.len.result c.deref.ensures.value c.len.ensures (c.fit_together.ensures.0 (search (rules, c.if-not-fit_together.false))) in
    let can : CanRunUpTo g.K.Keeper.MOST_ROOM g.P.Port.geometry_of c.args.config c.args.ports.items (vec_len c.args.workers) = record { fit = fit; core = search rules } in
    subst (RunAnswers (CanRunUpTo g.K.Keeper.MOST_ROOM g.P.Port.geometry_of c.args.config c.args.ports.items (vec_len c.args.workers))) (sym c.in-Ok-ran.is) can

pub returns-in-Err-new-clause-answers : goal.returns-in-Err-new-clause-answers
returns-in-Err-new-clause-answers g c =
    let fit = lent g.P.Port.geometry_of c.args.config c.args.ports.items c.deref.result.now (vec_len c.args.workers) c.len.result c.deref.ensures.value c.len.ensures (c.fit_together.ensures.0 (search (rules, c.if-not-fit_together.false))) in
    let can : CanRunUpTo g.K.Keeper.MOST_ROOM g.P.Port.geometry_of c.args.config c.args.ports.items (vec_len c.args.workers) = record { fit = fit; core = search rules } in
    no_memory ℕ _ _ (ap why_of c.in-Err-new.ensures.refused) can

pub run_named-ran-requires-clause-of_pool : goal.run_named-ran-requires-clause-of_pool
run_named-ran-requires-clause-of_pool g c κs within k d lt =
    let fit = lent g.P.Port.geometry_of c.args.config c.args.ports.items c.deref.result.now (vec_len c.args.workers) c.len.result c.deref.ensures.value c.len.ensures (c.fit_together.ensures.0 (search (rules, c.if-not-fit_together.false))) in
    let alike = fit.of_file k d lt in
    let made = c.in-Ok.ensures.outcome.1 in
    record {
      pages = ap (λ (geometry : Geometry). geometry.pages) alike ∙ sym (ap (λ (core : CoreView). core.parameters.pages) made);
      size = ap (λ (geometry : Geometry). geometry.size) alike ∙ sym (ap (λ (core : CoreView). core.parameters.size) made);
    }

pub returns-then-not-fit_together : goal.returns-then-not-fit_together
returns-then-not-fit_together g c = record {
  legal = tt;
  parameters = tt;
  left = tt;
  agrees = tt;
  answers = λ can. absurd (false≢true (sym c.if-not-fit_together.true ∙ c.fit_together.ensures.1 (lent g.P.Port.geometry_of c.args.config c.deref.result.now c.args.ports.items c.len.result (vec_len c.args.workers) (sym c.deref.ensures.value) (sym c.len.ensures) can.fit)));
}
