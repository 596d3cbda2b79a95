-- Why a run is refused.
use Rattle.std.proofs.Common.{◌≡◌, sym, ◌∙◌, ap, subst, Result, Ok, Err}
use Rattle.std.specs.Prelude.{OnErr}
use Rattle.bp_page.specs.declared.refusals.Refusal.{Refusal}
use Rattle.bp_page.specs.declared.refusals.Refusal.TheVariants as refusal
use Rattle.bp_trail.specs.Parameters.{Parameters}
use Rattle.bp_core.specs.Outcomes.{IsFit}
use Rattle.bp_workers.specs.Runs.{RunAnswers as WorkersAnswer}
use Rattle.bp_replay.specs.ScriptRuns.{RunAnswers}

-- no core can be made
pub for_settings : {A : Type 0} (c : Parameters) (result : Result A Refusal) (why : Refusal) → result ≡ Err why → why ≡ refusal.BadSettings → ¬ IsFit c → RunAnswers c result
for_settings c result why is same unfit = subst (RunAnswers c) (sym (is ∙ ap Err same)) unfit

-- the workers are refused
pub for_workers : {A B : Type 0} (c : Parameters) (can_run : Type 0) (result : Result A Refusal) (ran : Result B Refusal) (why : Refusal) → result ≡ Err why → WorkersAnswer {A = B} can_run (Err why) → can_run → IsFit c → RunAnswers c result
for_workers c can_run result ran refusal.BadSettings is answers can fit = absurd (answers can)
for_workers c can_run result ran refusal.OutOfMemory is answers can fit = subst (RunAnswers c) (sym is) fit
for_workers c can_run result ran _ is answers can fit = absurd answers

-- what was left is not joined
pub not_joined : {A : Type 0} (c : Parameters) (result : Result A Refusal) → IsFit c → OnErr result (result ≡ Err refusal.OutOfMemory) → RunAnswers c result
not_joined c (Ok done) fit h = fit
not_joined c (Err why) fit h = subst (RunAnswers c) (sym h) fit
