-- The pool's own fix leaves a session that is given a pass roomy.
use Rattle.std.proofs.Common.{◌≢◌, OnOk, Result, Ok, Err}
use Rattle.bp_page.specs.declared.refusals.Refusal.{Refusal}
use Rattle.bp_page.specs.declared.refusals.Refusal.TheVariants as refusal
use Rattle.bp_core.specs.declared.passes.Pass.{Pass}
use Rattle.bp_shared.specs.Sessions.{SessionValue, IsRoomy}
use Rattle.bp_workers.proofs.durable.SharedPoolAsked.ask_fix.Goals as goal

roomy_fixed : (answer : Result Pass Refusal) (session : SessionValue) → (answer ≢ Err refusal.OutOfMemory → IsRoomy session) → OnOk answer (IsRoomy session)
roomy_fixed (Ok pass) session has = has (λ lacks. let is = lacks in cc)
roomy_fixed (Err why) session has = tt

pub returns-clause-roomy : goal.returns-clause-roomy
returns-clause-roomy g c = roomy_fixed _ c.fix.new.session c.fix.ensures.fix.roomy
