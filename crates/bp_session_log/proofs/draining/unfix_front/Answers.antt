-- The front one is not out.
use Rattle.std.proofs.Common.{refl, ap, inr}
use Rattle.bp_core.specs.CoreView.{CoreView}
use Rattle.bp_session_log.proofs.Drains.{stopped_at}
use Rattle.bp_session_log.proofs.draining.unfix_front.Goals as goal

pub returns-in-Err-clause-front : goal.returns-in-Err-clause-front
returns-in-Err-clause-front g c =
    let refused = c.in-Err.ensures.outcome in
    let as_noted = c.pass.ensures in
    (ap (λ (core : CoreView). core.past) refused.2, refl, stopped_at c.args.client c.args.core.now.past c.peek_known.result.now _ c.peek_known.ensures (inr (rw (as_noted.client, as_noted.page, as_noted.serial) at refused.1)))
