-- The core and the list get the discard, or neither gets one.
use Rattle.std.proofs.Common.{refl, rules, subst, Err}
use Rattle.bp_core.specs.Outcomes.{DiscardOutcome}
use Rattle.bp_session_log.proofs.Asking.{discard_refused}
use Rattle.bp_session_log.proofs.Making.{makes_one, makes_told}
use Rattle.bp_session_log.proofs.events.DiscardEvent.ask.Goals as goal

pub returns-in-Ok-clause-makes : goal.returns-in-Ok-clause-makes
returns-in-Ok-clause-makes g c = makes_one _ _ _ _ _ _ refl c.tell.ensures.told (search rules)

pub returns-in-Err-clause-makes : goal.returns-in-Err-clause-makes
returns-in-Err-clause-makes g c =
    let told = c.tell_refused.ensures in
    let asked = subst (λ client. DiscardOutcome c.args.core.now client c.args.self.0 (Err c.in-Err.refusal) c.discard.new.self) c.client.ensures c.in-Err.ensures.outcome in
    makes_told _ _ _ _ _ _ told.owner told.said (discard_refused _ _ _ _ _ asked).is
