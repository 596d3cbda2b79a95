-- One entry, or none.
use Rattle.std.proofs.Common.{◌≡◌, ◌∙◌, ap, Err}
use Rattle.std.proofs.lemmas.Result.{err_from_is_err_and}
use Rattle.bp_page.specs.declared.refusals.Refusal.TheVariants as refusal
use Rattle.bp_replay.proofs.Once.{stays}
use Rattle.bp_replay.proofs.Stepping.{purge_said, purge_refused, purge_known}
use Rattle.bp_replay.proofs.steps.purge.Goals as goal

pub returns-clause-same : goal.returns-clause-same
returns-clause-same g c = stays _ _ _ _ _ c.purge.ensures.keeps

pub returns-clause-outcome : goal.returns-clause-outcome
returns-clause-outcome g c = purge_said _ _ _ _ c.in_ok-purge.ensures.outcome

pub returns-in_err-purge-clause-same : goal.returns-in_err-purge-clause-same
returns-in_err-purge-clause-same g c = stays _ _ _ _ _ c.purge.ensures.keeps

pub returns-in_err-purge-clause-known : goal.returns-in_err-purge-clause-known
returns-in_err-purge-clause-known g c =
    let is = err_from_is_err_and c.from_residual.result c.from_residual.ensures.1 in
    rw (is.1 ∙ ap Err is.2) (λ same. purge_known c.args.client.now.session.client c.in_err-purge.field-0.0 c.args.client.now.session.said c.purge.new.session.said c.in_err-purge.ensures.outcome (let no : c.in_err-purge.field-0.0 ≡ refusal.UnknownTicket = cc in no))

pub returns-in_err-purge-clause-outcome : goal.returns-in_err-purge-clause-outcome
returns-in_err-purge-clause-outcome g c =
    let is = err_from_is_err_and c.from_residual.result c.from_residual.ensures.1 in
    rw (is.1 ∙ ap Err is.2) (purge_refused c.args.client.now.session.client c.in_err-purge.field-0.0 c.args.client.now.session.said c.purge.new.session.said c.in_err-purge.ensures.outcome)
