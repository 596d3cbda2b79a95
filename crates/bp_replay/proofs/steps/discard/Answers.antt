-- What the discard said, as the row's step.
use Rattle.std.proofs.Common.{◌≡◌, refl, ap, ◌∙◌, Err}
use Rattle.std.proofs.lemmas.Result.{err_from_is_err_and}
use Rattle.bp_replay.proofs.Holding.{discard-holds}
use Rattle.bp_page.specs.declared.refusals.Refusal.TheVariants as refusal
use Rattle.bp_replay.proofs.Once.{stays}
use Rattle.bp_replay.proofs.Stepping.{discard_said, discard_refused, discard_known}
use Rattle.bp_replay.proofs.steps.discard.Goals as goal

pub returns-in_err-discard : goal.returns-in_err-discard
returns-in_err-discard g c =
    let refused = c.in_err-discard.ensures in
    let is = err_from_is_err_and c.from_residual.result c.from_residual.ensures.1 in
    rw (is.1 ∙ ap Err is.2) (record {
      same = stays _ _ _ _ _ c.discard.ensures.keeps;
      port = refl;
      known = λ same. discard_known _ _ _ _ _ refused.outcome (let is : c.in_err-discard.field-0.0 ≡ refusal.UnknownTicket = cc in is);
      outcome = discard_refused c.args.client.now.session.client c.args.page c.in_err-discard.field-0.0 c.args.client.now.session.said c.discard.new.session.said refused.outcome;
      held = discard-holds c.args.client.now.session.client c.args.page c.discard.result c.args.client.now.session.said c.discard.new.session.said c.discard.ensures.outcome;
    })

pub returns : goal.returns
returns g c =
    let done = c.in_ok-discard.ensures in
    record {
      same = stays _ _ _ _ _ c.discard.ensures.keeps;
      port = refl;
      known = λ same. cc;
      outcome = discard_said c.args.client.now.session.client c.args.page c.in_ok-discard.field-0 c.args.client.now.session.said c.discard.new.session.said done.outcome;
      held = discard-holds c.args.client.now.session.client c.args.page c.discard.result c.args.client.now.session.said c.discard.new.session.said c.discard.ensures.outcome;
    }
