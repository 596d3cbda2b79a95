-- What the flush said, as the row's step.
use Rattle.std.proofs.Common.{◌≡◌, ap, ◌∙◌, Err}
use Rattle.std.proofs.lemmas.Result.{err_from_is_err_and}
use Rattle.bp_page.specs.declared.refusals.Refusal.TheVariants as refusal
use Rattle.bp_shared.proofs.Writing.{work_of_some}
use Rattle.bp_replay.proofs.Holding.{flush-holds}
use Rattle.bp_replay.proofs.Once.{stays}
use Rattle.bp_replay.proofs.Stepping.{flush_said, flush_refused}
use Rattle.bp_replay.proofs.steps.flush.Goals as goal

pub returns-in_err-flush : goal.returns-in_err-flush
returns-in_err-flush g c =
    let refused = c.in_err-flush.ensures in
    let is = err_from_is_err_and c.from_residual.result c.from_residual.ensures.1 in
    rw (is.1 ∙ ap Err is.2) (record {
      same = stays _ _ _ _ _ c.flush.ensures.flush.keeps;
      known = λ same. refused.flush.known (let no : c.in_err-flush.field-0.0 ≡ refusal.UnknownTicket = cc in ap Err no);
      work = work_of_some _ _ c.args.client.now.session c.flush.new.session _ _ _ _ refused.work;
      outcome = flush_refused c.args.client.now.session.client c.args.page c.in_err-flush.field-0.0 c.args.client.now.session.said c.flush.new.session.said refused.flush.outcome;
      held = flush-holds c.args.client.now.session.client c.args.page c.flush.result c.args.client.now.session.said c.flush.new.session.said c.flush.ensures.flush.outcome;
    })

pub returns : goal.returns
returns g c =
    let done = c.in_ok-flush.ensures in
    record {
      same = stays _ _ _ _ _ c.flush.ensures.flush.keeps;
      known = λ same. cc;
      work = work_of_some _ _ c.args.client.now.session c.flush.new.session _ _ _ _ done.work;
      outcome = flush_said c.args.client.now.session.client c.args.page c.in_ok-flush.field-0 c.args.client.now.session.said c.flush.new.session.said done.flush.outcome;
      held = flush-holds c.args.client.now.session.client c.args.page c.flush.result c.args.client.now.session.said c.flush.new.session.said c.flush.ensures.flush.outcome;
    }
