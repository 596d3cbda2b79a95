-- What the fix said, as the row's step. Where memory is refused, nothing is asked.
use Rattle.std.proofs.Common.{◌≡◌, refl, sym, ap, ◌∙◌, [], ◌∷◌, ◌++◌, Err}
use Rattle.std.proofs.lemmas.Result.{err_from_is_err_and}
use Rattle.bp_page.specs.declared.refusals.Refusal.TheVariants as refusal
use Rattle.bp_scripts.specs.declared.rows.Step.TheVariants as step
use Rattle.bp_trail.specs.Event.{Grant}
use Rattle.bp_trail.specs.Pieces.Outcome.{refused}
use Rattle.bp_trail.specs.Pieces.FixPiece.{no_memory}
use Rattle.bp_trail.specs.Pieces.FixGoesOn.{begins}
use Rattle.bp_shared.proofs.Working.{none-yet}
use Rattle.bp_shared.proofs.Writing.{work_of_some}
use Rattle.bp_replay.proofs.Holding.{fix-holds, refused_fix-holds}
use Rattle.bp_replay.proofs.Once.{as-it-was, stays}
use Rattle.bp_replay.proofs.Stepping.{fix_said, fix_refused, none_said}
use Rattle.bp_replay.proofs.steps.fix.Goals as goal

pub returns-in_err-reserve : goal.returns-in_err-reserve
returns-in_err-reserve g c =
    let is = err_from_is_err_and c.from_residual.result c.from_residual.ensures.1 in
    rw (is.1 ∙ ap Err is.2) (record {
      same = as-it-was _;
      known = λ same. cc;
      work = none-yet _ _ _ _;
      outcome = none_said c.args.client.now.session.client (step.Fix c.args.page) (refused 22) c.args.client.now.session.said c.args.client.now.session.said (no_memory begins) refl;
      held = c.reserve.ensures.passes ∙ c.requires.held;
    })

pub returns-in_err-pass : goal.returns-in_err-pass
returns-in_err-pass g c =
    let gone = c.in_err-pass.ensures in
    let is = err_from_is_err_and c.from_residual-in_err-pass.result c.from_residual-in_err-pass.ensures.1 in
    rw (is.1 ∙ ap Err is.2) (record {
      same = stays _ _ _ _ _ c.fix.ensures.fix.keeps;
      known = λ same. gone.fix.known (let no : c.in_err-pass.field-0.0 ≡ refusal.UnknownTicket = cc in ap Err no);
      work = work_of_some _ _ c.args.client.now.session c.fix.new.session _ _ _ _ gone.work;
      outcome = fix_refused c.args.client.now.session.client c.args.page c.in_err-pass.field-0.0 c.args.client.now.session.said c.fix.new.session.said gone.fix.outcome;
      held = c.reserve.ensures.passes ∙ c.requires.held ∙ sym (refused_fix-holds c.args.client.now.session.client c.args.page c.in_err-pass.field-0.0 c.args.client.now.session.said c.fix.new.session.said gone.fix.outcome);
    })

pub returns : goal.returns
returns g c =
    let done = c.in_ok-pass.ensures in
    record {
      same = stays _ _ _ _ _ c.fix.ensures.fix.keeps;
      known = λ same. cc;
      work = work_of_some _ _ c.args.client.now.session c.fix.new.session _ _ _ _ done.work;
      outcome = fix_said c.args.client.now.session.client c.args.page c.in_ok-pass.pass c.args.client.now.session.said c.fix.new.session.said done.fix.outcome;
      held = fix-holds c.args.client.now.session.client c.args.page c.in_ok-pass.pass c.args.client.now.session.said c.fix.new.session.said c.reserve.new.self.passes c.push.new.self.passes done.fix.outcome (c.reserve.ensures.passes ∙ c.requires.held)
          (c.push.ensures.passes ∙ ap (λ (note : Grant). c.reserve.new.self.passes ++ note ∷ []) c.note.ensures);
    }
