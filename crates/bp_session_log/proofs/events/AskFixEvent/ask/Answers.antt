-- At most one mark, and the fix.
use Rattle.std.proofs.Common.{ap, subst, sym, ◌∙◌, Err}
use Rattle.std.proofs.lemmas.Result.{err_from_is_err_and}
use Rattle.bp_session_log.specs.Turns.{FixTurn}
use Rattle.bp_session_log.proofs.Making.{makes_alike, makes_both, look_one, ask_fix_one, fix_not_looked}
use Rattle.bp_session_log.proofs.events.AskFixEvent.ask.Goals as goal

pub returns-in_err-look-clause-outcome : goal.returns-in_err-look-clause-outcome
returns-in_err-look-clause-outcome g c =
    let is = err_from_is_err_and c.from_residual.result c.from_residual.ensures.1 in
    subst (λ r. FixTurn c.args.book.now.client c.args.self.0 r c.args.book.now.said c.look.new.self.said) (sym (is.1 ∙ ap Err is.2))
    (fix_not_looked c.args.book.now.client c.args.self.0 c.look.new.reader.seen c.args.core.now _ _ _ c.in_err-look.ensures.outcome)

pub returns-clause-makes : goal.returns-clause-makes
returns-clause-makes g c =
    makes_both _ _ _ _ _ _ (makes_alike _ _ _ _ c.look.ensures.adds (look_one c.args.book.now.client _ c.args.core.now _ _ _ c.look.ensures.outcome))
    (makes_alike _ _ _ _ c.ask_fix.ensures.keeps.adds (ask_fix_one _ _ _ _ _ c.ask_fix.ensures.outcome))
