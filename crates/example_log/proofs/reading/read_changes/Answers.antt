use Rattle.std.proofs.Common.{◌∙◌, ap, ℕ, List, length}
use Rattle.std.proofs.lemmas.Bool.{eq-eqb}
use Rattle.example_log.proofs.CommitsRead.{shorter, reads-next}
use Rattle.example_log.proofs.Refusals.{refused-on, no-changes}
use Rattle.example_log.proofs.reading.read_changes.Goals as goal

pub returns-in_err-change-clause-unread : goal.returns-in_err-change-clause-unread
returns-in_err-change-clause-unread c =
    refused-on c.from_residual.result c.in_err-change.field-0.0 _ _ c.from_residual.ensures.1
    (no-changes c.args.lsn c.args.payload.now c.loop-rest.rest.now c.args.into.now.items c.loop-rest.into.items c.loop-rest.invariant
    (λ e. (let yes = c.is_empty.ensures ∙ eq-eqb _ 0 (ap (λ (t : List ℕ). length t) e) in let no = c.loop-rest-test.true in absurd cc))) c.in_err-change.ensures.unread

pub loop-rest-smaller : goal.loop-rest-smaller
loop-rest-smaller c = shorter c.loop-rest.rest.now c.in_ok-change.after.now c.in_ok-change.change c.in_ok-change.ensures.told

pub loop-rest-preserved : goal.loop-rest-preserved
loop-rest-preserved c =
    reads-next c.args.lsn c.args.payload.now c.loop-rest.rest.now c.in_ok-change.after.now c.args.into.now.items c.loop-rest.into.items c.push.new.self.items c.in_ok-change.change
    c.loop-rest.invariant c.in_ok-change.ensures.told c.in_ok-change.ensures.fits c.in_ok-push.ensures.items
