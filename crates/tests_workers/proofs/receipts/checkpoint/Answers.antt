-- What comes later is of a later record.
use Rattle.std.proofs.Common.{◌≡◌, subst, ◌∙◌, ap, arith}
use Rattle.bp_workers.specs.Sharing.{SharedValue}
use Rattle.tests_workers.specs.Receipts.{HasWrites}
use Rattle.tests_workers.proofs.WritesSeen.{all_stay, redo_may_begin}
use Rattle.tests_workers.proofs.receipts.checkpoint.Goals as goal

pub returns-clause-point : goal.returns-clause-point
returns-clause-point g c =
    let last = c.behind-log-2.inside.state.last in
    let is : c.behind-log-2.inside.receipt ≡ c.show.new.receipt = ap (λ (v : SharedValue _). v.seen) (c.behind-log-2.view_is ∙ c.deref.ensures) in
    let has : HasWrites last c.show.new.session.seen = subst (HasWrites last) (is ∙ c.show.ensures.same) c.behind-log-2.invariant in
    let later = all_stay last _ _ (all_stay last _ _ has c.flush_all-flushed.ensures.flushes.acted.goes_on) c.redo_from-least.ensures.sees.goes_on in
    redo_may_begin last c.new-next.result _ _ c.redo_from-least.result later c.redo_from-least.ensures.least (omega (arith, c.new-next.ensures, c.saturating_add.ensures)) c.lesser.ensures
