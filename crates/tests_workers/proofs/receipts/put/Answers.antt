-- The trail that was just seen has one write more.
use Rattle.std.proofs.Common.{sym, subst, arith}
use Rattle.std.specs.Prelude.{IsTrue}
use Rattle.bp_trail.specs.Lists.{some}
use Rattle.tests_workers.specs.Receipts.{writes_under}
use Rattle.tests_workers.proofs.WritesSeen.{told_last, one_more}
use Rattle.tests_workers.proofs.receipts.put.Goals as goal

pub invariant_of-log : goal.invariant_of-log
invariant_of-log g c =
    let lsn = c.saturating_add-lsn.result in
    let told = told_last _ _ _ _ _ _ _ _ _ _ _ c.show.ensures.sees.list_is c.in_ok-written.ensures.outcome.1 in
    let there = subst (λ n. IsTrue (some (writes_under n) c.show.new.session.seen)) c.new.ensures told in
    one_more c.log.inside.state.last lsn c.log.inside.receipt c.show.new.receipt c.log.invariant c.show.ensures.goes_on
    (subst (λ seen. IsTrue (some (writes_under lsn) seen)) (sym c.show.ensures.same) there)
    (omega (arith, c.saturating_add-lsn.ensures))
