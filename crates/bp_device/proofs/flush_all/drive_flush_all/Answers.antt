-- Each flush saves one page more.
use Rattle.std.proofs.Common.{refl, sym, ◌∙◌, subst, ◌+◌, Ok, Err, arith}
use Rattle.bp_core.specs.Unsaved.{AreSaved}
use Rattle.bp_device.specs.FlushAll.{FlushesEach}
use Rattle.bp_device.specs.FlushAll.FlushesEach.{none, page}
use Rattle.bp_device.proofs.Saving.{flush-keeps, flush-parameters, saved-up, saved-more-pages}
use Rattle.bp_device.proofs.Working.{none-yet, work-join}
use Rattle.bp_device.proofs.flush_all.drive_flush_all.Goals as goal

pub loop-page-init : goal.loop-page-init
loop-page-init g c = record { flushed = none; saved = λ p z l. absurd (omega arith); parameters = refl; work = none-yet _ _ c.args.core.now c.args.port.now; geometry = refl }

pub loop-page-preserved : goal.loop-page-preserved
loop-page-preserved g c =
    let old = c.loop-page.core in
    let new = c.drive_flush.new.core in
    let next = sym c.number-number.ensures in
    let d = c.in-Ok.ensures.outcome in
    record {
      flushed = subst (λ n. FlushesEach c.args.client c.args.core.now (n + 1) new) next (page c.in-Some.page c.in-Ok.field-0 c.loop-page.invariant.flushed c.in-Some.ensures d);
      saved = subst (λ n. AreSaved 0 (n + 1) new.past) next
          (saved-more-pages old new c.args.client c.in-Some.page c.loop-page.from old.parameters.pages c.in-Ok.field-0 c.loop-page.invariant.saved c.in-Some.ensures c.keeps_the_rules.ensures.legal d);
      parameters = flush-parameters old new c.args.client c.in-Some.page (Ok c.in-Ok.field-0) d ∙ c.loop-page.invariant.parameters;
      work = work-join _ _ _ _ _ _ _ _ c.loop-page.invariant.work c.drive_flush.ensures.work;
      geometry = c.drive_flush.ensures.geometry ∙ c.loop-page.invariant.geometry;
    }

pub returns-in-Err-clause-outcome : goal.returns-in-Err-clause-outcome
returns-in-Err-clause-outcome g c =
    let old = c.loop-page.core in
    record {
      next = c.loop-page.from;
      mid = old;
      flushed = c.loop-page.invariant.flushed;
      found = c.in-Some.ensures;
      refused = c.in-Err.ensures.outcome;
      saved = λ p z l. flush-keeps old c.drive_flush.new.core c.args.client c.in-Some.page p (Err c.in-Err.why) c.in-Err.ensures.outcome
          (saved-up c.loop-page.from c.in-Some.page old.past c.loop-page.invariant.saved c.in-Some.ensures.3 p z l);
    }

pub returns-in-Err-clause-work : goal.returns-in-Err-clause-work
returns-in-Err-clause-work g c = work-join _ _ _ _ _ _ _ _ c.loop-page.invariant.work c.drive_flush.ensures.work
