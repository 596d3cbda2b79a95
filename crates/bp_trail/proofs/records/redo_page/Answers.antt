use Rattle.std.proofs.Common.{◌≡◌, Result, Ok, Err, OnErr, true, false, length, subst, sym, ◌∙◌, [], ◌∷◌}
use Rattle.bp_trail.specs.Recovery.{AllFit, records_from}
use Rattle.bp_trail.proofs.Crashes.{fit-at, first-misfit}
use Rattle.bp_trail.proofs.records.redo_page.Goals as goal

pub returns-in_err-redo_record-clause-fits : goal.returns-in_err-redo_record-clause-fits
returns-in_err-redo_record-clause-fits c = λ h.
    let fits = subst (λ n. AllFit n (records_from c.args.from (c.change-item.result ∷ []) c.args.page)) (sym c.loop-change.invariant.same)
    (fit-at (length c.args.image.now) c.args.from c.args.page c.args.log.now c.loop-change.change-index c.change-item.result c.loop-change-test.true c.change-item.is h) in
    let ok : false ≡ true = c.in_err-redo_record.ensures.fits fits in
    cc

on-err : {T E : Type 0} (r : Result T E) (P : Type 0) → P → OnErr r P
on-err (Ok x) P h = tt
on-err (Err e) P h = h

pub returns-in_err-redo_record-clause-stopped : goal.returns-in_err-redo_record-clause-stopped
returns-in_err-redo_record-clause-stopped c =
    on-err c.from_residual.result _
    (first-misfit (length c.args.image.now) c.args.from c.args.page c.args.log.now c.loop-change.change-index c.change-item.result c.args.image.now c.redo_record.new.image c.loop-change-test.true c.change-item.is c.loop-change.invariant.fit
    (λ h. (let ok : false ≡ true = c.in_err-redo_record.ensures.fits (subst (λ n. AllFit n (records_from c.args.from (c.change-item.result ∷ []) c.args.page)) (sym c.loop-change.invariant.same) h) in cc))
    (c.in_err-redo_record.ensures.unchanged ∙ c.loop-change.invariant.image))
