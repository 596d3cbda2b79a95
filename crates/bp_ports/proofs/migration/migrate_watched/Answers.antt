-- One page more.
use Rattle.std.proofs.Common.{rules, ◌≡◌, ◌∙◌, sym, ap, subst, length, Err, IfErr}
use Rattle.std.proofs.lemmas.Result.{err_from_is_err_and}
use Rattle.bp_ports.specs.WholeFiles.{MigratesPage}
use Rattle.bp_ports.specs.MigrateFaults.{OnWriteFault, ReadsAFront}
use Rattle.bp_ports.proofs.Migrating.{copies-more, fails-after}
use Rattle.bp_ports.proofs.migration.migrate_watched.Goals as goal

pub loop-page-preserved : goal.loop-page-preserved
loop-page-preserved g c =
    let r = g.I.Read.remaining in
    let w = g.W.Write.contents in
    let size = c.args.geometry.now.size in
    let image = c.migrate_page.new.buffer in
    let fits : length image ≡ size = search rules in (
      copies-more c.loop-page.page size image (r c.args.reader.now) (r c.loop-page.reader) (r c.migrate_page.new.reader) (w c.args.writer.now) (w c.loop-page.writer) (w c.migrate_page.new.writer)
          c.loop-page.invariant.0 fits
          (subst (λ p. MigratesPage p image (r c.loop-page.reader) (r c.migrate_page.new.reader) (w c.loop-page.writer) (w c.migrate_page.new.writer)) c.new-number.ensures c.in_ok-migrate_page.ensures.migrated),
      c.loop-page.invariant.1,
    )

pub returns-in_err-migrate_page-clause-cause : goal.returns-in_err-migrate_page-clause-cause
returns-in_err-migrate_page-clause-cause g c =
    let r = g.I.Read.remaining in
    let w = g.W.Write.contents in
    let size = c.args.geometry.now.size in
    let image = c.migrate_page.new.buffer in
    let fits : length image ≡ size = search rules in
    let is = err_from_is_err_and c.from_residual.result c.from_residual.ensures.1 in
    subst (λ result. IfErr result (λ fault. OnWriteFault fault (ReadsAFront c.args.geometry.now (r c.args.reader.now) (r c.migrate_page.new.reader)))) (sym (is.1 ∙ ap Err is.2))
    (fails-after c.loop-page.page c.args.geometry.now.pages size image (r c.args.reader.now) (r c.loop-page.reader) (r c.migrate_page.new.reader) (w c.args.writer.now) (w c.loop-page.writer)
    c.in_err-migrate_page.field-0.0 c.loop-page.invariant.0 c.loop-page-test.true fits c.in_err-migrate_page.ensures.cause)
