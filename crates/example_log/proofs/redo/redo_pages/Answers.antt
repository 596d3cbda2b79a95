use Rattle.std.proofs.Common.{◌≡◌, [], refl, ◌∙◌, ap, reverse, true, false, Ok, Err, arith}
use Rattle.example_log.specs.Steps.RedoesEach.{no_page}
use Rattle.example_log.proofs.Redoing.{each-next, each-stopped, all-done}
use Rattle.example_log.proofs.redo.redo_pages.Goals as goal

pub loop-page-init : goal.loop-page-init
loop-page-init g c = record { same = refl; did = ([], refl, no_page) }

pub returns-in_err-redo_one-clause-redone : goal.returns-in_err-redo_one-clause-redone
returns-in_err-redo_one-clause-redone g c =
    each-stopped g.P.Port.read_gives g.P.Port.write_gives g.P.Port.sync_gives (g.P.Port.geometry_of c.args.port.now).size c.args.from (reverse c.args.log.now) c.args.port.now c.loop-page.port c.redo_one.new.port
    (g.P.Port.geometry_of c.args.port.now).pages (g.P.Port.geometry_of c.loop-page.port).size c.loop-page.page c.new.result false c.from_residual.result
    (ap (λ d. d.size) c.loop-page.invariant.same) c.new.ensures c.loop-page.invariant.did c.in_err-redo_one.ensures.did refl c.from_residual.ensures.0

pub loop-page-preserved : goal.loop-page-preserved
loop-page-preserved g c = record {
  same = c.redo_one.ensures.same ∙ c.loop-page.invariant.same;
  did =
      each-next g.P.Port.read_gives g.P.Port.write_gives g.P.Port.sync_gives (g.P.Port.geometry_of c.args.port.now).size c.args.from (reverse c.args.log.now) c.args.port.now c.loop-page.port c.redo_one.new.port
      (g.P.Port.geometry_of c.loop-page.port).size c.loop-page.page c.new.result true
      (ap (λ d. d.size) c.loop-page.invariant.same) c.new.ensures c.loop-page.invariant.did c.in_ok-redo_one.ensures.did refl;
}

pub returns-in-Ok-clause-redone : goal.returns-in-Ok-clause-redone
returns-in-Ok-clause-redone g c =
    let pages = ap (λ d. d.pages) c.geometry-pages.ensures in
    let at : c.loop-page.page ≡ c.geometry-pages.result.pages = omega arith in
    all-done g.P.Port.read_gives g.P.Port.write_gives g.P.Port.sync_gives (g.P.Port.geometry_of c.args.port.now).size c.args.from (reverse c.args.log.now) c.args.port.now c.loop-page.port c.sync.new.self
    (g.P.Port.geometry_of c.args.port.now).pages c.loop-page.page (Ok c.in-Ok.field-0) true (at ∙ pages) c.loop-page.invariant.did c.in-Ok.ensures.gives refl

pub returns-in-Err-clause-redone : goal.returns-in-Err-clause-redone
returns-in-Err-clause-redone g c =
    let pages = ap (λ d. d.pages) c.geometry-pages.ensures in
    let at : c.loop-page.page ≡ c.geometry-pages.result.pages = omega arith in
    all-done g.P.Port.read_gives g.P.Port.write_gives g.P.Port.sync_gives (g.P.Port.geometry_of c.args.port.now).size c.args.from (reverse c.args.log.now) c.args.port.now c.loop-page.port c.sync.new.self
    (g.P.Port.geometry_of c.args.port.now).pages c.loop-page.page (Err c.in-Err.field-0) false (at ∙ pages) c.loop-page.invariant.did c.in-Err.ensures.gives refl
