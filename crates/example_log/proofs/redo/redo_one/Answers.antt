use Rattle.std.proofs.Common.{[], refl, reverse, true, false, Ok, Err}
use Rattle.example_log.specs.Steps.Redoes.{no_record}
use Rattle.example_log.proofs.Redoing.{page-stopped, page-written}
use Rattle.example_log.proofs.redo.redo_one.Goals as goal

pub returns-in_default-clause-did : goal.returns-in_default-clause-did
returns-in_default-clause-did g c = ([], refl, no_record c.in_default.ensures)

pub returns-in_err-image-clause-did : goal.returns-in_err-image-clause-did
returns-in_err-image-clause-did g c =
    let told = c.in-Some.ensures in
    let log = reverse c.args.log.now in
    page-stopped g.P.Port.read_gives g.P.Port.write_gives g.P.Port.sync_gives (g.P.Port.geometry_of c.args.port.now).size c.args.from log c.args.port.now c.begin.new.port c.begin.new.port
    c.args.page c.begin.result c.from_residual.result (c.begin.ensures.began c.args.from log told.0 told.1) c.from_residual.ensures.0

pub returns-in_err-redo_page-clause-did : goal.returns-in_err-redo_page-clause-did
returns-in_err-redo_page-clause-did g c =
    let told = c.in-Some.ensures in
    let log = reverse c.args.log.now in
    page-stopped g.P.Port.read_gives g.P.Port.write_gives g.P.Port.sync_gives (g.P.Port.geometry_of c.args.port.now).size c.args.from log c.args.port.now c.begin.new.port c.begin.new.port
    c.args.page c.begin.result c.from_residual-in_err-redo_page.result (c.begin.ensures.began c.args.from log told.0 told.1) c.from_residual-in_err-redo_page.ensures.0

pub returns-in-Ok-clause-did : goal.returns-in-Ok-clause-did
returns-in-Ok-clause-did g c =
    let told = c.in-Some.ensures in
    let log = reverse c.args.log.now in
    page-written g.P.Port.read_gives g.P.Port.write_gives g.P.Port.sync_gives (g.P.Port.geometry_of c.args.port.now).size c.args.from log c.args.port.now c.begin.new.port c.write.new.self
    c.args.page c.begin.result c.in_ok-image.image c.redo_page.new.image c.greatest_lsn.result (Ok c.in-Ok.field-0) told.0 c.in-Some.first.now true (c.begin.ensures.began c.args.from log told.0 told.1)
    c.in_ok-image.was told.1 c.in_ok-redo_page.ensures.fitted c.in_ok-redo_page.ensures.redone c.in-Ok.ensures.gives refl

pub returns-clause-did : goal.returns-clause-did
returns-clause-did g c =
    let told = c.in-Some.ensures in
    let log = reverse c.args.log.now in
    page-written g.P.Port.read_gives g.P.Port.write_gives g.P.Port.sync_gives (g.P.Port.geometry_of c.args.port.now).size c.args.from log c.args.port.now c.begin.new.port c.write.new.self
    c.args.page c.begin.result c.in_ok-image.image c.redo_page.new.image c.greatest_lsn.result (Err c.in-Err.field-0) told.0 c.in-Some.first.now false (c.begin.ensures.began c.args.from log told.0 told.1)
    c.in_ok-image.was told.1 c.in_ok-redo_page.ensures.fitted c.in_ok-redo_page.ensures.redone c.in-Err.ensures.gives refl
