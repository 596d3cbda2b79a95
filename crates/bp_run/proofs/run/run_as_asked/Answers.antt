-- What a run over an opened page file reports, or why it does not.
use Rattle.std.proofs.Common.{◌≡◌, ◌∙◌, inl, sym, ap, subst, All, Err}
use Rattle.std.proofs.lemmas.Result.{err_from_is_err_and}
use Rattle.bp_cli.specs.Words.{options_of}
use Rattle.bp_run.specs.Run.{ports_for}
use Rattle.bp_run.proofs.Opened.{over_pages, stopped_at_ports, stopped_at_trace, stopped_in_run}
use Rattle.bp_run.proofs.run.run_as_asked.Goals as goal

pub run_in_order-requires-clause-alike : goal.run_in_order-requires-clause-alike
run_in_order-requires-clause-alike g c κs within =
    subst (λ h. All (λ p. g.O.P.Port.geometry_of p ≡ h) c.in_ok-opened.opened.items) (sym c.geometry-geometry.ensures) c.in_ok-opened.ensures.alike

pub run_in_order-requires-clause-ports : goal.run_in_order-requires-clause-ports
run_in_order-requires-clause-ports g c κs within = c.in_ok-opened.ensures.count ∙ ap (ports_for c.args.run.now.order) c.deref.ensures.value

pub returns-clause-ran : goal.returns-clause-ran
returns-clause-ran g c =
    over_pages g.O.Ports.ways g.O.T.Read.remaining g.O.P.Port.read_gives g.O.P.Port.write_gives (options_of c.args.run.now) (g.I.Read.remaining c.args.reader.now) (g.W.Write.contents c.args.out.now)
    (g.W.Write.contents c.run_in_order.new.out) c.run_in_order.result c.in_ok-file.file c.geometry-geometry.result c.in_ok-rows.rows.items c.deref.result.now c.in_ok-opened.opened
    c.in_ok-file.ensures.gave c.in_ok-file.ensures.named c.geometry-geometry.ensures c.deref.ensures.value c.in_ok-rows.ensures.read c.in_ok-opened.ensures.gave c.run_in_order.ensures.reported

pub returns-clause-stopped : goal.returns-clause-stopped
returns-clause-stopped g c =
    stopped_in_run g.O.Ports.ways g.O.T.Read.remaining (options_of c.args.run.now) (g.I.Read.remaining c.args.reader.now) c.run_in_order.result c.in_ok-file.file c.geometry-geometry.result c.in_ok-rows.rows.items
    c.in_ok-file.ensures.gave c.geometry-geometry.ensures c.in_ok-rows.ensures.read c.run_in_order.ensures.fault

pub returns-in_err-file-clause-stopped : goal.returns-in_err-file-clause-stopped
returns-in_err-file-clause-stopped g c =
    let is = err_from_is_err_and c.from_residual.result c.from_residual.ensures.1 in
    rw (is.1 ∙ ap Err is.2) (inl c.in_err-file.ensures.fault)

pub returns-in_err-rows-clause-stopped : goal.returns-in_err-rows-clause-stopped
returns-in_err-rows-clause-stopped g c =
    let is = err_from_is_err_and c.from_residual-in_err-rows.result c.from_residual-in_err-rows.ensures.1 in
    rw (is.1 ∙ ap Err is.2)
    (stopped_at_trace g.O.Ports.ways g.O.T.Read.remaining (options_of c.args.run.now) (g.I.Read.remaining c.args.reader.now) c.in_err-rows.field-0.0.ending c.in_ok-file.file c.geometry-geometry.result
    c.in_ok-file.ensures.gave c.geometry-geometry.ensures c.in_err-rows.ensures.fault)

pub returns-in_err-opened-clause-stopped : goal.returns-in_err-opened-clause-stopped
returns-in_err-opened-clause-stopped g c =
    let is = err_from_is_err_and c.from_residual-in_err-opened.result c.from_residual-in_err-opened.ensures.1 in
    rw (is.1 ∙ ap Err is.2)
    (stopped_at_ports g.O.Ports.ways g.O.T.Read.remaining (options_of c.args.run.now) (g.I.Read.remaining c.args.reader.now) c.in_err-opened.field-0.0.ending c.in_ok-file.file c.geometry-geometry.result c.in_ok-rows.rows.items c.deref.result.now
    c.in_ok-file.ensures.gave c.geometry-geometry.ensures c.deref.ensures.value c.in_ok-rows.ensures.read c.in_err-opened.ensures.fault)
