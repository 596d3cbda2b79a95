-- Each order has its own run.
use Rattle.std.proofs.Common.{◌≡◌, ◌<◌, ◌∙◌, ap, arith, length}
use Rattle.bp_cli.specs.Words.{options_of}
use Rattle.bp_cli.specs.declared.words.Order.{Order}
use Rattle.bp_run.specs.Run.{ports_for}
use Rattle.bp_run.proofs.Opened.{in_free, in_trace, port_is, some_ports}
use Rattle.bp_run.proofs.run.run_in_order.Goals as goal

pub run_free-requires-clause-ports : goal.run_free-requires-clause-ports
run_free-requires-clause-ports g c κs within = c.requires.ports ∙ ap (λ (o : Order). ports_for o c.args.rows.items) c.in-Free.is

pub returns-in-Trace-clause-reported : goal.returns-in-Trace-clause-reported
returns-in-Trace-clause-reported g c =
    let count : length c.args.ports.items ≡ ports_for c.args.run.now.order c.args.rows.items = omega (arith, c.requires.ports, c.args.ports.ok) in
    let some : 0 < length c.args.ports.items = omega (arith, some_ports c.args.run.now.order c.args.rows.items, count) in
    let same = port_is g.P.Port.geometry_of c.args.ports.items c.index_mut.result.now c.args.geometry c.requires.alike some c.index_mut.ensures.value in
    in_trace g.P.Port.read_gives g.P.Port.write_gives c.args.run.now.order (options_of c.args.run.now) c.args.geometry (g.P.Port.geometry_of c.index_mut.result.now) c.args.ports.items c.index_mut.result.now
    c.args.run.now.totals c.args.rows.items c.deref.result.now _ _ c.run_rows.result c.in-Trace.is same c.deref.ensures.value count c.index_mut.ensures.value c.run_rows.ensures.reported

pub returns-in-Free-clause-reported : goal.returns-in-Free-clause-reported
returns-in-Free-clause-reported g c =
    in_free g.P.Port.read_gives g.P.Port.write_gives c.args.run.now.order (options_of c.args.run.now) c.args.geometry c.args.ports.items c.args.run.now.totals c.args.rows.items _ _ c.run_free.result c.in-Free.is c.run_free.ensures.reported
