-- Row after row.
use Rattle.std.proofs.Common.{arith, rules, subst}
use Rattle.std.specs.Vec.Iter.{into_iter_items}
use Rattle.bp_replay.specs.Scripts.{lists}
use Rattle.bp_run.proofs.Splitting.{AreSplit, none_left, one_more_lent}
use Rattle.bp_run.proofs.scripts.split.Goals as goal

pub loop-row-preserved : goal.loop-row-preserved
loop-row-preserved c =
    let so_far = subst (λ rows. AreSplit c.args.clients (lists c.loop-row.scripts.items) rows c.args.rows.items) c.in-Some.ensures.steps.0 c.loop-row.invariant in
    one_more_lent c.args.clients c.loop-row.scripts.len c.deref_mut.result.now c.loop-row.scripts.items c.add_row.new.scripts c.in-Some.row (into_iter_items c.next.new.self) c.args.rows.items so_far
    c.deref_mut.ensures.value c.deref_mut.ensures.len c.in_ok-add_row.ensures.count c.in_ok-add_row.ensures.own c.in_ok-add_row.ensures.others

pub returns-clause-scripts : goal.returns-clause-scripts
returns-clause-scripts c = none_left c.args.clients (lists c.loop-row.scripts.items) (into_iter_items c.loop-row.row-iterator) c.args.rows.items c.loop-row.invariant (search (arith, rules))
