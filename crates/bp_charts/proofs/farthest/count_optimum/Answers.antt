-- One reference after the other.
use Rattle.std.proofs.Common.{◌∙◌, ◌+◌, ◌<◌, subst, rules, arith, length, slice_index, drop}
use Rattle.std.proofs.lemmas.Grind.{get_or_default_zero}
use Rattle.bp_charts.specs.Keys.{keys_of}
use Rattle.bp_charts.proofs.Dues.{cut-at, none-left}
use Rattle.bp_charts.proofs.Walk.{Stands, stands-end, stands-next, next-fresh}
use Rattle.bp_charts.proofs.Moves.{steps-grow}
use Rattle.bp_charts.proofs.farthest.count_optimum.Goals as goal

pub refer-requires-clause-fresh : goal.refer-requires-clause-fresh
refer-requires-clause-fresh c =
    let references = c.args.references.now in
    let i = c.loop-i.i in
    let within : i < length references = search rules in
    let times = c.in_ok-next.ensures in
    let known = times.count in
    let due = c.index.ensures ∙ get_or_default_zero c.in_ok-next.next.items i c.index.result.now (omega (arith, within, known)) ∙ times.each i within in
    next-fresh c.args.frames references i (slice_index references i) (drop (i + 1) references) (keys_of c.loop-i.held) c.loop-i.counts
    (subst (λ rest. Stands c.args.frames references i rest (keys_of c.loop-i.held) c.loop-i.counts) (cut-at references i within) c.loop-i.invariant.stands)
    c.index.result.now due

pub loop-i-preserved : goal.loop-i-preserved
loop-i-preserved c =
    let references = c.args.references.now in
    let i = c.loop-i.i in
    let within : i < length references = search rules in
    let times = c.in_ok-next.ensures in
    let known = times.count in
    let due = c.index.ensures ∙ get_or_default_zero c.in_ok-next.next.items i c.index.result.now (omega (arith, within, known)) ∙ times.each i within in
    let grow = steps-grow _ _ _ _ _ _ _ c.in_ok-refer.ensures in
    record {
      stands = stands-next c.args.frames references i (slice_index references i) (drop (i + 1) references) (keys_of c.loop-i.held) c.loop-i.counts
          (subst (λ rest. Stands c.args.frames references i rest (keys_of c.loop-i.held) c.loop-i.counts) (cut-at references i within) c.loop-i.invariant.stands)
          c.index.result.now (keys_of c.refer.new.held) c.refer.new.counts due c.in_ok-refer.ensures;
      hits = let low = c.loop-i.invariant.hits in omega (arith, grow.0, low);
      faults = let low = c.loop-i.invariant.faults in omega (arith, grow.1, low);
      evictions = let low = c.loop-i.invariant.evictions in omega (arith, grow.2, low);
    }

pub returns : goal.returns
returns c = stands-end c.args.frames c.args.references.now c.loop-i.i (drop c.loop-i.i c.args.references.now) (keys_of c.loop-i.held) c.loop-i.counts (none-left c.args.references.now c.loop-i.i (search rules)) c.loop-i.invariant.stands
