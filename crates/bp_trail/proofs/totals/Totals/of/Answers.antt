use Rattle.std.proofs.Common.{◌∙◌, ◌+◌, ◌<◌, ◌^◌, length, length-take, take, sym, ap, arith}
use Rattle.std.proofs.lemmas.List.{take_all}
use Rattle.bp_trail.specs.Totals.{totals_of}
use Rattle.bp_trail.proofs.Replies.{totals_of-room, totals_of-take}
use Rattle.bp_trail.proofs.totals.Totals.of.Goals as goal

pub loop-entry-init : goal.loop-entry-init
unfolding totals_of
loop-entry-init c = c.none-totals.ensures

pub loop-entry-preserved : goal.loop-entry-preserved
loop-entry-preserved c =
    let entries = c.args.entries.now in
    let i = c.loop-entry.entry-index in
    let e = c.entry-item.result in
    let few : length (take i entries) + 1 < 2 ^ 64 = omega (arith, length-take i entries, c.loop-entry-test.true) in
    c.count.ensures (rw c.loop-entry.invariant (totals_of-room (take i entries) few)) ∙ rw c.loop-entry.invariant (sym (totals_of-take entries i e c.loop-entry-test.true c.entry-item.is))

pub returns : goal.returns
returns c = c.loop-entry.invariant ∙ ap totals_of (take_all c.loop-entry.entry-index c.args.entries.now c.loop-entry-test.false)
