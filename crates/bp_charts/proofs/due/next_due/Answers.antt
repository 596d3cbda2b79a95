-- One reference more, from the last to the first.
use Rattle.std.proofs.Common.{◌≡◌, ◌∙◌, ◌-◌, ◌<◌, length, slice_index, rules, arith}
use Rattle.std.proofs.lemmas.Grind.{get_or_default_zero}
use Rattle.bp_charts.proofs.Dues.{latest-next, times-next}
use Rattle.bp_charts.proofs.due.next_due.Goals as goal

pub loop-step-preserved : goal.loop-step-preserved
loop-step-preserved c =
    let page = slice_index c.args.references.now (length c.args.references.now - 1 - c.loop-step.step) in
    let inside : page < c.args.pages = search rules in
    let all = c.loop-step.invariant.pages in
    let time : c.index.result.now ≡ slice_index c.loop-step.latest.items page = c.index.ensures ∙ get_or_default_zero c.loop-step.latest.items page c.index.result.now (omega (arith, inside, all)) in
    record {
      pages = search rules;
      count = search rules;
      latest = latest-next c.args.references.now c.loop-step.latest.items c.loop-step.step c.args.pages (search rules) all inside c.loop-step.invariant.latest;
      next = times-next c.args.references.now c.loop-step.latest.items c.loop-step.step c.args.pages (search rules) all inside c.loop-step.invariant.latest
          c.loop-step.next.items c.index.result.now time c.loop-step.invariant.count c.loop-step.invariant.next;
    }
