use Rattle.std.proofs.Common.{◌<◌, ◌+◌, ◌-◌, ap, ◌∙◌, length, arith}
use Rattle.bp_check.proofs.SpanLemmas.{span-read, counted-more, counted-same}
use Rattle.bp_check.proofs.spans.counted_widths.Goals as goal
use Rattle.bp_check.proofs.spans.counted_widths.Goals.{then-span_at, else-span_at}

pub loop-newer-preserved : goal.loop-newer-preserved
loop-newer-preserved c =
    let below : c.loop-newer.newer < length c.args.known.now = omega arith in
    let next : c.loop-newer.newer + 1 < length c.args.known.now = omega arith in
    elim c.if-span_at.branch [
      | then-span_at w ↦ record {
        is = λ all turned. w.counted-is ∙ ap (λ n. c.loop-newer.counted + n) (w.from-counted.ensures ∙ w.width.ensures) ∙ ap (λ n. n + (w.span_at-then-span_at.result.last - w.span_at-then-span_at.result.first)) (c.loop-newer.invariant.is all turned)
            ∙ counted-more all c.loop-newer.newer c.span_at.result w.span_at-then-span_at.result (span-read all c.args.known.now c.loop-newer.newer c.span_at.result turned below c.span_at.ensures) w.if-span_at.true
            (span-read all c.args.known.now (c.loop-newer.newer + 1) w.span_at-then-span_at.result turned next w.span_at-then-span_at.ensures);
        small = omega (arith, w.counted-is, w.from-counted.ensures, w.width.ensures);
      }
      | else-span_at w ↦ record {
        is = λ all turned. w.counted-is ∙ c.loop-newer.invariant.is all turned
            ∙ counted-same all c.loop-newer.newer c.span_at.result (span-read all c.args.known.now c.loop-newer.newer c.span_at.result turned below c.span_at.ensures) w.if-span_at.false;
        small = omega (arith, w.counted-is);
      }
    ]
