use Rattle.std.proofs.Common.{◌+◌, ap, ◌∙◌}
use Rattle.bp_check.proofs.SpanLemmas.{stamp-there, stamp-absent}
use Rattle.bp_check.proofs.spans.burst_stamp.Goals as goal

pub returns-then-place-known : goal.returns-then-place-known
returns-then-place-known c = λ all turned.
    ap (λ n. n + c.counted_widths.result) c.from.ensures
    ∙ stamp-there all c.args.known.now c.args.place c.counted_widths.result c.span_at.result turned c.if-place-known.true c.span_at.ensures (c.counted_widths.ensures.counted all turned)

pub returns-else-place-known : goal.returns-else-place-known
returns-else-place-known c = λ all turned. stamp-absent all c.args.known.now c.args.place turned c.if-place-known.false
