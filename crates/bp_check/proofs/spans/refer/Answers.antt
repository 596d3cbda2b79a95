use Rattle.std.proofs.Common.{◌-◌, refl, arith}
use Rattle.bp_check.proofs.SpanLemmas.{refer-newest}
use Rattle.bp_check.proofs.spans.refer.Goals as goal

pub returns-then-saturating_sub-correlated : goal.returns-then-saturating_sub-correlated
returns-then-saturating_sub-correlated c =
    rw c.if-by_hit.true
    (refer-newest c.args.known.now.items (c.len-count.result - 1) c.args.correlated c.args.now c.index.result.now c.index_mut.result.now _ (omega arith) c.index.ensures c.index_mut.ensures.value (omega arith) refl)
