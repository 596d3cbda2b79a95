use Rattle.std.proofs.Common.{◌≡◌, ap, sym, ◌∙◌, set, reverse, Vec, Global, arith}
use Rattle.bp_check.specs.declared.spans.Span.{Span}
use Rattle.bp_check.specs.Spans.{outdated}
use Rattle.bp_check.proofs.SpanLemmas.{done-out, done-kept}
use Rattle.bp_check.proofs.spans.forget.Goals as goal
use Rattle.bp_check.proofs.spans.forget.Goals.{then-outdated, else-outdated}

pub loop-at-preserved : goal.loop-at-preserved
loop-at-preserved c =
    let test = outdated c.args.retained c.args.now c.args.residents.now c.args.reads.now in
    let same : test c.new-page.result (reverse c.deref.result.now) ≡ test c.loop-at.at (reverse c.index-table-at.result.items) =
    ap (λ p. test p (reverse c.deref.result.now)) c.new-page.ensures ∙ ap (λ known. test c.loop-at.at (reverse known)) c.deref.ensures.value
    ∙ ap (λ (v : Vec Span Global). test c.loop-at.at (reverse v.items)) (sym c.index-table-at.is) in
    elim c.if-outdated.branch [
      | then-outdated w ↦ done-out test c.args.table.now c.loop-at.table c.if-outdated.table c.loop-at.at c.index-table-at.result w.clear.new.self c.loop-at.invariant (omega (arith, c.loop-at.invariant.length_is, c.loop-at-test.true)) c.index-table-at.is
          w.table-is w.clear.ensures.items (sym (w.if-outdated.ensures ∙ same))
      | else-outdated w ↦ done-kept test c.args.table.now c.loop-at.table c.if-outdated.table c.loop-at.at c.index-table-at.result c.loop-at.invariant (omega (arith, c.loop-at.invariant.length_is, c.loop-at-test.true)) c.index-table-at.is
          (w.table-is ∙ ap (set c.loop-at.table c.loop-at.at) (sym c.index-table-at.is)) (sym (w.if-outdated.ensures ∙ same))
    ]
