use Rattle.bp_check.specs.Spans.{outdated}
use Rattle.bp_check.proofs.SpanLemmas.{AreDone}
use Rattle.bp_check.proofs.spans.forget.Given as goal

abbrev pub invariant-loop-at : goal.invariant-loop-at
invariant-loop-at l = AreDone (outdated l.retained l.now l.residents l.reads) l.initial.table l.table l.at
