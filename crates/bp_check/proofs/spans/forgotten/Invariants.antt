use Rattle.std.proofs.Common.{◌≡◌, ◌≤◌}
use Rattle.bp_references.specs.Numbers.{count_below}
use Rattle.bp_check.specs.Spans.{outdated, spans_at}
use Rattle.bp_check.proofs.spans.forgotten.Given as goal

abbrev pub invariant-loop-at : goal.invariant-loop-at
invariant-loop-at l = record {
  is : l.count ≡ count_below (λ p. outdated l.retained l.now l.residents l.reads p (spans_at l.table p)) l.at;
  few : l.count ≤ l.at;
}
