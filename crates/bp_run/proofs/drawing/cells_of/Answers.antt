-- A sort leaves the same cells, by growing frames.
use Rattle.std.proofs.Common.{rules, subst}
use Rattle.std.proofs.lemmas.List.Sorted.{IsNonDecreasingBy-from_sort_by_key}
use Rattle.std.specs.List.Sorted.{IsPermutation}
use Rattle.bp_charts.specs.declared.cells.Cell.{Cell}
use Rattle.bp_run.proofs.drawing.cells_of.Goals as goal

pub returns : goal.returns
returns c = record {
  same = subst (λ cells. IsPermutation cells c.sort_by_key.new.self.items) c.in_ok-cells.ensures c.sort_by_key.ensures.permutation;
  growing = IsNonDecreasingBy-from_sort_by_key (λ (cell : Cell). cell.point.frames) _ c.in_ok-sort_by_key.ensures.sorted (λ a r q k. search rules);
}
