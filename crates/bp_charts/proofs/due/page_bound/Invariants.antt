use Rattle.std.proofs.Common.{◌<◌, ◌≤◌, ℕ, slice_index}
use Rattle.bp_charts.proofs.due.page_bound.Given as goal

abbrev pub invariant-loop-page : goal.invariant-loop-page
invariant-loop-page l = record {
  pages : (k : ℕ) → k < l.page-index → slice_index l.references k < l.bound;
  few : l.bound ≤ 4294967296;
}
