use Rattle.std.proofs.Common.{◌≡◌, ◌+◌, ◌-◌, ◌<◌, ◌≤◌, ℕ, length, slice_index}
use Rattle.bp_charts.specs.Due.{due_from}
use Rattle.bp_charts.proofs.due.next_due.Given as goal

abbrev pub invariant-loop-step : goal.invariant-loop-step
invariant-loop-step l = record {
  pages : length l.latest.items ≡ l.pages;
  count : length l.next.items ≡ length l.references;
  latest : (page : ℕ) → page < l.pages → slice_index l.latest.items page ≡ due_from (length l.references - l.step) page l.references;
  next : (i : ℕ) → length l.references - l.step ≤ i → i < length l.references → slice_index l.next.items i ≡ due_from (i + 1) (slice_index l.references i) l.references;
}
