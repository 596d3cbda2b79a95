use Rattle.std.proofs.Common.{◌≡◌, ◌+◌, ◌<◌, ℕ, length, slice_index}
use Rattle.bp_charts.proofs.due.after_all.Given as goal

abbrev pub invariant-loop-page : goal.invariant-loop-page
invariant-loop-page l = record {
  all : length l.latest.items ≡ l.page;
  each : (page : ℕ) → page < l.page → slice_index l.latest.items page ≡ l.count + page;
}
