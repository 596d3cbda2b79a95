use Rattle.std.proofs.Common.{◌≡◌, length, count_by, ltb}
use Rattle.bp_replacer.specs.Kept.{IsKept, IsQueued}
use Rattle.bp_replacer.specs.contracts.histories.Histories.{the_view}
use Rattle.bp_replacer.proofs.PurgeWalk.{IsPurged}
use Rattle.bp_replacer.proofs.histories.Histories.purge.Given as goal

-- the pages that were taken out of the queue are settled
abbrev pub invariant-loop-page : goal.invariant-loop-page
invariant-loop-page l = record {
  settings : l.self-inside.settings ≡ l.initial.self-inside.settings;
  kept : IsKept l.self-inside.settings.k l.self-inside.blocks.slots l.self-inside.places.entries;
  queued : IsQueued l.self-inside.blocks.slots l.self-inside.places.entries l.self-inside.waiting;
  purged : IsPurged (the_view l.initial.self-inside) (the_view l.self-inside) l.t l.before (length l.self-inside.places.entries) l.forgotten_before;
}

abbrev pub decreases-loop-page : goal.decreases-loop-page
decreases-loop-page l = count_by (λ e. ltb e.0 l.bound) l.self-inside.waiting.pages
