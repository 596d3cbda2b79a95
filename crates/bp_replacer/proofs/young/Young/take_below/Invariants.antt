use Rattle.std.proofs.Common.{◌≡◌, length}
use Rattle.bp_replacer.specs.Young.{AreQueued}
use Rattle.bp_replacer.proofs.young.Young.take_below.Given as goal

abbrev pub invariant-loop-known : goal.invariant-loop-known
invariant-loop-known l = record {
  same : l.self-inside.since.items ≡ l.initial.self-inside.since.items;
  queued : AreQueued l.self-inside.since.items l.self-inside.queue.pages;
}

abbrev pub decreases-loop-known : goal.decreases-loop-known
decreases-loop-known l = length l.self-inside.queue.pages
