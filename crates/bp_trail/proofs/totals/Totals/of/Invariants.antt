use Rattle.std.proofs.Common.{◌≡◌, take}
use Rattle.bp_trail.specs.Totals.{totals_of}
use Rattle.bp_trail.proofs.totals.Totals.of.Given as goal

abbrev pub invariant-loop-entry : goal.invariant-loop-entry
invariant-loop-entry l = l.totals ≡ totals_of (take l.entry-index l.entries)
