-- The names so far are those of the K so far.
use Rattle.std.proofs.Common.{◌≡◌}
use Rattle.bp_run.specs.Drawing.{names_up_to}
use Rattle.bp_run.proofs.drawing.names_of.Given as goal

abbrev pub invariant-loop-less : goal.invariant-loop-less
invariant-loop-less l = l.names.items ≡ names_up_to l.ks l.less
