use Rattle.std.proofs.Common.{◌≡◌}
use Rattle.tests_devices.proofs.marks.raise_a_thousand.Given as goal

abbrev pub invariant-loop-lsn : goal.invariant-loop-lsn
invariant-loop-lsn l = l.end.mark ≡ l.initial.end.mark
