use Rattle.std.proofs.Common.{◌≡◌}
use Rattle.tests_devices.proofs.marks.look_a_thousand_times.Given as goal

abbrev pub invariant-loop : goal.invariant-loop
invariant-loop g l = l.reader.mark ≡ l.initial.reader.mark
