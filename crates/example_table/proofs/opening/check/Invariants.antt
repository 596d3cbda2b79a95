-- The changes so far lie within pages.
use Rattle.std.proofs.Common.{take}
use Rattle.example_table.specs.Opening.{AreWithin}
use Rattle.example_table.proofs.opening.check.Given as goal

abbrev pub invariant-loop-change : goal.invariant-loop-change
invariant-loop-change l = AreWithin l.device.pages l.device.size (take l.change-index l.changes)
