-- None of the changes so far is of the page.
use Rattle.std.proofs.Common.{◌≡◌, false, take}
use Rattle.bp_trail.specs.Lists.{some}
use Rattle.example_table.specs.Images.{is_of}
use Rattle.example_table.proofs.images.touches.Given as goal

abbrev pub invariant-loop-change : goal.invariant-loop-change
invariant-loop-change l = some (is_of l.page) (take l.change-index l.changes) ≡ false
