-- No record so far is wanted.
use Rattle.std.proofs.Common.{◌≡◌, [], take, reverse}
use Rattle.bp_trail.specs.Recovery.{records_from}
use Rattle.example_log.proofs.redo.first_of.Given as goal

abbrev pub invariant-loop-change : goal.invariant-loop-change
invariant-loop-change l = records_from l.from (reverse (take l.change-index l.log)) l.page ≡ []
