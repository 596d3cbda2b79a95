-- The greatest LSN so far.
use Rattle.std.proofs.Common.{◌≡◌, take, reverse}
use Rattle.bp_trail.specs.Recovery.{records_from}
use Rattle.example_log.specs.Steps.{last_lsn}
use Rattle.example_log.proofs.redo.greatest_lsn.Given as goal

abbrev pub invariant-loop-change : goal.invariant-loop-change
invariant-loop-change l = l.lsn ≡ last_lsn (records_from l.from (reverse (take l.change-index l.log)) l.page)
