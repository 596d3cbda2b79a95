-- The payload so far has the changes so far, under whatever LSN.
use Rattle.std.proofs.Common.{◌≡◌, ℕ, map, take}
use Rattle.example_log.specs.Commits.{AreChanges, payload_of}
use Rattle.example_table.specs.TableCalls.{under}
use Rattle.example_table.proofs.table.payload.Given as goal

abbrev pub invariant-loop-change : goal.invariant-loop-change
invariant-loop-change l = (lsn : ℕ) → (l.payload.items ≡ payload_of (map (under lsn) (take l.change-index l.changes))) × AreChanges lsn (map (under lsn) (take l.change-index l.changes))
