-- The changes that are left are pending.
use Rattle.std.proofs.Common.{◌≡◌, ◌⊎◌, true, false, ◌+◌, ◌++◌, ◌∷◌, [], ℕ, List, length, map, reverse, drop, slice_index_or}
use Rattle.bp_trail.specs.declared.records.LogRecord.{LogRecord}
use Rattle.bp_trail.specs.Lists.{some}
use Rattle.bp_trail.specs.Trail.{Trail}
use Rattle.example_log.specs.Commits.{changes_of}
use Rattle.example_log.specs.Disk.{DeviceCall}
use Rattle.example_log.specs.Files.{FileCall}
use Rattle.example_table.specs.Images.{FirstsAreFull, NotesMore, is_of}
use Rattle.example_table.specs.Passes.{GivesBack}
use Rattle.example_table.specs.Tables.{Cut}
use Rattle.example_table.specs.TableCalls.{IsTable, TableGoes, under}
use Rattle.example_table.proofs.table.Table.commit_whole.Given as goal

abbrev pub invariant-loop-change : goal.invariant-loop-change
invariant-loop-change g l =
    (l.self.log.is_ended ≡ false)
    × ((p : ℕ) → slice_index_or l.self.imaged.items p false ≡ true → (slice_index_or l.fn.self.imaged.items p false ≡ true) ⊎ (some (is_of p) l.changes ≡ true))
    × ((table : List ℕ) (cut : Cut) (file : List ℕ) (start records : ℕ) (synced : Trail) (calls : List DeviceCall) (log_calls : List FileCall) (commits : List (List LogRecord))
    → IsTable table cut file start synced calls log_calls commits records [] l.fn.self.pool l.fn.self.log → l.fn.self.is_ended ≡ false → FirstsAreFull l.fn.self.pool.core.parameters.size (reverse l.changes ++ reverse (changes_of commits))
    → (l.lsn ≡ start + 1 + length commits)
    × TableGoes g.S.LogStore.reads g.S.LogStore.writes g.S.LogStore.syncs g.P.Port.read_gives g.P.Port.write_gives g.P.Port.sync_gives l.fn.self.pool l.self.pool l.fn.self.log l.self.log table cut file start calls log_calls commits records
    (λ after n left. (after ≡ commits ++ map (under l.lsn) l.changes ∷ []) × (left ≡ reverse (map (under l.lsn) (drop l.change-index l.changes)))))
    × GivesBack l.fn.self.pool l.self.pool
    × NotesMore l.fn.self.imaged.items l.changes l.self.imaged.items
