-- The changes so far are whole.
use Rattle.example_log.specs.Moments.{pages_in}
use Rattle.std.proofs.Common.{◌≡◌, ◌++◌, [], ℕ, List, false, take, reverse, slice_index_or}
use Rattle.bp_trail.specs.declared.records.LogRecord.{LogRecord}
use Rattle.bp_trail.specs.Trail.{Trail}
use Rattle.example_log.specs.Commits.{changes_of}
use Rattle.example_log.specs.Disk.{DeviceCall}
use Rattle.example_log.specs.Files.{FileCall}
use Rattle.example_table.specs.Images.{AreImaged, AreImagedOnce, AreWhole}
use Rattle.example_log.specs.LogFiles.{SamePlace}
use Rattle.example_table.specs.Passes.{GivesBack}
use Rattle.example_table.specs.Tables.{Cut}
use Rattle.example_table.specs.TableCalls.{IsTable, TableGoes}
use Rattle.example_table.proofs.table.Table.whole_changes.Given as goal

abbrev pub invariant-loop-change : goal.invariant-loop-change
invariant-loop-change g l =
    ((table : List ℕ) (cut : Cut) (file : List ℕ) (start records : ℕ) (synced : Trail) (calls : List DeviceCall) (log_calls : List FileCall) (commits : List (List LogRecord))
    → IsTable table cut file start synced calls log_calls commits records [] l.fn.self.pool l.fn.self.log → AreImaged l.fn.self.imaged.items (reverse (changes_of commits))
    → (t : TableGoes g.S.LogStore.reads g.S.LogStore.writes g.S.LogStore.syncs g.P.Port.read_gives g.P.Port.write_gives g.P.Port.sync_gives l.fn.self.pool l.self.pool l.fn.self.log l.self.log table cut file start calls log_calls commits records
    (λ after n left. (after ≡ commits) × (left ≡ [])))
    × AreWhole l.fn.self.pool.core.parameters.size ((pages_in t.steps) ++ calls) (reverse (changes_of (cut.commits ++ commits))) (reverse (changes_of commits)) (take l.change-index l.changes) l.made.items
    × AreImagedOnce l.fn.self.pool.core.parameters.size (λ p. slice_index_or l.fn.self.imaged.items p false) (take l.change-index l.changes) l.made.items)
    × (l.self.imaged.items ≡ l.fn.self.imaged.items) × (l.self.is_ended ≡ l.fn.self.is_ended)
    × GivesBack l.fn.self.pool l.self.pool
    × SamePlace l.fn.self.log l.self.log
