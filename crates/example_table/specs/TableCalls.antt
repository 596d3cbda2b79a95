-- What the calls of a table do to it.
use Rattle.std.specs.Prelude.{◌≡◌, ◌⊎◌, ℕ, ◌≤◌, Bool, false, not, List, [], ◌∷◌, ◌++◌, map, reverse, Result, OnErr, IfOk}
use Rattle.bp_device.specs.Owned.{OwnedView}
use Rattle.bp_ports.specs.Files.{Transfer, StoreSync}
use Rattle.bp_trail.specs.declared.records.LogRecord.{LogRecord}
use Rattle.bp_trail.specs.Recovery.{redo}
use Rattle.bp_trail.specs.Trail.{Trail}
use Rattle.example_log.specs.declared.log.LogFile.{LogFile}
use Rattle.example_table.specs.declared.table.TableFault.{TableFault}
use Rattle.example_log.specs.Commits.{log_of}
use Rattle.example_log.specs.Disk.{DeviceCall, Reads, Writes, Syncs, Honest}
use Rattle.example_log.specs.Files.{FileCall}
use Rattle.example_log.specs.Moments.{AtEach, Made, Step, log_in, pages_in, spare_in}
use Rattle.example_log.specs.LogFiles.{IsLogFile}
use Rattle.example_table.specs.Images.{AreLogged}
use Rattle.example_table.specs.Tables.{Cut, Stands, TableRan, contents}

-- a change under an LSN
abbrev pub under : ℕ → LogRecord → LogRecord
under lsn r = record r { lsn = lsn }

-- a pool and a log that are as these calls left them
pub record IsTable {S P : Type 0} (table : List ℕ) (cut : Cut) (file : List ℕ) (start : ℕ)
    (synced : Trail) (calls : List DeviceCall) (log_calls : List FileCall)
    (commits : List (List LogRecord)) (durable : ℕ) (pending : List LogRecord) (pool : OwnedView P)
    (log : LogFile S) : Type 0 where
  pub ran : TableRan pool.core.parameters table cut file start (not log.is_ended) pool.core.past synced
      calls log_calls commits durable pending
  pub file_is : IsLogFile file start log_calls (log_of table commits) durable log

-- A call that goes on with them, and leaves commits, a number of durable records and pending changes
-- that are so. Its calls of the device and of the log stand in one list, in the order in which they were
-- made, and the table stands at each moment of it
pub record TableGoes {S P : Type 0} (reads writes : P → Transfer S) (syncs : P → StoreSync S)
    (page_reads : Reads P) (page_writes : Writes P) (page_syncs : Syncs P) (old new : OwnedView P)
    (old_log new_log : LogFile S) (table : List ℕ) (cut : Cut) (file : List ℕ) (start : ℕ)
    (calls : List DeviceCall) (log_calls : List FileCall) (before : List (List LogRecord))
    (records : ℕ) (so : List (List LogRecord) → ℕ → List LogRecord → Type 0) : Type 0 where
  pub steps : List Step
  pub synced : Trail
  pub commits : List (List LogRecord)
  pub durable : ℕ
  pub pending : List LogRecord
  pub parameters : new.core.parameters ≡ old.core.parameters
  pub no_spare : spare_in steps ≡ []
  pub did : (spare : S) → Made page_reads page_writes page_syncs reads writes syncs
      (record { port = old.port; log = old_log.store; spare = spare }) steps
      (record { port = new.port; log = new_log.store; spare = spare })
  pub each : AtEach (λ so_far. Stands old.core.parameters table cut file start
      (pages_in so_far ++ calls) (log_in so_far ++ log_calls) before commits records) steps
  pub no_fewer : records ≤ durable
  pub is : IsTable table cut file start synced (pages_in steps ++ calls) (log_in steps ++ log_calls)
      commits durable pending new new_log
  pub is_so : so commits durable pending

-- a call that goes on with whatever a table has, and leaves what is so of what it had
abbrev pub TableDoes : {S P : Type 0} → (P → Transfer S) → (P → Transfer S) → (P → StoreSync S)
    → Reads P → Writes P
    → Syncs P → OwnedView P → OwnedView P → LogFile S → LogFile S
    → (List (List LogRecord) → ℕ → List LogRecord → List (List LogRecord) → ℕ → List LogRecord
    → Type 0) → Type 0
TableDoes reads writes syncs page_reads page_writes page_syncs old new old_log new_log so =
    (table : List ℕ) (cut : Cut) (file : List ℕ) (start records : ℕ) (synced : Trail)
    (calls : List DeviceCall) (log_calls : List FileCall) (commits : List (List LogRecord))
    (pending : List LogRecord)
    → IsTable table cut file start synced calls log_calls commits records pending old old_log
    → TableGoes reads writes syncs page_reads page_writes page_syncs old new old_log new_log table cut
    file start calls log_calls commits records (so commits records pending)

-- A commit was added, whose record has these changes, and no others: each as it was asked for, or with
-- all other bytes of its page. What all commits then make of the first images, these changes make of
-- what the commits before made: if reads brought what they may
pub record HasCommit (size : ℕ) (cut : Cut) (calls : List DeviceCall)
    (commits after : List (List LogRecord)) (lsn : ℕ) (changes : List LogRecord) : Type 0 where
  pub made : List LogRecord
  pub after_is : after ≡ commits ++ map (under lsn) made ∷ []
  pub each : AreLogged size changes made
  pub makes : (tears : Bool) (first : ℕ → List ℕ) → Honest tears first calls → (p : ℕ)
      → contents cut after first p ≡ redo 0 (reverse changes) p (contents cut commits first p)

-- what a commit leaves, or one that was refused: if the table then goes on, nothing was committed
abbrev pub LeavesCommit : ℕ → Cut → List DeviceCall → List (List LogRecord) → ℕ → List LogRecord
    → Bool → Result ℕ TableFault → List DeviceCall → List (List LogRecord) → Type 0
LeavesCommit size cut calls commits lsn changes ended result more after =
    ((after ≡ commits) ⊎ HasCommit size cut (more ++ calls) commits after lsn changes)
    × OnErr result (ended ≡ false → after ≡ commits)
    × IfOk result (λ got.
    (got ≡ lsn) × HasCommit size cut (more ++ calls) commits after got changes)
