-- What a checkpoint does to a table.
use Rattle.std.specs.Prelude.{◌≡◌, ℕ, ◌+◌, Bool, true, false, List, [], ◌++◌, length, Result, Ok, Err}
use Rattle.bp_device.specs.Owned.{OwnedView}
use Rattle.bp_ports.specs.Files.{Transfer, StoreSync}
use Rattle.bp_trail.specs.declared.records.LogRecord.{LogRecord}
use Rattle.bp_trail.specs.Lists.{some}
use Rattle.bp_trail.specs.Parameters.{Parameters}
use Rattle.bp_trail.specs.Saved.{unsaved}
use Rattle.bp_trail.specs.Trail.{Trail}
use Rattle.example_log.specs.declared.log.LogFile.{LogFile}
use Rattle.example_table.specs.declared.table.TableFault.{TableFault}
use Rattle.example_log.specs.Disk.{DeviceCall, Reads, Writes, Syncs, Did, is_good_sync}
use Rattle.example_log.specs.Files.{FileCall}
use Rattle.example_log.specs.Moments.{AtEach, Made, Step, log_in, pages_in, spare_in}
use Rattle.example_table.specs.Opening.{Beginning}
use Rattle.example_table.specs.Tables.{Cut, Stands, TableRan}
use Rattle.example_table.specs.TableCalls.{IsTable, TableGoes}

-- a pool whose pages are all saved, and synced
pub record HasSaved {S P : Type 0} (page_reads : Reads P) (page_writes : Writes P)
    (page_syncs : Syncs P) (old new : OwnedView P) (log : LogFile S) (table : List ℕ) (cut : Cut)
    (file : List ℕ) (start : ℕ) (calls : List DeviceCall) (log_calls : List FileCall)
    (commits : List (List LogRecord)) (durable : ℕ) (pending : List LogRecord) : Type 0 where
  pub more : List DeviceCall
  pub parameters : new.core.parameters ≡ old.core.parameters
  pub did : Did page_reads page_writes page_syncs old.port more new.port
  pub is : IsTable table cut file start new.core.past (more ++ calls) log_calls commits durable
      pending new log
  pub saved : (p : ℕ) → unsaved new.core.past p ≡ false
  pub synced : some is_good_sync more ≡ true

-- A moment of a checkpoint: the other file is as it was, and the table stands; or each commit is durable,
-- in the log and in the pages, which were synced since, and the next log is begun in part, or not yet.
pub data IsMoving (c : Parameters) (table : List ℕ) (cut : Cut) (file : List ℕ) (start : ℕ)
    (calls : List DeviceCall) (log_calls : List FileCall) (commits : List (List LogRecord))
    (records : ℕ) (other : List ℕ) (before : List FileCall) (so_far : List Step) : Type 0 where
  staying : spare_in so_far ≡ [] → Stands c table cut file start (pages_in so_far ++ calls)
      (log_in so_far ++ log_calls) commits commits records
      → IsMoving c table cut file start calls log_calls commits records other before so_far
  moving : {alive : Bool} {past : Trail} → TableRan c table cut file start alive past past
      (pages_in so_far ++ calls) (log_in so_far ++ log_calls) commits (1 + length commits) []
      → ((p : ℕ) → unsaved past p ≡ false) → some is_good_sync (pages_in so_far) ≡ true
      → Beginning other (start + 1 + length commits) table before (spare_in so_far ++ before)
      → IsMoving c table cut file start calls log_calls commits records other before so_far

-- What a checkpoint did that came to the other file: its calls of the device and of both files stand in
-- one list, in the order in which they were made. `log` and `spare` are these files as they are.
pub record MovesOn {S P : Type 0} (reads writes : P → Transfer S) (syncs : P → StoreSync S)
    (page_reads : Reads P) (page_writes : Writes P) (page_syncs : Syncs P) (old new : OwnedView P)
    (old_log old_spare log spare : LogFile S) (table : List ℕ) (cut : Cut) (file : List ℕ)
    (start : ℕ) (calls : List DeviceCall) (log_calls : List FileCall)
    (commits : List (List LogRecord)) (records : ℕ) (other : List ℕ) (before : List FileCall)
    : Type 0 where
  pub steps : List Step
  pub parameters : new.core.parameters ≡ old.core.parameters
  pub did : Made page_reads page_writes page_syncs reads writes syncs
      (record { port = old.port; log = old_log.store; spare = old_spare.store }) steps
      (record { port = new.port; log = log.store; spare = spare.store })
  pub each : AtEach (IsMoving old.core.parameters table cut file start calls log_calls commits records
      other before) steps
  pub is : IsTable table cut file start new.core.past (pages_in steps ++ calls)
      (log_in steps ++ log_calls) commits (1 + length commits) [] new log
  pub saved : (p : ℕ) → unsaved new.core.past p ≡ false

-- What a checkpoint does: it stops before it comes to the other file; or within that; or the table goes on
-- with the next log, and the other file is the one that had the log.
pub data Checkpoints {S P : Type 0} (reads writes : P → Transfer S) (syncs : P → StoreSync S)
    (page_reads : Reads P) (page_writes : Writes P) (page_syncs : Syncs P) (old new : OwnedView P)
    (old_log new_log old_spare new_spare : LogFile S) (table : List ℕ) (cut : Cut) (file : List ℕ)
    (start : ℕ) (calls : List DeviceCall) (log_calls : List FileCall)
    (commits : List (List LogRecord)) (records : ℕ) (other : List ℕ) (before : List FileCall)
    : Result (Unit {0}) TableFault → Type 0 where
  stopped : {why : TableFault} → TableGoes reads writes syncs page_reads page_writes page_syncs old new
      old_log new_log table cut file start calls log_calls commits records
      (λ after n left. (after ≡ commits) × (left ≡ [])) → new_spare ≡ old_spare
      → Checkpoints reads writes syncs page_reads page_writes page_syncs old new old_log new_log
      old_spare new_spare table cut file start calls log_calls commits records other before (Err why)
  moving : {why : TableFault} → MovesOn reads writes syncs page_reads page_writes page_syncs old new
      old_log old_spare new_log new_spare table cut file start calls log_calls commits records other
      before
      → Checkpoints reads writes syncs page_reads page_writes page_syncs old new old_log new_log
      old_spare new_spare table cut file start calls log_calls commits records other before (Err why)
  moved : (m : MovesOn reads writes syncs page_reads page_writes page_syncs old new old_log old_spare
      new_spare new_log table cut file start calls log_calls commits records other before)
      → IsTable table (record {
        past = new.core.past;
        calls = pages_in m.steps ++ calls;
        commits = cut.commits ++ commits;
      }) other (start + 1 + length commits) new.core.past (pages_in m.steps ++ calls)
      (spare_in m.steps ++ before) [] 1 [] new new_log
      → Checkpoints reads writes syncs page_reads page_writes page_syncs old new old_log new_log
      old_spare new_spare table cut file start calls log_calls commits records other before (Ok tt)
