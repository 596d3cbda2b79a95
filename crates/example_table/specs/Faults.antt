-- Why a call of a table is refused.
use Rattle.std.specs.Prelude.{◌≡◌, ◌≢◌, ◌⊎◌, ℕ, ◌+◌, ◌^◌, ◌<◌, ◌≤◌, max, Bool, true, false, List, length, slice_index_or, Err}
use Rattle.bp_core.specs.CoreView.{LacksRoomFor}
use Rattle.bp_device.specs.Drivers.{IsCaused}
use Rattle.bp_device.specs.Owned.{OwnedView}
use Rattle.bp_page.specs.declared.refusals.PortFault.{PortFault}
use Rattle.bp_page.specs.declared.refusals.Refusal.TheVariants.{TrailFull, WriteFailed}
use Rattle.bp_ports.specs.Files.{StoreSync, Transfer}
use Rattle.example_log.specs.declared.log.LogFile.{LogFile}
use Rattle.bp_trail.specs.declared.ends.NotFlushed.{NotFlushed}
use Rattle.bp_trail.specs.declared.entries.Call.TheVariants as call
use Rattle.bp_trail.specs.declared.records.LogRecord.{LogRecord}
use Rattle.example_log.specs.Commits.{payload_of}
use Rattle.example_log.specs.Disk.{Syncs}
use Rattle.example_log.specs.Frames.{frame}
use Rattle.example_log.specs.LogFiles.{BeginFault}
use Rattle.example_log.specs.declared.log.LogFault.{LogFault}
use Rattle.example_log.specs.declared.log.LogFault.TheVariants.{Device, Ended, Memory, OtherSize}
use Rattle.example_table.specs.Images.{AreImagedOnce}
use Rattle.example_table.specs.declared.table.TableFault.{TableFault}
use Rattle.example_table.specs.declared.table.TableFault.TheVariants.{Log, Pages}

-- why no commit was made durable: the log had ended; its file was not synced; or the pool has no room
-- for an entry more
pub data DurableFault {S P : Type 0} (syncs : P → StoreSync S) (pool : OwnedView P) (old new : LogFile S)
    : TableFault → Type 0 where
  had_ended : old.is_ended ≡ true → new ≡ old → DurableFault syncs pool old new (Log Ended)
  failed : syncs pool.port old.store false new.store → new.is_ended ≡ true
      → DurableFault syncs pool old new (Log Device)
  no_room : LacksRoomFor 1 pool.core → DurableFault syncs pool old new (Pages TrailFull)

-- the log has no LSN left, or no room for a record with this payload
abbrev pub LacksRoom : {S : Type 0} → LogFile S → List ℕ → Type 0
LacksRoom log payload =
    (2 ^ 63 ≤ log.next) ⊎ (log.size < log.end + length (frame log.next payload))

-- so for the record of these changes, with the image of each page whose flag is not set
abbrev pub IsFullFor : {S : Type 0} → ℕ → List Bool → LogFile S → List LogRecord → Type 0
IsFullFor size flags log changes =
    (made : List LogRecord) × AreImagedOnce size (λ p. slice_index_or flags p false) changes made
    × LacksRoom log (payload_of made)

-- why not all pages were written out and made durable: the flush of one was refused, or the sync failed
pub data SaveFault {P : Type 0} (page_syncs : Syncs P) (new : OwnedView P) : TableFault → Type 0 where
  not_flushed : (stop : NotFlushed) → IsCaused (call.Flush stop.page) stop.why new.core
      → SaveFault page_syncs new (Pages stop.why)
  not_synced : (before : P) (fault : PortFault) → page_syncs before (Err fault) new.port
      → SaveFault page_syncs new (Pages WriteFailed)

-- why the log was not begun anew: the table had ended, the files have two sizes, there is no memory, the
-- commits were not made durable, or the pages, or the log was not begun in the other file
pub data CheckpointFault {S P : Type 0} (reads writes : P → Transfer S) (syncs : P → StoreSync S)
    (page_syncs : Syncs P) (ended : Bool) (old new : OwnedView P) (log spare new_spare : LogFile S)
    (head : List ℕ) : TableFault → Type 0 where
  had_ended : ended ≡ true
      → CheckpointFault reads writes syncs page_syncs ended old new log spare new_spare head (Log Ended)
  sizes : spare.size ≢ log.size
      → CheckpointFault reads writes syncs page_syncs ended old new log spare new_spare head (Log OtherSize)
  no_memory : new ≡ old → new_spare ≡ spare
      → CheckpointFault reads writes syncs page_syncs ended old new log spare new_spare head (Log Memory)
  not_durable : {why : TableFault} (mid : LogFile S) → DurableFault syncs old log mid why
      → CheckpointFault reads writes syncs page_syncs ended old new log spare new_spare head why
  not_saved : {why : TableFault} → SaveFault page_syncs new why
      → CheckpointFault reads writes syncs page_syncs ended old new log spare new_spare head why
  not_begun : {why : LogFault} → BeginFault (reads new.port) (writes new.port) (syncs new.port)
      spare.size (max log.next 1) head spare.store new_spare.store why
      → CheckpointFault reads writes syncs page_syncs ended old new log spare new_spare head (Log why)
