-- A log in a file, as its calls leave it.
use Rattle.std.specs.Prelude.{◌≡◌, ℕ, ◌+◌, ◌-◌, ◌^◌, ◌<◌, ◌≤◌, Bool, true, false, not, List, [], ◌∷◌, ◌++◌, length, replicate, OnOk, OnErr}
use Rattle.std.specs.declared.result.Result.{Result}
use Rattle.bp_ports.specs.Files.{Transfer, StoreSync}
use Rattle.example_log.specs.declared.log.LogFile.{LogFile}
use Rattle.example_log.specs.declared.log.LogFault.{LogFault}
use Rattle.example_log.specs.declared.log.LogFault.TheVariants.{Memory, Device as FileFailed, Full, Ended}
use Rattle.example_log.specs.Frames.{frame, frames, IsRecord}
use Rattle.example_log.specs.Files.{FileCall, FileDid, written}
use Rattle.example_log.specs.Lives.{LogLife}

-- a log that lived so, and, if it is not ended, where its next record is to stand
pub record IsLogFile {S : Type 0} (first : List ℕ) (start : ℕ) (calls : List FileCall)
    (log : List (List ℕ)) (durable : ℕ) (file : LogFile S) : Type 0 where
  pub life : LogLife first start (not file.is_ended) calls log durable
  pub positive : 1 ≤ start
  pub size : file.size ≡ length first
  pub end : file.is_ended ≡ false → file.end ≡ length (frames start log)
  pub next : file.is_ended ≡ false → file.next ≡ start + length log

-- after an error it has ended, and else as it had before
abbrev pub EndsOnError : {S X E : Type 0} → LogFile S → LogFile S → Result X E → Type 0
EndsOnError old new result =
    OnErr result (new.is_ended ≡ true) × OnOk result (new.is_ended ≡ old.is_ended)

-- why a file was not read: memory was short, and nothing was read; or the read failed
pub data IsUnread {S : Type 0} (reads : Transfer S) (old new : S) : LogFault → Type 0 where
  no_memory : new ≡ old → IsUnread reads old new Memory
  failed : (bytes : List ℕ) → reads old 0 bytes false new → IsUnread reads old new FileFailed

-- a record may stand behind the last one, under the next LSN
pub record HasRoom {S : Type 0} (file : LogFile S) (payload : List ℕ) : Type 0 where
  pub alive : file.is_ended ≡ false
  pub lsn : file.next < 2 ^ 64 - 1
  pub room : file.end + length (frame file.next payload) ≤ file.size

-- why a record was not appended
pub data AppendFault {S : Type 0} (writes : Transfer S) (old : LogFile S) (payload : List ℕ)
    (new : LogFile S) : LogFault → Type 0 where
  has_ended : old.is_ended ≡ true → new ≡ old → AppendFault writes old payload new Ended
  no_memory : old.is_ended ≡ false → new ≡ old → AppendFault writes old payload new Memory
  no_lsn : old.is_ended ≡ false → 2 ^ 64 - 1 ≤ old.next → new ≡ old
      → AppendFault writes old payload new Full
  no_room : old.is_ended ≡ false → old.size < old.end + length (frame old.next payload) → new ≡ old
      → AppendFault writes old payload new Full
  failed : HasRoom old payload → new.is_ended ≡ true
      → writes old.store old.end (frame old.next payload) false new.store
      → AppendFault writes old payload new FileFailed

-- the next record is to stand where it was to
abbrev pub SamePlace : {S : Type 0} → LogFile S → LogFile S → Type 0
SamePlace old new = (new.size ≡ old.size) × (new.end ≡ old.end) × (new.next ≡ old.next)

-- a call that goes on with such a life, by one call of the file at most, and leaves a log and a number
-- of durable records that are so
pub record GoesOn {S : Type 0} (reads writes : Transfer S) (syncs : StoreSync S) (old new : LogFile S)
    (first : List ℕ) (start : ℕ) (calls : List FileCall) (so : List (List ℕ) → ℕ → Type 0)
    : Type 0 where
  pub more : List FileCall
  pub log : List (List ℕ)
  pub durable : ℕ
  pub one : length more ≤ 1
  pub did : FileDid reads writes syncs old.store more new.store
  pub is : IsLogFile first start (more ++ calls) log durable new
  pub is_so : so log durable

-- the calls by which a file is wiped, some of them or all
pub data Wipes (size : ℕ) : List FileCall → Type 0 where
  nothing : Wipes size []
  wrote : (good : Bool) → Wipes size (FileCall.Wipe size good ∷ [])
  unsynced : Wipes size (FileCall.Sync false ∷ FileCall.Wipe size true ∷ [])

-- all of them
abbrev pub wiped_by : ℕ → List FileCall
wiped_by size = FileCall.Sync true ∷ FileCall.Wipe size true ∷ []

-- a file that was wiped, durably, or why not
abbrev pub WipesFile : {S : Type 0} → Transfer S → Transfer S → StoreSync S → ℕ → S → Bool → S → Type 0
WipesFile {S} reads writes syncs size old true new =
    (mid : S) × writes old 0 (replicate size 0) true mid × syncs mid true new
WipesFile reads writes syncs size old false new =
    (more : List FileCall) × FileDid reads writes syncs old more new × Wipes size more

-- the calls by which a file is written again and synced, some of them or all
pub data Settles (bytes : List ℕ) : List FileCall → Bool → Type 0 where
  nothing : Settles bytes [] false
  unwritten : Settles bytes (FileCall.Again bytes false ∷ []) false
  synced : (good : Bool) → Settles bytes (FileCall.Sync good ∷ FileCall.Again bytes true ∷ []) good

-- the calls by which a log with one record is begun in a file of so many bytes, some of them or all
pub data BeginsBy (size start : ℕ) (head : List ℕ) : List FileCall → Type 0 where
  wiping : {calls : List FileCall} → Wipes size calls → BeginsBy size start head calls
  wiped : BeginsBy size start head (FileCall.Sync true ∷ FileCall.Wipe size true ∷ [])
  wrote : (good : Bool) → IsRecord start head → length (frame start head) ≤ size
      → BeginsBy size start head (FileCall.Write 0 (frame start head) good ∷ FileCall.Sync true
      ∷ FileCall.Wipe size true ∷ [])
  synced : (good : Bool) → IsRecord start head → length (frame start head) ≤ size
      → BeginsBy size start head (FileCall.Sync good ∷ FileCall.Write 0 (frame start head) true
      ∷ FileCall.Sync true ∷ FileCall.Wipe size true ∷ [])

-- the last of these calls failed
abbrev pub ends_badly : List FileCall → Bool
ends_badly [] = false
ends_badly (FileCall.Read start bytes good ∷ older) = not good
ends_badly (FileCall.Write start bytes good ∷ older) = not good
ends_badly (FileCall.Again bytes good ∷ older) = not good
ends_badly (FileCall.Wipe size good ∷ older) = not good
ends_badly (FileCall.Sync good ∷ older) = not good

-- why the calls that a file was to have stopped: memory was short, and there was none; or the last failed
pub data StopFault {S : Type 0} (reads writes : Transfer S) (syncs : StoreSync S)
    (By : List FileCall → Type 0) (old new : S) : LogFault → Type 0 where
  no_memory : new ≡ old → StopFault reads writes syncs By old new Memory
  failed : (calls : List FileCall) → FileDid reads writes syncs old calls new → By calls
      → ends_badly calls ≡ true → StopFault reads writes syncs By old new FileFailed

-- why a log was not begun in a file of so many bytes: memory was short, before it was wiped or once it
-- was; or the last of its calls failed; or there is no LSN, or no room for the head
pub data BeginFault {S : Type 0} (reads writes : Transfer S) (syncs : StoreSync S) (size lsn : ℕ)
    (head : List ℕ) (old new : S) : LogFault → Type 0 where
  no_memory : new ≡ old → BeginFault reads writes syncs size lsn head old new Memory
  wiped : FileDid reads writes syncs old (wiped_by size) new
      → BeginFault reads writes syncs size lsn head old new Memory
  failed : (calls : List FileCall) → FileDid reads writes syncs old calls new
      → BeginsBy size lsn head calls → ends_badly calls ≡ true
      → BeginFault reads writes syncs size lsn head old new FileFailed
  no_lsn : 2 ^ 64 - 1 ≤ lsn → BeginFault reads writes syncs size lsn head old new Full
  no_room : size < length (frame lsn head) → BeginFault reads writes syncs size lsn head old new Full

-- a log that was begun so, whatever the file had, also where calls of it had failed
pub record Begins {S : Type 0} (reads writes : Transfer S) (syncs : StoreSync S) (old new : LogFile S)
    (start : ℕ) (head : List ℕ) (good : Bool) : Type 0 where
  pub calls : List FileCall
  pub did : FileDid reads writes syncs old.store calls new.store
  pub by : BeginsBy old.size start head calls
  pub is : good ≡ true → (first : List ℕ) (before : List FileCall)
      → length (written first before) ≡ length first → old.size ≡ length first
      → IsLogFile first start (calls ++ before) (head ∷ []) 1 new
