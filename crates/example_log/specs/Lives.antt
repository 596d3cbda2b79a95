-- The life of a log in a file, and what is read of it after a crash. A log is oldest first, and its
-- records have LSNs that go up by one.
use Rattle.std.specs.Prelude.{◌≡◌, ◌⊎◌, ℕ, ◌+◌, ◌-◌, ◌≤◌, Bool, true, false, if◌then◌else◌, List, [], ◌∷◌, ◌++◌, length, take, drop, replicate}
use Rattle.example_log.specs.Frames.{frame, frames, IsRecord, NoFrame}
use Rattle.example_log.specs.Files.{FileCall, FileLeaves, synced as synced_bytes, written}

-- The calls of a log that begins at an LSN, its records, and how many of them were synced: the file
-- is wiped, and then a record is put behind the last one, or the file is synced. After a call that
-- failed there is none, nor once the log is ended.
pub data LogLife (first : List ℕ) (start : ℕ) : Bool → List FileCall → List (List ℕ) → ℕ → Type 0 where
  wiped : {before : List FileCall} → length (written first before) ≡ length first
      → LogLife first start true (FileCall.Sync true ∷ FileCall.Wipe (length first) true ∷ before) [] 0
  appended : {calls : List FileCall} {log : List (List ℕ)} {durable : ℕ} (payload : List ℕ) (good : Bool)
      → LogLife first start true calls log durable → IsRecord (start + length log) payload
      → length (frames start log) + length (frame (start + length log) payload) ≤ length first
      → LogLife first start good
      (FileCall.Write (length (frames start log)) (frame (start + length log) payload) good ∷ calls)
      (log ++ payload ∷ []) durable
  synced : {calls : List FileCall} {log : List (List ℕ)} {durable : ℕ}
      → LogLife first start true calls log durable
      → LogLife first start true (FileCall.Sync true ∷ calls) log (length log)
  unsynced : {calls : List FileCall} {log : List (List ℕ)} {durable : ℕ}
      → LogLife first start true calls log durable
      → LogLife first start false (FileCall.Sync false ∷ calls) log durable
  closed : {calls : List FileCall} {log : List (List ℕ)} {durable : ℕ}
      → LogLife first start true calls log durable → LogLife first start false calls log durable

abbrev pub AreRecords : ℕ → List (List ℕ) → Type 0
AreRecords lsn [] = Unit {0}
AreRecords lsn (payload ∷ later) = IsRecord lsn payload × AreRecords (lsn + 1) later

-- these records are read from the front of a file, up to a place where none stands
pub record IsRead (start : ℕ) (log : List (List ℕ)) (bytes : List ℕ) : Type 0 where
  pub rest : List ℕ
  pub stands : bytes ≡ frames start log ++ rest
  pub records : AreRecords start log
  pub ends : NoFrame rest

-- a part of two files is the same
abbrev pub SameAt : ℕ → ℕ → List ℕ → List ℕ → Type 0
SameAt place count a b = take count (drop place a) ≡ take count (drop place b)

-- No checksum is right by chance: where one is, behind the records before it, its bytes stood there
-- together, as they were made durable last or as they were written last.
abbrev pub TellsTrue : ℕ → List ℕ → List ℕ → List ℕ → Type 0
TellsTrue start durable last left =
    (before : List (List ℕ)) (lsn : ℕ) (payload rest : List ℕ) → IsRecord lsn payload
    → left ≡ frames start before ++ (frame lsn payload ++ rest)
    → SameAt (length (frames start before)) (length (frame lsn payload)) left durable
    ⊎ SameAt (length (frames start before)) (length (frame lsn payload)) left last

-- these records from the first byte of a file on, and zeros behind them
abbrev pub whole : ℕ → ℕ → List (List ℕ) → List ℕ
whole size start log = frames start log ++ replicate (size - length (frames start log)) 0

-- The calls of the file since then, if its process ended and the system went on. An opening reads
-- whatever a crash might leave: it writes the records that it read again, and syncs. It may end at any
-- moment, and another one comes. The log is then what was read last, with so many durable records.
pub data Reopened (first : List ℕ) (start : ℕ) (calls : List FileCall) (log : List (List ℕ)) (durable : ℕ)
    : List FileCall → List (List ℕ) → ℕ → Type 0 where
  ended : Reopened first start calls log durable calls log durable
  again : {later : List FileCall} {found : List (List ℕ)} {n : ℕ} (bytes : List ℕ)
      (kept : List (List ℕ)) (good : Bool) → Reopened first start calls log durable later found n
      → FileLeaves first later bytes → TellsTrue start (synced_bytes first later) (written first later) bytes
      → IsRead start kept bytes → Reopened first start calls log durable
      (FileCall.Again (whole (length first) start kept) good ∷ later) kept n
  synced : {later : List FileCall} {found : List (List ℕ)} {n : ℕ} (bytes : List ℕ) (good : Bool)
      → Reopened first start calls log durable (FileCall.Again bytes true ∷ later) found n
      → Reopened first start calls log durable
      (FileCall.Sync good ∷ FileCall.Again bytes true ∷ later) found
      (if good then length found else n)
