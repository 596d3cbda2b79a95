-- The first record of a log, its head: how many bytes its file has, over what pages it is, and which
-- table it is of.
use Rattle.std.specs.Prelude.{◌≡◌, ◌≢◌, ℕ, ◌+◌, List, ◌++◌, length, take, drop}
use Rattle.bp_page.specs.declared.limits.Geometry.{Geometry}
use Rattle.bp_trail.specs.declared.records.LogRecord.{LogRecord}
use Rattle.example_log.specs.declared.log.LogFault.{LogFault}
use Rattle.example_log.specs.declared.log.LogFault.TheVariants.{Memory, NoLog, OtherTable, OtherSize, OtherPages, UnevenLsn, NoChanges}
use Rattle.example_log.specs.Commits.{AreChanges, log_of, payload_of}
use Rattle.example_log.specs.Frames.{IsRecord, NoFrame, frame, frames, number}
use Rattle.example_log.specs.Lives.{AreRecords}

abbrev pub head_of : ℕ → Geometry → List ℕ → List ℕ
head_of size device table = number size ++ (number device.pages ++ (number device.size ++ table))

-- how another head than the wanted one differs from it: its 24 bytes of numbers tell first the size
pub data HeadFault (wanted found : List ℕ) : LogFault → Type 0 where
  other_table : drop 24 found ≢ drop 24 wanted → HeadFault wanted found OtherTable
  other_size : drop 24 found ≡ drop 24 wanted → take 8 found ≢ take 8 wanted
      → HeadFault wanted found OtherSize
  other_pages : drop 24 found ≡ drop 24 wanted → take 8 found ≡ take 8 wanted → found ≢ wanted
      → HeadFault wanted found OtherPages

-- a record with another payload than the wanted head stands at the front of these bytes
pub record OtherHead (head bytes : List ℕ) (why : LogFault) : Type 0 where
  pub lsn : ℕ
  pub payload : List ℕ
  pub rest : List ℕ
  pub is_record : IsRecord lsn payload
  pub stands : bytes ≡ frame lsn payload ++ rest
  pub differs : payload ≢ head
  pub fault : HeadFault head payload why

-- a record stands behind the records of these commits
pub record Behind (head bytes : List ℕ) (commits : List (List LogRecord)) (first lsn : ℕ)
    (payload : List ℕ) : Type 0 where
  pub rest : List ℕ
  pub records : AreRecords first (log_of head commits)
  pub is_record : IsRecord lsn payload
  pub stands : bytes ≡ frames first (log_of head commits) ++ (frame lsn payload ++ rest)

-- why bytes are no log with this head
pub data ReadFault (head bytes : List ℕ) : LogFault → Type 0 where
  memory : ReadFault head bytes Memory
  no_log : NoFrame bytes → ReadFault head bytes NoLog
  other_head : {why : LogFault} → OtherHead head bytes why → ReadFault head bytes why
  uneven : {first lsn : ℕ} {commits : List (List LogRecord)} {payload : List ℕ}
      → Behind head bytes commits first lsn payload → lsn ≢ first + 1 + length commits
      → ReadFault head bytes UnevenLsn
  no_changes : {first lsn : ℕ} {commits : List (List LogRecord)} {payload : List ℕ}
      → Behind head bytes commits first lsn payload → ((changes : List LogRecord)
      → AreChanges lsn changes → payload ≢ payload_of changes) → ReadFault head bytes NoChanges
