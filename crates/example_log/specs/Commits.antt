-- Commits as records of a log: the changes of each are one payload, under one LSN.
use Rattle.std.specs.Prelude.{◌≡◌, ◌≢◌, ℕ, ◌+◌, ◌<◌, ◌≤◌, ◌^◌, List, [], ◌∷◌, ◌++◌, length, map}
use Rattle.bp_trail.specs.declared.records.LogRecord.{LogRecord}
use Rattle.example_log.specs.declared.log.LogFault.{LogFault}
use Rattle.example_log.specs.declared.log.LogFault.TheVariants.{Memory}
use Rattle.example_log.specs.Frames.{number}
use Rattle.example_log.specs.Lives.{IsRead}

abbrev pub change_bytes : LogRecord → List ℕ
change_bytes r = number r.page ++ (number r.offset ++ (number (length r.bytes) ++ r.bytes))

abbrev pub payload_of : List LogRecord → List ℕ
payload_of [] = []
payload_of (r ∷ later) = change_bytes r ++ payload_of later

-- the records of a log whose first one names its table
abbrev pub log_of : List ℕ → List (List LogRecord) → List (List ℕ)
log_of table commits = table ∷ map payload_of commits

-- all changes, the oldest first
abbrev pub changes_of : List (List LogRecord) → List LogRecord
changes_of [] = []
changes_of (commit ∷ later) = commit ++ changes_of later

-- what a change may tell
pub record IsChange (lsn : ℕ) (r : LogRecord) : Type 0 where
  pub under : r.lsn ≡ lsn
  pub page : r.page < 2 ^ 64
  pub offset : r.offset < 2 ^ 32
  pub size : length r.bytes < 2 ^ 64

abbrev pub AreChanges : ℕ → List LogRecord → Type 0
AreChanges lsn [] = Unit {0}
AreChanges lsn (r ∷ later) = IsChange lsn r × AreChanges lsn later

abbrev pub AreCommits : ℕ → List (List LogRecord) → Type 0
AreCommits lsn [] = Unit {0}
AreCommits lsn (commit ∷ later) = AreChanges lsn commit × AreCommits (lsn + 1) later

-- these bytes are a log of this table, whose commits are these, with this LSN for the last
pub record HasCommits (table bytes : List ℕ) (first last : ℕ) (changes : List LogRecord) : Type 0 where
  pub commits : List (List LogRecord)
  pub is_read : IsRead first (log_of table commits) bytes
  pub are : AreCommits (first + 1) commits
  pub last_is : last ≡ first + length commits
  pub changes_are : changes ≡ changes_of commits

-- no change stands at the front of these bytes
abbrev pub NoChange : ℕ → List ℕ → Type 0
NoChange lsn bytes =
    (r : LogRecord) (rest : List ℕ) → IsChange lsn r → bytes ≢ change_bytes r ++ rest

-- what a refusal tells, but for one that wants memory
abbrev pub Tells : LogFault → Type 0 → Type 0
Tells Memory P = Unit {0}
Tells why P = P

-- what was read are the first of the commits, each whole, and as many as were durable; the record that
-- names the table was, where any was
pub record Kept (start durable : ℕ) (commits : List (List LogRecord)) (first last : ℕ)
    (changes : List LogRecord) : Type 0 where
  pub kept : List (List LogRecord)
  pub lost : List (List LogRecord)
  pub stands : commits ≡ kept ++ lost
  pub durably : durable ≤ 1 + length kept
  pub first_is : first ≡ start
  pub last_is : last ≡ start + length kept
  pub changes_are : changes ≡ changes_of kept
