-- A table as its calls leave it: a pool over a device, and a log in a file.
use Rattle.std.specs.Prelude.{◌≡◌, ℕ, ◌+◌, ◌<◌, ◌≤◌, Bool, true, false, IsFalse, if◌then◌else◌, List, [], ◌∷◌, ◌++◌, reverse}
use Rattle.bp_trail.specs.declared.records.LogRecord.{LogRecord}
use Rattle.bp_trail.specs.Parameters.{Parameters}
use Rattle.bp_trail.specs.Lists.{some}
use Rattle.bp_trail.specs.Trail.{Trail}
use Rattle.bp_trail.specs.Clock.{durable}
use Rattle.bp_trail.specs.Event.{is_write, discards}
use Rattle.bp_trail.specs.Legal.{Legal}
use Rattle.bp_trail.specs.Recovery.{record_of, redo}
use Rattle.bp_trail.specs.Saved.{unsaved}
use Rattle.example_log.specs.Commits.{log_of, changes_of, AreCommits}
use Rattle.example_log.specs.Disk.{DeviceCall, sync_failed}
use Rattle.example_log.specs.Files.{FileCall}
use Rattle.example_log.specs.Lives.{LogLife}
use Rattle.example_table.specs.Images.{FirstsAreFull}
use Rattle.example_table.specs.PoolLives.{PoolFrom, PoolLife}

-- the writes of a trail as records, newest first
abbrev pub writes_of : Trail → List LogRecord
writes_of [] = []
writes_of (e ∷ past) = if is_write e.call then record_of e.call ∷ writes_of past else writes_of past

-- each LSN is below this one
abbrev pub AreBelow : ℕ → List LogRecord → Type 0
AreBelow lsn [] = Unit {0}
AreBelow lsn (r ∷ older) = (r.lsn < lsn) × AreBelow lsn older

-- where a log was begun: the entries of the pool and the calls of its device until then, and the
-- commits until then
pub record Cut : Type 0 where
  pub past : Trail
  pub calls : List DeviceCall
  pub commits : List (List LogRecord)

abbrev pub no_cut : Cut
no_cut = record { past = []; calls = []; commits = [] }

-- where it was begun each commit was written by the pool, under lower LSNs, and each page was saved,
-- and synced
pub record IsCut (start : ℕ) (cut : Cut) : Type 0 where
  pub life : PoolLife cut.past cut.calls cut.past
  pub saved : (p : ℕ) → unsaved cut.past p ≡ false
  pub written : reverse (changes_of cut.commits) ≡ writes_of cut.past
  pub below : AreBelow start (writes_of cut.past)

-- what commits make of the first images
abbrev pub contents : Cut → List (List LogRecord) → (ℕ → List ℕ) → ℕ → List ℕ
contents cut commits first p = redo 0 (reverse (changes_of (cut.commits ++ commits))) p (first p)

-- The commits of a table since its log was begun, and how many records of the log are durable. Each
-- write of the pool has its record, in the same order, in this log or before it; of the last commit
-- some may still be pending. The first change of a page in this log is full. The mark is not above what
-- is durable, which has the name of the table.
pub record TableRan (c : Parameters) (table : List ℕ) (cut : Cut) (file : List ℕ) (start : ℕ)
    (alive : Bool) (past synced : Trail) (calls : List DeviceCall) (log_calls : List FileCall)
    (commits : List (List LogRecord)) (synced_records : ℕ) (pending : List LogRecord)
    : Type 0 where
  pub log : LogLife file start alive log_calls (log_of table commits) synced_records
  pub are : AreCommits (start + 1) commits
  pub legal : Legal c past
  pub cut_is : IsCut start cut
  pub pool : PoolFrom cut.past cut.calls past calls synced
  pub unfailed : alive ≡ true → some sync_failed calls ≡ false
  pub written : reverse (changes_of (cut.commits ++ commits)) ≡ pending ++ writes_of past
  pub mark : durable past < start + synced_records
  pub named : 1 ≤ synced_records
  pub kept : (p : ℕ) → IsFalse (some (discards p) past)
  pub full : FirstsAreFull c.size (reverse (changes_of commits))

-- A table at a moment of a call that finds these commits and leaves those after: it has these, and no
-- more than those, and no fewer records are durable than when the call came.
pub record Stands (c : Parameters) (table : List ℕ) (cut : Cut) (file : List ℕ) (start : ℕ)
    (calls : List DeviceCall) (log_calls : List FileCall) (commits after : List (List LogRecord))
    (records : ℕ) : Type 0 where
  pub alive : Bool
  pub past : Trail
  pub synced : Trail
  pub now : List (List LogRecord)
  pub synced_records : ℕ
  pub pending : List LogRecord
  pub ran : TableRan c table cut file start alive past synced calls log_calls now synced_records
      pending
  pub no_fewer : records ≤ synced_records
  pub added : List (List LogRecord)
  pub to_come : List (List LogRecord)
  pub grown : now ≡ commits ++ added
  pub grows : after ≡ now ++ to_come
