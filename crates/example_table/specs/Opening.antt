-- An opening: which of two files has the log, and what is done with pages and files.
use Rattle.std.specs.Prelude.{◌≡◌, ◌≢◌, ◌⊎◌, ℕ, ◌+◌, ◌<◌, ◌≤◌, Bool, true, false, Result, Err, IfOk, IfErr, ◌-◌, ◌^◌, List, [], ◌∷◌, ◌++◌, length, reverse}
use Rattle.std.specs.Result.{IsErr, is_ok}
use Rattle.bp_page.specs.declared.limits.Geometry.{Geometry}
use Rattle.bp_ports.specs.Files.{Transfer, StoreSync}
use Rattle.bp_trail.specs.declared.records.LogRecord.{LogRecord}
use Rattle.bp_trail.specs.Lists.{some}
use Rattle.example_log.specs.declared.log.LogFile.{LogFile}
use Rattle.example_log.specs.declared.log.LogFault.{LogFault}
use Rattle.example_log.specs.declared.log.LogFault.TheVariants.{Memory, Full, HasLog, OtherSize, TwoLogs}
use Rattle.example_table.specs.declared.table.TableFault.{TableFault}
use Rattle.example_table.specs.declared.table.TableFault.TheVariants.{Log, Pages}
use Rattle.bp_page.specs.declared.refusals.Refusal.TheVariants.{OutOfPage}
use Rattle.example_log.specs.Heads.{OtherHead, ReadFault}
use Rattle.example_log.specs.Commits.{HasCommits, log_of}
use Rattle.example_log.specs.Disk.{Reads, Writes, Syncs, is_good_sync}
use Rattle.example_log.specs.Files.{FileCall, FileDid, FileLeaves, failed, synced, written}
use Rattle.example_log.specs.Frames.{IsRecord, NoFrame, frame}
use Rattle.example_log.specs.Lives.{LogLife, Reopened, whole}
use Rattle.example_log.specs.Moments.{AtEach, Made, Step, log_in, pages_in, spare_in}
use Rattle.example_log.specs.LogFiles.{BeginFault, BeginsBy, IsLogFile, IsUnread, Settles, StopFault, Wipes, WipesFile}
use Rattle.example_log.specs.Promise.{MayBeRedone, Recovers}

-- ---- which of two files has the log

-- where a log stands in these bytes, it begins before this LSN
abbrev pub BeginsBefore : ℕ → List ℕ → Type 0
BeginsBefore first bytes =
    (lsn : ℕ) (payload rest : List ℕ) → IsRecord lsn payload → bytes ≡ frame lsn payload ++ rest
    → lsn < first

-- a file was wiped, durably: no log begins in it, whatever a crash leaves of it
abbrev pub IsWiped : List ℕ → List FileCall → Type 0
IsWiped file calls =
    (failed calls ≡ false) × (length (written file calls) ≡ length file)
    × ((to : ℕ) → BeginsBefore to (synced file calls))
    × ((to : ℕ) → BeginsBefore to (written file calls))
    × ((to : ℕ) (left : List ℕ) → FileLeaves file calls left → BeginsBefore to left)

-- a file has these commits, and the other one no log that begins as late
pub record IsNewer (table newer older : List ℕ) (first last : ℕ) (changes : List LogRecord)
    : Type 0 where
  pub has : HasCommits table newer first last changes
  pub other : BeginsBefore first older

abbrev pub FindsLog : List ℕ → List ℕ → List ℕ → ℕ → ℕ → List LogRecord → Type 0
FindsLog table one two first last changes =
    IsNewer table one two first last changes ⊎ IsNewer table two one first last changes

-- whatever is found in two files makes of these pages what they are to be
abbrev pub MayBeOpened : Bool → ℕ → List ℕ → List ℕ → List ℕ → (ℕ → List ℕ) → (ℕ → List ℕ)
    → Type 0
MayBeOpened tears size table one two wanted pages =
    (first last : ℕ) (changes : List LogRecord) → FindsLog table one two first last changes
    → MayBeRedone tears size 0 (reverse changes) wanted pages

-- ---- what is done with the pages

-- each change lies within a page of so many, of this size
abbrev pub AreWithin : ℕ → ℕ → List LogRecord → Type 0
AreWithin pages size [] = Unit {0}
AreWithin pages size (r ∷ later) =
    (r.page < pages) × (r.offset + length r.bytes ≤ size) × AreWithin pages size later

-- what is found in the newer of two files: its commits, of which each change lies within a page. A
-- record at the front of the older one has the same head
pub record Found (device : Geometry) (table newer older : List ℕ) : Type 0 where
  pub first : ℕ
  pub last : ℕ
  pub changes : List LogRecord
  pub is_newer : IsNewer table newer older first last changes
  pub within : AreWithin device.pages device.size changes
  pub same_head : (lsn : ℕ) (payload rest : List ℕ) → IsRecord lsn payload
      → older ≡ frame lsn payload ++ rest → payload ≡ table

-- ---- what is done with the files

-- the file of the newer log as it is written again, before any page is: its records, and zeros
abbrev pub again_of : {table newer older : List ℕ} {first last : ℕ} {changes : List LogRecord}
    → IsNewer table newer older first last changes → List ℕ
again_of {table} {newer} {older} {first} is = whole (length newer) first (log_of table is.has.commits)

-- A log is begun in the other one, which names its table: the file is being wiped, or not yet; or the
-- log has no more than that record. Openings may have come since then.
pub data Beginning (file : List ℕ) (start : ℕ) (table : List ℕ) (before : List FileCall)
    : List FileCall → Type 0 where
  wiping : {more : List FileCall} → Wipes (length file) more
      → Beginning file start table before (more ++ before)
  begun : {alive : Bool} {calls later : List FileCall} {log kept : List (List ℕ)} {durable n : ℕ}
      → LogLife file start alive calls log durable → (log ≡ []) ⊎ (log ≡ table ∷ [])
      → Reopened file start calls log durable later kept n
      → Beginning file start table before later

-- a log is begun in a file, whatever that had, in part or durably
abbrev pub BeginsLog : {S : Type 0} → Transfer S → Transfer S → StoreSync S → LogFile S → LogFile S
    → ℕ → List ℕ → Bool → Type 0
BeginsLog reads writes syncs old new start table good =
    (file : List ℕ) (before : List FileCall)
    → length (written file before) ≡ length file → old.size ≡ length file
    → (more : List FileCall) × FileDid reads writes syncs old.store more new.store
    × AtEach (λ so_far. Beginning file start table before (so_far ++ before)) more
    × (good ≡ true → IsLogFile file start (more ++ before) (table ∷ []) 1 new)

-- why an opening is refused before it wrote anything
pub data MoveFault (device : Geometry) (head newer older : List ℕ) : TableFault → Type 0 where
  newer_fault : {why : LogFault} → ReadFault head newer why
      → MoveFault device head newer older (Log why)
  older_fault : {why : LogFault} → OtherHead head older why
      → MoveFault device head newer older (Log why)
  two_logs : {first last : ℕ} {changes : List LogRecord} → HasCommits head newer first last changes
      → ¬ BeginsBefore first older → MoveFault device head newer older (Log TwoLogs)
  beyond : {first last : ℕ} {changes : List LogRecord} → HasCommits head newer first last changes
      → ¬ AreWithin device.pages device.size changes
      → MoveFault device head newer older (Pages OutOfPage)
  no_lsn : {first last : ℕ} {changes : List LogRecord} → HasCommits head newer first last changes
      → 2 ^ 64 - 2 ≤ last → MoveFault device head newer older (Log Full)

-- A moment of an opening that found a log with these changes: the file of that log is being written
-- again; or that is durable, and pages are redone; or all are, durably, and synced since, and a log is
-- begun in the other file, of so many bytes, or not yet.
pub data IsOpening (device : Geometry) (again table : List ℕ) (changes : List LogRecord)
    (next size : ℕ) (so_far : List Step) : Type 0 where
  settling : {all : List FileCall} {good : Bool} (later : List FileCall) → pages_in so_far ≡ []
      → spare_in so_far ≡ [] → Settles again all good → all ≡ later ++ log_in so_far
      → IsOpening device again table changes next size so_far
  redoing : spare_in so_far ≡ [] → Settles again (log_in so_far) true
      → Recovers device.pages device.size 0 (reverse changes) (pages_in so_far) false
      → IsOpening device again table changes next size so_far
  beginning : Settles again (log_in so_far) true
      → Recovers device.pages device.size 0 (reverse changes) (pages_in so_far) true
      → some is_good_sync (pages_in so_far) ≡ true → BeginsBy size next table (spare_in so_far)
      → IsOpening device again table changes next size so_far

-- its calls of the device and of both files stand in one list, in the order in which they were made
pub record IsInOrder {S P : Type 0} (reads writes : P → Transfer S) (syncs : P → StoreSync S)
    (page_reads : Reads P) (page_writes : Writes P) (page_syncs : Syncs P) (device : Geometry)
    (again table : List ℕ) (changes : List LogRecord) (next : ℕ) (old new : P)
    (old_newer new_newer old_older new_older : LogFile S) : Type 0 where
  pub steps : List Step
  pub did : Made page_reads page_writes page_syncs reads writes syncs
      (record { port = old; log = old_newer.store; spare = old_older.store }) steps
      (record { port = new; log = new_newer.store; spare = new_older.store })
  pub each : AtEach (IsOpening device again table changes next old_older.size) steps

-- a call of a log was refused so
abbrev pub LogRefused : (LogFault → Type 0) → TableFault → Type 0
LogRefused So (Log why) = So why
LogRefused So (Pages why) = ⊥

-- What an opening does: it is refused, with nothing done; or it writes the newer log again, and that
-- is not yet durable; or it stops within the redo; or all is redone, and a log is begun in the other
-- file, in part or durably.
pub data MovesLog {S P : Type 0} (reads writes : P → Transfer S) (syncs : P → StoreSync S)
    (page_reads : Reads P) (page_writes : Writes P) (page_syncs : Syncs P) (device : Geometry)
    (table newer older : List ℕ) (old : P) (old_newer old_older : LogFile S)
    : Result (Unit {0}) TableFault → P → LogFile S → LogFile S → Type 0 where
  refused : (why : TableFault) → MoveFault device table newer older why
      → MovesLog reads writes syncs page_reads page_writes page_syncs device table newer older
      old old_newer old_older (Err why) old old_newer old_older
  unsettled : {new_newer : LogFile S} (f : Found device table newer older) (why : TableFault)
      (o : IsInOrder reads writes syncs page_reads page_writes page_syncs device (again_of f.is_newer)
      table f.changes (f.last + 1) old old old_newer new_newer old_older old_older)
      → (pages_in o.steps ≡ []) × (spare_in o.steps ≡ [])
      → Settles (again_of f.is_newer) (log_in o.steps) false
      → LogRefused (StopFault (reads old) (writes old) (syncs old) (λ calls. Settles (again_of f.is_newer)
      calls false) old_newer.store new_newer.store) why
      → MovesLog reads writes syncs page_reads page_writes page_syncs device table newer older
      old old_newer old_older (Err why) old new_newer old_older
  stopped : {new : P} {new_newer : LogFile S} (f : Found device table newer older) (done : Bool)
      (why : TableFault)
      (o : IsInOrder reads writes syncs page_reads page_writes page_syncs device (again_of f.is_newer)
      table f.changes (f.last + 1) old new old_newer new_newer old_older old_older)
      → spare_in o.steps ≡ [] → Settles (again_of f.is_newer) (log_in o.steps) true
      → Recovers device.pages device.size 0 (reverse f.changes) (pages_in o.steps) done
      → MovesLog reads writes syncs page_reads page_writes page_syncs device table newer older
      old old_newer old_older (Err why) new new_newer old_older
  moved : {new : P} {new_newer new_older : LogFile S} (f : Found device table newer older)
      (result : Result (Unit {0}) TableFault)
      (o : IsInOrder reads writes syncs page_reads page_writes page_syncs device (again_of f.is_newer)
      table f.changes (f.last + 1) old new old_newer new_newer old_older new_older)
      → Settles (again_of f.is_newer) (log_in o.steps) true
      → Recovers device.pages device.size 0 (reverse f.changes) (pages_in o.steps) true
      → BeginsBy old_older.size (f.last + 1) table (spare_in o.steps)
      → IfErr result (LogRefused (BeginFault (reads new) (writes new) (syncs new) old_older.size (f.last + 1)
      table old_older.store new_older.store))
      → (is_ok result ≡ true → (file : List ℕ) (before : List FileCall)
      → length (written file before) ≡ length file → old_older.size ≡ length file
      → IsLogFile file (f.last + 1) (spare_in o.steps ++ before) (table ∷ []) 1 new_older)
      → MovesLog reads writes syncs page_reads page_writes page_syncs device table newer older
      old old_newer old_older result new new_newer new_older

-- these calls wrote nothing
abbrev pub AreReads : List FileCall → Type 0
AreReads [] = Unit {0}
AreReads (FileCall.Read start bytes good ∷ older) = AreReads older
AreReads (_ ∷ older) = ⊥

abbrev pub IsOnlyRead : {S : Type 0} → Transfer S → Transfer S → StoreSync S → LogFile S → LogFile S
    → Type 0
IsOnlyRead reads writes syncs old new =
    (calls : List FileCall) × FileDid reads writes syncs old.store calls new.store × AreReads calls

-- no record stands at the front of a file, whatever a crash leaves of it
pub record IsEmptied (file : List ℕ) (calls : List FileCall) : Type 0 where
  pub well : failed calls ≡ false
  pub long : length (written file calls) ≡ length file
  pub last : NoFrame (written file calls)
  pub durably : NoFrame (synced file calls)
  pub left : (bytes : List ℕ) → FileLeaves file calls bytes → NoFrame bytes

abbrev pub EmptiesFile : {S : Type 0} → Transfer S → Transfer S → StoreSync S → LogFile S → LogFile S
    → Type 0
EmptiesFile reads writes syncs old new =
    (file : List ℕ) (before : List FileCall)
    → length (written file before) ≡ length file → old.size ≡ length file
    → (more : List FileCall) × FileDid reads writes syncs old.store more new.store
    × IsEmptied file (more ++ before)

-- two files of one size were read, and no record stands at the front of either
pub record AreBlank {S : Type 0} (reads : Transfer S) (one two mid_one mid_two : LogFile S)
    : Type 0 where
  pub a : List ℕ
  pub b : List ℕ
  pub size : one.size ≡ two.size
  pub long : (length a ≡ one.size) × (length b ≡ two.size)
  pub read_one : reads one.store 0 a true mid_one.store
  pub read_two : reads two.store 0 b true mid_two.store
  pub same : (mid_one.size ≡ one.size) × (mid_two.size ≡ two.size)
  pub blank : NoFrame a × NoFrame b

-- What the making of a table does: it is refused, with nothing written, where the files have two
-- sizes, one is not read, or a record stands at the front of one; or the second is wiped, in part; or
-- it is empty, whatever a crash leaves of it, and a log is begun in the first, in part or durably.
pub data CreatesLog {S : Type 0} (reads writes : Transfer S) (syncs : StoreSync S) (head : List ℕ)
    (one two : LogFile S) : Result (Unit {0}) LogFault → LogFile S → LogFile S → Type 0 where
  sizes : one.size ≢ two.size → CreatesLog reads writes syncs head one two (Err OtherSize) one two
  unread_one : {new_one : LogFile S} {why : LogFault} → one.size ≡ two.size
      → IsUnread reads one.store new_one.store why
      → CreatesLog reads writes syncs head one two (Err why) new_one two
  unread_two : {new_one new_two : LogFile S} {why : LogFault} (a : List ℕ) → one.size ≡ two.size
      → reads one.store 0 a true new_one.store → IsUnread reads two.store new_two.store why
      → CreatesLog reads writes syncs head one two (Err why) new_one new_two
  has_log : {new_one new_two : LogFile S} (a b : List ℕ) → one.size ≡ two.size
      → (length a ≡ one.size) × (length b ≡ two.size) → reads one.store 0 a true new_one.store
      → reads two.store 0 b true new_two.store → ¬ NoFrame a ⊎ ¬ NoFrame b
      → CreatesLog reads writes syncs head one two (Err HasLog) new_one new_two
  unwiped : {new_one new_two : LogFile S} {why : LogFault} (mid : LogFile S)
      → AreBlank reads one two new_one mid
      → StopFault reads writes syncs (Wipes mid.size) mid.store new_two.store why
      → WipesFile reads writes syncs mid.size mid.store false new_two.store
      → CreatesLog reads writes syncs head one two (Err why) new_one new_two
  begun : {new_one new_two : LogFile S} (mid_one mid_two : LogFile S)
      (result : Result (Unit {0}) LogFault) → AreBlank reads one two mid_one mid_two
      → EmptiesFile reads writes syncs mid_two new_two
      → BeginsLog reads writes syncs mid_one new_one 1 head (is_ok result)
      → IfErr result (BeginFault reads writes syncs one.size 1 head mid_one.store new_one.store)
      → CreatesLog reads writes syncs head one two result new_one new_two

-- both files were read, and the log goes on in that of the older one, which is the second or not
pub record Moves {S P : Type 0} (reads writes : P → Transfer S) (syncs : P → StoreSync S)
    (page_reads : Reads P) (page_writes : Writes P) (page_syncs : Syncs P) (device : Geometry)
    (table : List ℕ) (is_second : Bool) (old : P) (newer older : LogFile S) (result : Result Bool TableFault)
    (new : P) (new_newer new_older : LogFile S) : Type 0 where
  pub bytes : List ℕ
  pub other : List ℕ
  pub mid_newer : LogFile S
  pub mid_older : LogFile S
  pub outcome : Result (Unit {0}) TableFault
  pub read_newer : reads old newer.store 0 bytes true mid_newer.store
  pub read_older : reads old older.store 0 other true mid_older.store
  pub size : (mid_older.size ≡ length other) × (mid_newer.size ≡ length bytes)
  pub moves : MovesLog reads writes syncs page_reads page_writes page_syncs device table bytes other
      old mid_newer mid_older outcome new new_newer new_older
  pub told : IfOk result (λ which. (which ≡ is_second) × (is_ok outcome ≡ true))
  pub refused : IfErr result (λ why. outcome ≡ Err why)

-- why an opening does not come to the logs: the files are to have other lengths, there is no memory,
-- the read of a file fails, or another head than the wanted one stands in it
pub data UnreadFault {S : Type 0} (reads : Transfer S) (head : List ℕ) (one two : LogFile S)
    : TableFault → Type 0 where
  sizes : one.size ≢ two.size → UnreadFault reads head one two (Log OtherSize)
  no_memory : one.size ≡ two.size → UnreadFault reads head one two (Log Memory)
  unread_one : {why : LogFault} (after : S) → one.size ≡ two.size → IsUnread reads one.store after why
      → UnreadFault reads head one two (Log why)
  unread_two : {why : LogFault} (after : S) → one.size ≡ two.size → IsUnread reads two.store after why
      → UnreadFault reads head one two (Log why)
  head_of_one : {why : LogFault} (bytes : List ℕ) (after : S) → one.size ≡ two.size
      → reads one.store 0 bytes true after
      → OtherHead head bytes why → UnreadFault reads head one two (Log why)
  head_of_two : {why : LogFault} (bytes : List ℕ) (after : S) → one.size ≡ two.size
      → reads two.store 0 bytes true after
      → OtherHead head bytes why → UnreadFault reads head one two (Log why)

-- an opening that wrote nothing; or the log goes on in the second file, or in the first
abbrev pub OpensLog : {S P : Type 0} → (P → Transfer S) → (P → Transfer S) → (P → StoreSync S)
    → Reads P → Writes P → Syncs P → Geometry → List ℕ → P → LogFile S → LogFile S
    → Result Bool TableFault → P → LogFile S → LogFile S → Type 0
OpensLog reads writes syncs page_reads page_writes page_syncs device table old one two result new
    new_one new_two =
    (IsErr result × IfErr result (UnreadFault (reads old) table one two) × (new ≡ old)
    × IsOnlyRead (reads old) (writes old) (syncs old) one new_one
    × IsOnlyRead (reads old) (writes old) (syncs old) two new_two)
    ⊎ Moves reads writes syncs page_reads page_writes page_syncs device table true old one two
    result new new_one new_two
    ⊎ Moves reads writes syncs page_reads page_writes page_syncs device table false old two one
    result new new_two new_one
