-- Why a checkpoint may be stopped, and what it leaves.
use Rattle.std.proofs.Common.{◌≡◌, inl, inr, refl, sym, ap, subst, ◌∙◌, ℕ, zero, suc, max, ◌+◌, ◌-◌, ◌<◌, ◌≤◌, nat_lt, Bool, true, false, not, if◌then◌else◌, ◌&&◌, ◌||◌, List, [], ◌∷◌, ◌++◌, length, map, take, replicate, reverse, append_assoc, append-nil, arith, length-append}
use Rattle.std.specs.Prelude.{◌⊎◌, Result, Ok, Err}
use Rattle.std.specs.Result.{IsErr}
use Rattle.std.proofs.lemmas.Bool.{cases_lt, lt-leb, or_cases}
use Rattle.std.proofs.lemmas.List.{length-map, reverse-append}
use Rattle.bp_core.specs.CoreView.{CoreView}
use Rattle.bp_core.specs.Unsaved.{AreSaved}
use Rattle.bp_core.specs.Work.{DoesWork}
use Rattle.bp_trail.specs.Event.{discards}
use Rattle.bp_device.specs.Drivers.{DrivesFlush}
use Rattle.bp_device.specs.FlushAll.{FlushesAll, FlushesEach}
use Rattle.bp_device.specs.FlushAll.FlushesEach.{none as flushed_none, page as flushed_page}
use Rattle.bp_device.specs.Owned.{OwnedView}
use Rattle.bp_ports.specs.Files.{Transfer, StoreSync}
use Rattle.bp_page.specs.Refusals.{number_of}
use Rattle.bp_page.specs.declared.refusals.PortFault.{PortFault}
use Rattle.bp_trail.specs.declared.ends.Flushed.{Flushed}
use Rattle.bp_trail.specs.declared.ends.NotFlushed.{NotFlushed}
use Rattle.bp_trail.specs.declared.records.LogRecord.{LogRecord}
use Rattle.bp_trail.specs.Parameters.{Parameters}
use Rattle.bp_trail.specs.Pieces.{FlushGoesOn, FlushPiece, Outcome}
use Rattle.bp_trail.specs.Pieces.Manner.{driver}
use Rattle.bp_trail.specs.Pieces.Outcome.{accepted, refused}
use Rattle.bp_trail.specs.Pieces.FlushGoesOn.{begins, marked as was_marked, waited}
use Rattle.bp_trail.specs.Pieces.FlushPiece.{clean, absent, cleaned, still_dirty, need_log, busy, write_failed, lost_write, no_room, no_memory}
use Rattle.bp_trail.specs.Lists.{some}
use Rattle.bp_trail.specs.Trail.{Trail}
use Rattle.bp_trail.specs.Clock.{durable}
use Rattle.bp_trail.specs.Legal.{Legal}
use Rattle.bp_trail.specs.Recovery.{redo}
use Rattle.bp_trail.specs.Saved.{unsaved}
use Rattle.bp_trail.proofs.Outside.{saved-outside}
use Rattle.example_log.specs.declared.log.LogFile.{LogFile}
use Rattle.example_table.specs.declared.table.TableFault.{TableFault}
use Rattle.example_table.specs.Checkpoints.{Checkpoints, HasSaved, IsMoving, MovesOn}
use Rattle.example_table.specs.Checkpoints.Checkpoints.{moving as was_moving, moved}
use Rattle.example_table.specs.Checkpoints.IsMoving.{staying, moving}
use Rattle.example_log.specs.Commits.{AreChanges, AreCommits, HasCommits, changes_of, log_of, payload_of}
use Rattle.example_log.specs.Disk.{DeviceCall, Did, Honest, MayLeave, Reads, Writes, Syncs, is_good_sync, sync_failed}
use Rattle.example_log.specs.Disk.DeviceCall.{Sync}
use Rattle.example_log.specs.Moments.{AtEach, Step, log_in, pages_in, spare_in}
use Rattle.example_log.specs.Moments.Step.{OfPages, OfSpare}
use Rattle.example_log.proofs.Moments.{each-append, each-both, each-map, each-spare, log-more, made-append, made-pages, made-spare, never-spare, of-pages, of-spare, pages-append, pages-more, spare-append}
use Rattle.example_table.proofs.Standing.{calls-since, each-page, from-earlier}
use Rattle.example_log.specs.Files.{FileCall, FileDid, FileLeaves, failed, synced as synced_bytes, written as written_bytes}
use Rattle.example_log.specs.Frames.{frame, frames}
use Rattle.example_log.specs.Lives.{AreRecords, LogLife, Reopened, TellsTrue}
use Rattle.example_log.specs.Lives.LogLife.{closed}
use Rattle.example_log.specs.LogFiles.{IsLogFile}
use Rattle.example_table.specs.Opening.{Beginning, BeginsBefore, BeginsLog, MayBeOpened}
use Rattle.example_table.specs.Opening.Beginning.{wiping, begun as was_begun}
use Rattle.example_table.specs.PoolLives.{PoolFrom}
use Rattle.example_table.specs.PoolLives.PoolFrom.{opened, was_synced}
use Rattle.example_log.specs.Promise.{MayBeRedone}
use Rattle.example_table.specs.Images.{FirstsAreFull}
use Rattle.example_table.specs.Tables.{AreBelow, Cut, IsCut, Stands, TableRan, writes_of}
use Rattle.example_table.specs.TableCalls.{IsTable, TableGoes}
use Rattle.example_log.proofs.CommitsRead.{head-is, whole-commits}
use Rattle.example_log.proofs.Framing.{frame-same, zeros-none}
use Rattle.example_log.proofs.Lives.{LifeIs, life-is, next, remains}
use Rattle.example_table.proofs.Openings.{log-front, none-read, stood}
use Rattle.example_table.proofs.PoolLives.{IsSound, NoneOpen, since-begun, then-life}
use Rattle.example_table.proofs.Tables.{Since, changes-append, mended, since-mended, since-written, writes-append}
use Rattle.example_table.proofs.Tabling.{AddsQuiet, Quiet, none-added, pool-went, quiet-keeps, quiet-marks, quiet-writes, works}

-- ---- the LSNs before a log was begun

below-more : (a b : ℕ) (rs : List LogRecord) → a ≤ b → AreBelow a rs → AreBelow b rs
below-more a b [] le f = tt
below-more a b (r ∷ rs) le f = let lt = f.0 in (omega arith, below-more a b rs le f.1)

below-both : (n : ℕ) (xs ys : List LogRecord) → AreBelow n xs → AreBelow n ys → AreBelow n (xs ++ ys)
below-both n [] ys f g = g
below-both n (x ∷ xs) ys f g = (f.0, below-both n xs ys f.1 g)

below-reverse : (n : ℕ) (xs : List LogRecord) → AreBelow n xs → AreBelow n (reverse xs)
below-reverse n [] f = tt
below-reverse n (x ∷ xs) f = subst (AreBelow n) (sym (reverse-append (x ∷ []) xs)) (below-both n (reverse xs) (x ∷ []) (below-reverse n xs f.1) (f.0, tt))

changes-below : (lsn n : ℕ) (commit : List LogRecord) → lsn < n → AreChanges lsn commit → AreBelow n commit
changes-below lsn n [] lt f = tt
changes-below lsn n (r ∷ rs) lt f = let u = f.0.under in (omega arith, changes-below lsn n rs lt f.1)

commits-below : (lsn n : ℕ) (cs : List (List LogRecord)) → lsn + length cs ≤ n → AreCommits lsn cs → AreBelow n (changes_of cs)
commits-below lsn n [] le f = tt
commits-below lsn n (c ∷ cs) le f = below-both n c (changes_of cs) (changes-below lsn n c (omega arith) f.0) (commits-below (lsn + 1) n cs (omega arith) f.1)

module _ (c : Parameters) (table : List ℕ) (cut : Cut) (file : List ℕ) (start : ℕ) (alive : Bool) (past synced : Trail) (calls : List DeviceCall) (log_calls : List FileCall) (commits : List (List LogRecord)) (count : ℕ)
    (ran : TableRan c table cut file start alive past synced calls log_calls commits count []) where
  pub all-below : AreBelow (start + 1 + length commits) (writes_of past)
  all-below =
      let parts = since-begun cut.past cut.calls past synced calls ran.pool in
      let told = since-written cut commits [] parts.0.0 past parts.0.1 ran.cut_is.written ran.written in
      subst (AreBelow (start + 1 + length commits)) (sym (ap writes_of parts.0.1 ∙ writes-append parts.0.0 cut.past))
      (below-both (start + 1 + length commits) (writes_of parts.0.0) (writes_of cut.past)
      (subst (AreBelow (start + 1 + length commits)) told (below-reverse (start + 1 + length commits) (changes_of commits) (commits-below (start + 1) (start + 1 + length commits) commits (omega arith) ran.are)))
      (below-more start (start + 1 + length commits) (writes_of cut.past) (omega arith) ran.cut_is.below))

  -- once all is saved and synced the next log may be begun
  pub next-cut : synced ≡ past → ((p : ℕ) → unsaved past p ≡ false) → IsCut (start + 1 + length commits) (record { past = past; calls = calls; commits = cut.commits ++ commits })
  next-cut all saved = record {
    life = subst (PoolFrom [] [] past calls) all (then-life cut.past cut.calls ran.cut_is.life past synced calls ran.pool);
    saved = saved;
    written = ran.written;
    below = all-below;
  }

-- ---- a checkpoint may be stopped

-- the log that is begun in the other file has no commit
new-is-empty : (table file bytes : List ℕ) (start to f l : ℕ) (before calls : List FileCall) (cs : List LogRecord) → length (written_bytes file before) ≡ length file → BeginsBefore start (synced_bytes file before) → BeginsBefore start (written_bytes file before)
    → Beginning file to table before calls → FileLeaves file calls bytes → TellsTrue to (synced_bytes file calls) (written_bytes file calls) bytes → HasCommits table bytes f l cs → start < f → cs ≡ []
new-is-empty table file bytes start to f l before _ cs long below_synced below_written (was_begun {alive = alive} {calls = calls} {later = later} {log = log} {kept = kept} {durable = durable} {n = n} life log-is reopened) leaves tells has late =
    none-read table file bytes to alive calls later log kept durable n f l cs life log-is reopened leaves tells has
new-is-empty table file bytes start to f l before _ cs long below_synced below_written (wiping {more = more} wipes) leaves tells has late =
    let a = stood file before long start below_synced below_written more to bytes wipes tells f table (frames (f + 1) (map_payloads has.commits) ++ has.is_read.rest) has.is_read.records.0 (head-is table bytes f l cs has) in
    absurd (omega arith)
  where
    map_payloads : List (List LogRecord) → List (List ℕ)
    map_payloads [] = []
    map_payloads (x ∷ xs) = payload_of x ∷ map_payloads xs

no-more : {A : Type 0} (kept lost all : List A) → all ≡ kept ++ lost → length all ≤ length kept → kept ≡ all
no-more kept [] all e le = sym (e ∙ append-nil kept)
no-more kept (x ∷ lost) all e le = absurd (omega (arith, ap (λ t. length t) e, length-append kept (x ∷ lost)))

module _ (c : Parameters) (tears : Bool) (first left : ℕ → List ℕ) (table file other_file bytes other : List ℕ) (cut : Cut) (start : ℕ) (alive : Bool) (past : Trail) (calls : List DeviceCall) (log_calls opening_calls before other_calls : List FileCall) (commits : List (List LogRecord)) (kept : List (List ℕ)) (n : ℕ)
    (ran : TableRan c table cut file start alive past past calls log_calls commits (1 + length commits) []) (saved : (p : ℕ) → unsaved past p ≡ false) (reopened : Reopened file start log_calls (log_of table commits) (1 + length commits) opening_calls kept n)
    (honestly : Honest tears first calls) (sized : (p : ℕ) → length (first p) ≡ c.size) (file_left : FileLeaves file opening_calls bytes) (tells : TellsTrue start (synced_bytes file opening_calls) (written_bytes file opening_calls) bytes)
    (long : length (written_bytes other_file before) ≡ length other_file) (below_synced : BeginsBefore start (synced_bytes other_file before)) (below_written : BeginsBefore start (written_bytes other_file before))
    (beginning : Beginning other_file (start + 1 + length commits) table before other_calls) (other_left : FileLeaves other_file other_calls other) (other_tells : TellsTrue (start + 1 + length commits) (synced_bytes other_file other_calls) (written_bytes other_file other_calls) other)
    (leaves : (p : ℕ) → MayLeave tears first calls p (left p)) (sound : (p : ℕ) → IsSound tears c.size 0 (reverse (changes_of commits)) calls p) (closed_or_whole : (p : ℕ) → (tears ≡ false) ⊎ NoneOpen p calls) where
  abbrev wanted_pages : ℕ → List ℕ
  wanted_pages p = redo 0 (reverse (changes_of (cut.commits ++ commits))) p (first p)

  old-found : (f l : ℕ) (cs : List LogRecord) → HasCommits table bytes f l cs → MayBeRedone tears c.size 0 (reverse cs) wanted_pages left
  old-found f l cs has =
      let k = whole-commits table file bytes start (1 + length commits) alive log_calls opening_calls commits kept n f l cs ran.log ran.are reopened file_left tells has in
      let enough = k.durably in
      let all : cs ≡ changes_of commits = k.changes_are ∙ ap changes_of (no-more k.kept k.lost commits k.stands (omega arith)) in
      let m =
      mended c tears first left table file bytes cut start alive past past calls log_calls commits (1 + length commits) f l cs [] opening_calls kept n ran reopened honestly sized file_left tells leaves has
      (λ p. subst (λ (rs : List LogRecord). IsSound tears c.size 0 (reverse rs) calls p) (sym all) (sound p)) in
      subst (λ (rs : List LogRecord). MayBeRedone tears c.size 0 (reverse cs) (λ p. redo 0 (reverse rs) p (first p)) left) (ap (λ (rs : List LogRecord). changes_of cut.commits ++ rs) all ∙ sym (changes-append cut.commits commits)) m

  all-since : Since c tears first past past past calls (start + 1 + length commits) (start + length commits) []
  all-since =
      let m = ran.mark in
      record {
        life = then-life cut.past cut.calls ran.cut_is.life past past calls ran.pool;
        legal = ran.legal;
        honestly = honestly;
        kept = ran.kept;
        sized = sized;
        since = [];
        parts = refl;
        newer = [];
        settled = refl;
        saved = saved;
        below = all-below c table cut file start alive past past calls log_calls commits (1 + length commits) ran;
        pending = [];
        from = refl;
        told = refl;
        reaches = omega arith;
        mark = omega arith;
      }

  none-found : MayBeRedone tears c.size 0 [] wanted_pages left
  none-found =
      subst (λ (rs : List LogRecord). MayBeRedone tears c.size 0 [] (λ p. redo 0 rs p (first p)) left) (sym ran.written)
      (since-mended c tears first left past past past calls (start + 1 + length commits) (start + length commits) [] all-since leaves (λ p. as-sound p (closed_or_whole p)))
    where
      as-sound : (p : ℕ) → (tears ≡ false) ⊎ NoneOpen p calls → IsSound tears c.size 0 [] calls p
      as-sound p (inl safe) = inl safe
      as-sound p (inr shut) = inr (inr (refl, shut))

  pub may-be-opened : MayBeOpened tears c.size table bytes other wanted_pages left
  may-be-opened f l cs (inl k) = old-found f l cs k.has
  may-be-opened f l cs (inr k) =
      let h = log-front file bytes start alive log_calls opening_calls (log_of table commits) kept (1 + length commits) n ran.log reopened (omega arith) file_left tells in
      let late = k.other start h.0 h.1 h.2 h.3 in
      let none = new-is-empty table other_file other start (start + 1 + length commits) f l before other_calls cs long below_synced below_written beginning other_left other_tells k.has late in
      subst (λ (rs : List LogRecord). MayBeRedone tears c.size 0 (reverse rs) wanted_pages left) (sym none) none-found

-- ---- a log that another one follows

frames-before : (start to count : ℕ) (log : List (List ℕ)) → start < to → AreRecords start log → BeginsBefore to (frames start log ++ replicate count 0)
frames-before start to count [] lt are = λ lsn payload rest fit e. absurd (zeros-none count lsn payload rest fit e)
frames-before start to count (x ∷ log) lt are = λ lsn payload rest fit e.
    (let same = (frame-same lsn start payload x rest (frames (start + 1) log ++ replicate count 0) fit are.0 (sym e ∙ append_assoc (frame start x) (frames (start + 1) log) (replicate count 0))).0 in omega (arith, same))

records-front : (start n : ℕ) (log : List (List ℕ)) → AreRecords start log → AreRecords start (take n log)
records-front start zero log f = tt
records-front start (suc n) [] f = tt
records-front start (suc n) (x ∷ log) f = (f.0, records-front (start + 1) n log f.1)

module _ (file : List ℕ) (start to : ℕ) (alive : Bool) (calls later : List FileCall) (log kept : List (List ℕ)) (durable n : ℕ) (life : LogLife file start alive calls log durable) (reopened : Reopened file start calls log durable later kept n) (lt : start < to) where
  old-life : LifeIs file start false later kept n
  old-life = (remains file start log durable alive calls (life-is file start alive calls log durable life) later kept n reopened).is

  pub old-long : length (written_bytes file later) ≡ length file
  old-long = let room = old-life.room in ap (λ (t : List ℕ). length t) old-life.written_is ∙ omega (arith, length-append (frames start kept) (replicate (length file - length (frames start kept)) 0), length-zeros (length file - length (frames start kept)))
    where
      length-zeros : (k : ℕ) → length (replicate {A = ℕ} k 0) ≡ k
      length-zeros zero = refl
      length-zeros (suc k) = ap suc (length-zeros k)

  pub old-written : BeginsBefore to (written_bytes file later)
  old-written = subst (BeginsBefore to) (sym old-life.written_is) (frames-before start to (length file - length (frames start kept)) kept lt old-life.records)

  pub old-synced : BeginsBefore to (synced_bytes file later)
  old-synced = subst (BeginsBefore to) (sym old-life.synced_is) (frames-before start to (length file - length (frames start (take n kept))) (take n kept) lt (records-front start n kept old-life.records))

  pub old-left : (left : List ℕ) → FileLeaves file later left → TellsTrue start (synced_bytes file later) (written_bytes file later) left → BeginsBefore to left
  old-left left leaves tells = λ lsn payload rest fit e. (let h = next file start false later kept n left old-life leaves tells [] kept refl lsn payload rest fit e in let at = h.3 in omega arith)

pub old-good : (file : List ℕ) (start : ℕ) (calls : List FileCall) (log : List (List ℕ)) (durable : ℕ) → LogLife file start true calls log durable → failed calls ≡ false
old-good file start calls log durable life = (life-is file start true calls log durable life).good refl

-- ---- a flush of all pages adds quiet entries

goes-quiet : (client page : ℕ) (piece : Trail) → FlushGoesOn driver client page piece → Quiet piece
goes-quiet client page _ begins = tt
goes-quiet client page _ (was_marked {older = older} lsn session before) = absurd (cc)
goes-quiet client page _ (waited {older = older} session before) = (refl, refl, refl, goes-quiet client page older before)

flush-quiet : (client page : ℕ) (piece : Trail) (outcome : Outcome) → FlushPiece driver client page piece outcome → Quiet piece
flush-quiet client page _ _ (clean {older = older} before) = (refl, refl, refl, goes-quiet client page older before)
flush-quiet client page _ _ (absent {older = older} before) = (refl, refl, refl, goes-quiet client page older before)
flush-quiet client page _ _ (cleaned {older = older} t image before) = (refl, refl, refl, (refl, refl, refl, goes-quiet client page older before))
flush-quiet client page _ _ (still_dirty {older = older} t image before) = (refl, refl, refl, (refl, refl, refl, goes-quiet client page older before))
flush-quiet client page _ _ (need_log {older = older} lsn before) = (refl, refl, refl, goes-quiet client page older before)
flush-quiet client page _ _ (busy {older = older} d before) = (refl, refl, refl, goes-quiet client page older before)
flush-quiet client page _ _ (write_failed {older = older} t image before) = (refl, refl, refl, (refl, refl, refl, goes-quiet client page older before))
flush-quiet client page _ _ (lost_write {older = older} t image session before) = (refl, refl, refl, goes-quiet client page older before)
flush-quiet client page _ _ (no_room {older = older} before) = goes-quiet client page older before
flush-quiet client page _ _ (no_memory {older = older} before) = goes-quiet client page older before

quiet-both : (a b : Trail) → Quiet a → Quiet b → Quiet (a ++ b)
quiet-both [] b p q = q
quiet-both (e ∷ a) b p q = (p.0, p.1, p.2, quiet-both a b p.3 q)

one-quiet : (mid new : CoreView) (page : ℕ) (result : Result Flushed _) → DrivesFlush mid 0 page result new → AddsQuiet mid new
one-quiet mid new page (Ok how) h = record { piece = h.piece; quiet = flush-quiet 0 page h.piece accepted h.of_row.0; past = ap (λ (x : CoreView). x.past) h.is }
one-quiet mid new page (Err why) h = record { piece = h.piece; quiet = flush-quiet 0 page h.piece (refused (number_of why)) h.of_row; past = ap (λ (x : CoreView). x.past) h.is }

both-quiet : (old mid new : CoreView) → AddsQuiet old mid → AddsQuiet mid new → AddsQuiet old new
both-quiet old mid new a b = record {
  piece = b.piece ++ a.piece;
  quiet = quiet-both b.piece a.piece b.quiet a.quiet;
  past = b.past ∙ ap (λ (t : Trail). b.piece ++ t) a.past ∙ sym (append_assoc b.piece a.piece old.past);
}

each-quiet : (old new : CoreView) (from : ℕ) → FlushesEach 0 old from new → AddsQuiet old new
each-quiet old _ _ flushed_none = record { piece = []; quiet = tt; past = refl }
each-quiet old new _ (flushed_page {from = from} {mid = mid} page how before found flush) = both-quiet old mid new (each-quiet old mid from before) (one-quiet mid new page (Ok how) flush)

pub all-quiet : (old new : CoreView) (result : Result (Unit {0}) NotFlushed) → FlushesAll 0 old result new → AddsQuiet old new
all-quiet old new (Ok done) h = each-quiet old new h.next h.flushed
all-quiet old new (Err stop) h = both-quiet old h.mid new (each-quiet old h.mid h.next h.flushed) (one-quiet h.mid new stop.page (Err stop.why) h.refused)

-- ---- all pages are saved

pub all-saved : (c : Parameters) (past : Trail) → Legal c past → AreSaved 0 c.pages past → (p : ℕ) → unsaved past p ≡ false
all-saved c past l saved p = elim (cases_lt p c.pages) [
  | inl lt ↦ saved p (omega arith) lt
  | inr le ↦ saved-outside c past l p (outside p c.pages le)
]
  where
    outside : (a b : ℕ) → b ≤ a → nat_lt a b ≡ false
    outside a b le = lt-leb (suc a) b (omega arith)

-- ---- pages are written out, and synced

ends : {first : List ℕ} {start : ℕ} {calls : List FileCall} {log : List (List ℕ)} {count : ℕ} (b : Bool) → LogLife first start (not b) calls log count → LogLife first start false calls log count
ends true life = life
ends false life = closed life

module _ {S P : Type 0} (reads writes : P → Transfer S) (syncs : P → StoreSync S) (page_reads : Reads P) (page_writes : Writes P) (page_syncs : Syncs P) (table : List ℕ) (cut : Cut) (file : List ℕ) (start : ℕ) (synced : Trail) (calls : List DeviceCall) (log_calls : List FileCall) (commits : List (List LogRecord)) (records : ℕ) (pending : List LogRecord)
    (old mid : OwnedView P) (old_log : LogFile S) (is : IsTable table cut file start synced calls log_calls commits records pending old old_log)
    (adds : AddsQuiet old.core mid.core) (work : DoesWork page_reads page_writes old.core old.port mid.core mid.port) (legal : Legal mid.core.parameters mid.core.past) where
  worked : (more : List DeviceCall) × Did page_reads page_writes page_syncs old.port more mid.port × PoolFrom cut.past cut.calls (work.piece ++ old.core.past) (more ++ calls) synced × (some sync_failed more ≡ false)
  worked = works page_reads page_writes page_syncs cut.past cut.calls old.core.past synced work.piece calls old.port mid.port is.ran.pool work.through

  same : mid.core.parameters ≡ old.core.parameters
  same = ap (λ (x : CoreView). x.parameters) work.is

  full-still : FirstsAreFull mid.core.parameters.size (reverse (changes_of commits))
  full-still = subst (λ (c : Parameters). FirstsAreFull c.size (reverse (changes_of commits))) (sym same) is.ran.full

  mid-ran : TableRan mid.core.parameters table cut file start (not old_log.is_ended) mid.core.past synced (worked.0 ++ calls) log_calls commits records pending
  mid-ran = record {
    log = is.ran.log;
    are = is.ran.are;
    legal = legal;
    cut_is = is.ran.cut_is;
    pool = subst (λ (t : Trail). PoolFrom cut.past cut.calls t (worked.0 ++ calls) synced) (sym (ap (λ (x : CoreView). x.past) work.is)) worked.2;
    unfailed = λ yes. none-added worked.0 calls worked.3 (is.ran.unfailed yes);
    written = is.ran.written ∙ ap (λ (rs : List LogRecord). pending ++ rs) (sym (ap writes_of adds.past ∙ quiet-writes adds.piece old.core.past adds.quiet));
    mark = subst (λ (n : ℕ). n < start + records) (sym (ap durable adds.past ∙ quiet-marks adds.piece old.core.past adds.quiet)) is.ran.mark;
    named = is.ran.named;
    kept = λ q. subst (λ (t : Trail). some (discards q) t ≡ false) (sym adds.past) (quiet-keeps adds.piece old.core.past q adds.quiet (is.ran.kept q));
    full = full-still;
  }

  pub stops-flushing : TableGoes reads writes syncs page_reads page_writes page_syncs old mid old_log old_log table cut file start calls log_calls commits records (λ after n left. (after ≡ commits) × (left ≡ pending))
  stops-flushing =
      pool-went reads writes syncs page_reads page_writes page_syncs table cut file start synced calls log_calls commits records pending old old_log is mid old_log worked.0 pending synced (λ after n left. (after ≡ commits) × (left ≡ pending)) same refl worked.1 (record { ran = mid-ran; file_is = is.file_is }) (refl, refl)

  module _ (new : OwnedView P) (core : new.core ≡ mid.core) where
    abbrev ended : LogFile S
    ended = record { store = old_log.store; size = old_log.size; end = old_log.end; next = old_log.next; is_ended = true }

    pub stops-syncing : (fault : PortFault) → page_syncs mid.port (Err fault) new.port
        → TableGoes reads writes syncs page_reads page_writes page_syncs old new old_log (record { store = old_log.store; size = old_log.size; end = old_log.end; next = old_log.next; is_ended = true }) table cut file start calls log_calls commits records (λ after n left. (after ≡ commits) × (left ≡ pending))
    stops-syncing fault gave =
        pool-went reads writes syncs page_reads page_writes page_syncs table cut file start synced calls log_calls commits records pending old old_log is new ended (Sync false ∷ worked.0) pending synced (λ after n left. (after ≡ commits) × (left ≡ pending)) (ap (λ (x : CoreView). x.parameters) core ∙ same) refl (mid.port, worked.1, (Err fault, gave, refl)) (record {
          ran =
              subst (λ (x : CoreView). TableRan x.parameters table cut file start false x.past synced (Sync false ∷ worked.0 ++ calls) log_calls commits records pending) (sym core)
              (record {
                log = ends old_log.is_ended mid-ran.log;
                are = mid-ran.are;
                legal = mid-ran.legal;
                cut_is = mid-ran.cut_is;
                pool = was_synced false mid-ran.pool;
                unfailed = λ no. absurd (cc);
                written = mid-ran.written;
                mark = mid-ran.mark;
                named = mid-ran.named;
                kept = mid-ran.kept;
                full = mid-ran.full;
              });
          file_is = record { life = ends old_log.is_ended is.file_is.life; positive = is.file_is.positive; size = is.file_is.size; end = λ no. absurd (cc); next = λ no. absurd (cc) };
        }) (refl, refl)

    pub all-synced : (done : Unit {0}) → old_log.is_ended ≡ false → page_syncs mid.port (Ok done) new.port → ((p : ℕ) → unsaved mid.core.past p ≡ false)
        → HasSaved page_reads page_writes page_syncs old new old_log table cut file start calls log_calls commits records pending
    all-synced done alive gave saved = record {
      more = Sync true ∷ worked.0;
      parameters = ap (λ (x : CoreView). x.parameters) core ∙ same;
      did = (mid.port, worked.1, (Ok done, gave, refl));
      is = record {
        ran =
            subst (λ (x : CoreView). TableRan x.parameters table cut file start (not old_log.is_ended) x.past x.past (Sync true ∷ worked.0 ++ calls) log_calls commits records pending) (sym core)
            (record {
              log = mid-ran.log;
              are = mid-ran.are;
              legal = mid-ran.legal;
              cut_is = mid-ran.cut_is;
              pool = subst (PoolFrom cut.past cut.calls mid.core.past (Sync true ∷ worked.0 ++ calls)) (to-all (some sync_failed (worked.0 ++ calls)) (mid-ran.unfailed (ap not alive))) (was_synced true mid-ran.pool);
              unfailed = mid-ran.unfailed;
              written = mid-ran.written;
              mark = mid-ran.mark;
              named = mid-ran.named;
              kept = mid-ran.kept;
              full = mid-ran.full;
            });
        file_is = is.file_is;
      };
      saved = λ p. subst (λ (x : CoreView). unsaved x.past p ≡ false) (sym core) (saved p);
      synced = refl;
    }
      where
        to-all : (b : Bool) → b ≡ false → (if true && not b then mid.core.past else synced) ≡ mid.core.past
        to-all true e = absurd (cc)
        to-all false e = refl

-- ---- the log moves

some-of : (f : DeviceCall → Bool) (xs ys : List DeviceCall) → some f xs ≡ true → some f (xs ++ ys) ≡ true
some-of f [] ys h = absurd (cc)
some-of f (x ∷ xs) ys h = elim (or_cases (f x) (some f xs) h) [
  | inl here ↦ ap (λ (b : Bool). b || some f (xs ++ ys)) here
  | inr later ↦ ap (λ (b : Bool). f x || b) (some-of f xs ys later) ∙ or-true (f x)
]
  where
    or-true : (b : Bool) → (b || true) ≡ true
    or-true true = refl
    or-true false = refl

module _ {S P : Type 0} (reads writes : P → Transfer S) (syncs : P → StoreSync S) (page_reads : Reads P) (page_writes : Writes P) (page_syncs : Syncs P) (table : List ℕ) (cut : Cut) (file : List ℕ) (start : ℕ) (calls : List DeviceCall) (log_calls : List FileCall) (commits : List (List LogRecord)) (old mid new : OwnedView P) (old_log mid_log : LogFile S) where
  pub durable-is : {records : ℕ} (d : TableGoes reads writes syncs page_reads page_writes page_syncs old mid old_log mid_log table cut file start calls log_calls commits records (λ after n left. (after ≡ commits) × (left ≡ []) × (n ≡ 1 + length commits)))
      → IsTable table cut file start d.synced (pages_in d.steps ++ calls) (log_in d.steps ++ log_calls) commits (1 + length commits) [] mid mid_log
  durable-is d =
      subst (λ (n : ℕ). IsTable table cut file start d.synced (pages_in d.steps ++ calls) (log_in d.steps ++ log_calls) commits n [] mid mid_log) d.is_so.2
      (subst (λ (l : List LogRecord). IsTable table cut file start d.synced (pages_in d.steps ++ calls) (log_in d.steps ++ log_calls) commits d.durable l mid mid_log) d.is_so.1
      (subst (λ (cs : List (List LogRecord)). IsTable table cut file start d.synced (pages_in d.steps ++ calls) (log_in d.steps ++ log_calls) cs d.durable d.pending mid mid_log) d.is_so.0 d.is))

module _ {S P : Type 0} (table : List ℕ) (cut : Cut) (file : List ℕ) (start : ℕ) (all_calls : List DeviceCall) (all_log_calls : List FileCall) (commits : List (List LogRecord)) (new : OwnedView P) (log : LogFile S) (is : IsTable table cut file start new.core.past all_calls all_log_calls commits (1 + length commits) [] new log) (alive : log.is_ended ≡ false) where
  next-is : log.next ≡ start + 1 + length commits
  next-is = omega (arith, is.file_is.next alive, length-map commits payload_of)

  next-table : (saved : (p : ℕ) → unsaved new.core.past p ≡ false) (new_log : LogFile S) (other : List ℕ) (begun_calls : List FileCall) → IsLogFile other (start + 1 + length commits) begun_calls (table ∷ []) 1 new_log
      → IsTable table (record { past = new.core.past; calls = all_calls; commits = cut.commits ++ commits }) other (start + 1 + length commits) new.core.past all_calls begun_calls [] 1 [] new new_log
  next-table saved new_log other begun_calls f = record {
    ran = record {
      log = f.life;
      are = tt;
      legal = is.ran.legal;
      cut_is = next-cut new.core.parameters table cut file start (not log.is_ended) new.core.past new.core.past all_calls all_log_calls commits (1 + length commits) is.ran refl saved;
      pool = opened;
      unfailed = λ yes. is.ran.unfailed (ap not alive);
      written = ap (λ (cs : List (List LogRecord)). reverse (changes_of cs)) (append-nil (cut.commits ++ commits)) ∙ is.ran.written;
      mark = (let m = is.ran.mark in omega arith);
      named = omega arith;
      kept = is.ran.kept;
      full = tt;
    };
    file_is = f;
  }

module _ {S P : Type 0} (reads writes : P → Transfer S) (syncs : P → StoreSync S) (page_reads : Reads P) (page_writes : Writes P) (page_syncs : Syncs P) (table : List ℕ) (cut : Cut) (file : List ℕ) (start : ℕ) (calls : List DeviceCall) (log_calls : List FileCall) (commits : List (List LogRecord)) (records : ℕ) (old new : OwnedView P) (old_log new_log spare new_spare : LogFile S) (other : List ℕ) (before : List FileCall) where
  abbrev Does : Result (Unit {0}) TableFault → Type 0
  Does r = Checkpoints reads writes syncs page_reads page_writes page_syncs old new old_log new_log spare new_spare table cut file start calls log_calls commits records other before r

  -- an error, whichever it is
  pub does-not : (r : Result (Unit {0}) TableFault) → IsErr r → ((why : TableFault) → Does (Err why)) → Does r
  does-not (Ok x) e h = absurd (cc)
  does-not (Err why) e h = h why

  module _ (mid : OwnedView P) (mid_log : LogFile S) (d : TableGoes reads writes syncs page_reads page_writes page_syncs old mid old_log mid_log table cut file start calls log_calls commits records (λ after n left. (after ≡ commits) × (left ≡ []) × (n ≡ 1 + length commits)))
      (h : HasSaved page_reads page_writes page_syncs mid new mid_log table cut file start (pages_in d.steps ++ calls) (log_in d.steps ++ log_calls) commits (1 + length commits) []) (alive : mid_log.is_ended ≡ false)
      (at : P) (there : at ≡ new.port) (lsn : ℕ) (head : List ℕ) (lsn-is : lsn ≡ max mid_log.next 1) (head-is-table : head ≡ table) (long : length (written_bytes other before) ≡ length other) (size : spare.size ≡ length other) where
    as_before : new.core.parameters ≡ old.core.parameters
    as_before = h.parameters ∙ d.parameters

    at-next : lsn ≡ start + 1 + length commits
    at-next = omega (arith, lsn-is, next-is table cut file start (h.more ++ (pages_in d.steps ++ calls)) (log_in d.steps ++ log_calls) commits new mid_log h.is alive)

    begun-there : (good : Bool) (begun_log : LogFile S) → BeginsLog (reads at) (writes at) (syncs at) spare begun_log lsn head good → BeginsLog (reads new.port) (writes new.port) (syncs new.port) spare begun_log (start + 1 + length commits) table good
    begun-there good begun_log b =
        subst (λ (x : P). BeginsLog (reads x) (writes x) (syncs x) spare begun_log (start + 1 + length commits) table good) there
        (subst (λ (n : ℕ). BeginsLog (reads at) (writes at) (syncs at) spare begun_log n table good) at-next (subst (λ (t : List ℕ). BeginsLog (reads at) (writes at) (syncs at) spare begun_log lsn t good) head-is-table b))

    module _ (begun_log : LogFile S) (begun : List FileCall) (begun_did : FileDid (reads new.port) (writes new.port) (syncs new.port) spare.store begun begun_log.store)
        (beginning : AtEach (λ so_far. Beginning other (start + 1 + length commits) table before (so_far ++ before)) begun) where
      -- the calls until the other file was written
      abbrev older : List Step
      older = map OfPages h.more ++ d.steps

      abbrev So : List Step → Type 0
      So = IsMoving old.core.parameters table cut file start calls log_calls commits records other before

      pages-older : pages_in older ++ calls ≡ h.more ++ (pages_in d.steps ++ calls)
      pages-older = pages-more (map OfPages h.more) d.steps calls ∙ ap (λ (t : List DeviceCall). t ++ (pages_in d.steps ++ calls)) (of-pages h.more).0

      log-older : log_in older ++ log_calls ≡ log_in d.steps ++ log_calls
      log-older = log-more (map OfPages h.more) d.steps log_calls ∙ ap (λ (t : List FileCall). t ++ (log_in d.steps ++ log_calls)) (of-pages h.more).1

      -- while pages are written out
      abbrev Durably : List DeviceCall → List FileCall → Type 0
      Durably cs fs = Stands old.core.parameters table cut file start cs fs commits commits records

      early : AtEach So d.steps
      early =
          each-map (λ so_far. (spare_in so_far ≡ []) × Stands old.core.parameters table cut file start (pages_in so_far ++ calls) (log_in so_far ++ log_calls) commits d.commits records) So
          (λ so_far s. staying s.0 (subst (λ (cs : List (List LogRecord)). Stands old.core.parameters table cut file start (pages_in so_far ++ calls) (log_in so_far ++ log_calls) commits cs records) d.is_so.0 s.1)) d.steps
          (each-both (λ so_far. spare_in so_far ≡ []) (λ so_far. Stands old.core.parameters table cut file start (pages_in so_far ++ calls) (log_in so_far ++ log_calls) commits d.commits records) d.steps (never-spare d.steps d.no_spare) d.each)

      flushing : AtEach (λ so_far. So (so_far ++ d.steps)) (map OfPages h.more)
      flushing =
          each-map (λ so_far. (spare_in so_far ≡ []) × Stands old.core.parameters table cut file start (pages_in so_far ++ (pages_in d.steps ++ calls)) (log_in so_far ++ (log_in d.steps ++ log_calls)) commits commits (1 + length commits)) (λ so_far. So (so_far ++ d.steps))
          (λ so_far s. staying (spare-append so_far d.steps ∙ ap (λ (t : List FileCall). t ++ spare_in d.steps) s.0 ∙ d.no_spare)
          (subst (λ (cs : List DeviceCall). Durably cs (log_in (so_far ++ d.steps) ++ log_calls)) (sym (pages-more so_far d.steps calls))
          (subst (λ (fs : List FileCall). Durably (pages_in so_far ++ (pages_in d.steps ++ calls)) fs) (sym (log-more so_far d.steps log_calls))
          (from-earlier old.core.parameters table cut file start (pages_in so_far ++ (pages_in d.steps ++ calls)) (log_in so_far ++ (log_in d.steps ++ log_calls)) commits commits commits [] records (1 + length commits) (sym (append-nil commits)) (let n = d.no_fewer in omega (arith, d.is_so.2)) s.1))))
          (map OfPages h.more)
          (each-both (λ so_far. spare_in so_far ≡ []) (λ so_far. Stands old.core.parameters table cut file start (pages_in so_far ++ (pages_in d.steps ++ calls)) (log_in so_far ++ (log_in d.steps ++ log_calls)) commits commits (1 + length commits)) (map OfPages h.more) (never-spare (map OfPages h.more) (of-pages h.more).2)
          (each-page old.core.parameters table cut file start (not mid_log.is_ended) new.core.past new.core.past h.more (pages_in d.steps ++ calls) (log_in d.steps ++ log_calls) commits (1 + length commits) []
          (subst (λ (c : Parameters). TableRan c table cut file start (not mid_log.is_ended) new.core.past new.core.past (h.more ++ (pages_in d.steps ++ calls)) (log_in d.steps ++ log_calls) commits (1 + length commits) []) as_before h.is.ran) (calls-since cut.past cut.calls mid.core.past (pages_in d.steps ++ calls) d.synced d.is.ran.pool)))

      pages-then : (so_far : List Step) → pages_in so_far ≡ [] → pages_in (so_far ++ older) ++ calls ≡ h.more ++ (pages_in d.steps ++ calls)
      pages-then so_far none = pages-more so_far older calls ∙ ap (λ (t : List DeviceCall). t ++ (pages_in older ++ calls)) none ∙ pages-older

      log-then : (so_far : List Step) → log_in so_far ≡ [] → log_in (so_far ++ older) ++ log_calls ≡ log_in d.steps ++ log_calls
      log-then so_far none = log-more so_far older log_calls ∙ ap (λ (t : List FileCall). t ++ (log_in older ++ log_calls)) none ∙ log-older

      pages-then-only : (so_far : List Step) → pages_in so_far ≡ [] → pages_in (so_far ++ older) ≡ h.more ++ pages_in d.steps
      pages-then-only so_far none = pages-append so_far older ∙ ap (λ (t : List DeviceCall). t ++ pages_in older) none ∙ pages-append (map OfPages h.more) d.steps ∙ ap (λ (t : List DeviceCall). t ++ pages_in d.steps) (of-pages h.more).0

      has-synced : some is_good_sync (h.more ++ pages_in d.steps) ≡ true
      has-synced = some-of is_good_sync h.more (pages_in d.steps) h.synced

      none-older : spare_in older ≡ []
      none-older = spare-append (map OfPages h.more) d.steps ∙ ap (λ (t : List FileCall). t ++ spare_in d.steps) (of-pages h.more).2 ∙ d.no_spare

      spare-then : (so_far : List Step) → spare_in (so_far ++ older) ≡ spare_in so_far
      spare-then so_far = spare-append so_far older ∙ ap (λ (t : List FileCall). spare_in so_far ++ t) none-older ∙ append-nil (spare_in so_far)

      -- while the next log is begun
      late : AtEach (λ so_far. So (so_far ++ older)) (map OfSpare begun)
      late =
          each-map (λ so_far. Beginning other (start + 1 + length commits) table before (spare_in so_far ++ before) × (pages_in so_far ≡ []) × (log_in so_far ≡ [])) (λ so_far. So (so_far ++ older))
          (λ so_far s. moving {alive = not mid_log.is_ended} {past = new.core.past}
          (subst (λ (cs : List DeviceCall). TableRan old.core.parameters table cut file start (not mid_log.is_ended) new.core.past new.core.past cs (log_in (so_far ++ older) ++ log_calls) commits (1 + length commits) []) (sym (pages-then so_far s.1))
          (subst (λ (fs : List FileCall). TableRan old.core.parameters table cut file start (not mid_log.is_ended) new.core.past new.core.past (h.more ++ (pages_in d.steps ++ calls)) fs commits (1 + length commits) []) (sym (log-then so_far s.2))
          (subst (λ (c : Parameters). TableRan c table cut file start (not mid_log.is_ended) new.core.past new.core.past (h.more ++ (pages_in d.steps ++ calls)) (log_in d.steps ++ log_calls) commits (1 + length commits) []) as_before h.is.ran)))
          h.saved
          (ap (some is_good_sync) (pages-then-only so_far s.1) ∙ has-synced)
          (subst (λ (fs : List FileCall). Beginning other (start + 1 + length commits) table before (fs ++ before)) (sym (spare-then so_far)) s.0))
          (map OfSpare begun) (each-spare (λ so_far. Beginning other (start + 1 + length commits) table before (so_far ++ before)) begun beginning)

      abbrev all : List Step
      all = map OfSpare begun ++ older

      moves-on : MovesOn reads writes syncs page_reads page_writes page_syncs old new old_log spare mid_log begun_log table cut file start calls log_calls commits records other before
      moves-on = record {
        steps = all;
        parameters = as_before;
        did =
            made-append page_reads page_writes page_syncs reads writes syncs (record { port = old.port; log = old_log.store; spare = spare.store }) (record { port = new.port; log = mid_log.store; spare = spare.store }) (record { port = new.port; log = mid_log.store; spare = begun_log.store }) (map OfSpare begun) older
            (made-append page_reads page_writes page_syncs reads writes syncs (record { port = old.port; log = old_log.store; spare = spare.store }) (record { port = mid.port; log = mid_log.store; spare = spare.store }) (record { port = new.port; log = mid_log.store; spare = spare.store }) (map OfPages h.more) d.steps
            (d.did spare.store) (made-pages page_reads page_writes page_syncs reads writes syncs mid.port new.port mid_log.store spare.store h.more h.did))
            (made-spare page_reads page_writes page_syncs reads writes syncs new.port mid_log.store spare.store begun_log.store begun begun_did);
        each = each-append So (map OfSpare begun) older (each-append So (map OfPages h.more) d.steps early flushing) late;
        is =
            subst (λ (cs : List DeviceCall). IsTable table cut file start new.core.past cs (log_in all ++ log_calls) commits (1 + length commits) [] new mid_log) (sym (pages-then (map OfSpare begun) (of-spare begun).0))
            (subst (λ (fs : List FileCall). IsTable table cut file start new.core.past (h.more ++ (pages_in d.steps ++ calls)) fs commits (1 + length commits) [] new mid_log) (sym (log-then (map OfSpare begun) (of-spare begun).1)) h.is);
        saved = h.saved;
      }

      goes-on : IsLogFile other (start + 1 + length commits) (begun ++ before) (table ∷ []) 1 begun_log
          → IsTable table (record { past = new.core.past; calls = pages_in all ++ calls; commits = cut.commits ++ commits }) other (start + 1 + length commits) new.core.past (pages_in all ++ calls) (spare_in all ++ before) [] 1 [] new begun_log
      goes-on f =
          subst (λ (cs : List DeviceCall). IsTable table (record { past = new.core.past; calls = cs; commits = cut.commits ++ commits }) other (start + 1 + length commits) new.core.past cs (spare_in all ++ before) [] 1 [] new begun_log) (sym (pages-then (map OfSpare begun) (of-spare begun).0))
          (subst (λ (fs : List FileCall). IsTable table (record { past = new.core.past; calls = h.more ++ (pages_in d.steps ++ calls); commits = cut.commits ++ commits }) other (start + 1 + length commits) new.core.past (h.more ++ (pages_in d.steps ++ calls)) (fs ++ before) [] 1 [] new begun_log) (sym (spare-then (map OfSpare begun) ∙ (of-spare begun).2))
          (next-table table cut file start (h.more ++ (pages_in d.steps ++ calls)) (log_in d.steps ++ log_calls) commits new mid_log h.is alive h.saved begun_log other (begun ++ before) f))

    pub does-move : (begun_log : LogFile S) → BeginsLog (reads at) (writes at) (syncs at) spare begun_log lsn head true → new_log ≡ begun_log → new_spare ≡ mid_log → Does (Ok tt)
    unfolding moves-on
    does-move begun_log b is spare_is =
        let k = begun-there true begun_log b other before long size in
        subst (λ (l : LogFile S). Checkpoints reads writes syncs page_reads page_writes page_syncs old new old_log l spare new_spare table cut file start calls log_calls commits records other before (Ok tt)) (sym is)
        (subst (λ (l : LogFile S). Checkpoints reads writes syncs page_reads page_writes page_syncs old new old_log begun_log spare l table cut file start calls log_calls commits records other before (Ok tt)) (sym spare_is)
        (moved (moves-on begun_log k.0 k.1 k.2) (goes-on begun_log k.0 k.1 k.2 (k.3 refl))))

    pub does-begin : BeginsLog (reads at) (writes at) (syncs at) spare new_spare lsn head false → new_log ≡ mid_log → (why : TableFault) → Does (Err why)
    does-begin b is why =
        let k = begun-there false new_spare b other before long size in
        subst (λ (l : LogFile S). Checkpoints reads writes syncs page_reads page_writes page_syncs old new old_log l spare new_spare table cut file start calls log_calls commits records other before (Err why)) (sym is)
        (was_moving (moves-on new_spare k.0 k.1 k.2))
