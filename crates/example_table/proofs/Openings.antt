-- Why an opening may be stopped, and goes on with the newer log.
use Rattle.std.proofs.Common.{◌≡◌, inl, inr, refl, sym, ap, subst, ◌∙◌, ℕ, zero, suc, ◌+◌, ◌-◌, ◌<◌, ◌≤◌, nat_le, Bool, true, false, not, cond, ◌&&◌, ◌==◌, List, [], ◌∷◌, ◌++◌, length, map, take, drop, replicate, reverse, get_or, filter, append_assoc, append-nil, arith}
use Rattle.std.specs.Prelude.{◌⊎◌, Result, Ok, Err, IfOk, IfErr, IsErrAnd}
use Rattle.example_log.specs.declared.log.LogFault.{LogFault}
use Rattle.example_log.specs.Heads.{OtherHead}
use Rattle.example_table.specs.Opening.MoveFault.{beyond}
use Rattle.example_table.specs.declared.table.TableFault.TheVariants.{Pages}
use Rattle.bp_page.specs.declared.refusals.Refusal.{Refusal}
use Rattle.bp_page.specs.declared.refusals.Refusal.TheVariants.{OutOfPage}
use Rattle.std.specs.Result.{IsErr, is_ok}
use Rattle.std.proofs.lemmas.Bool.{cases_lt, eqb-true, ne_eqb}
use Rattle.std.proofs.lemmas.List.{ext_get_or, take_at, take-append-drop, take_more, drop_all, length-replicate}
use Rattle.std.specs.Bool.{MatchBool}
use Rattle.bp_page.specs.Patched.{patched}
use Rattle.bp_page.specs.declared.limits.Geometry.{Geometry}
use Rattle.bp_ports.specs.Files.{Transfer, StoreSync}
use Rattle.bp_trail.specs.declared.records.LogRecord.{LogRecord}
use Rattle.bp_trail.specs.Recovery.{put, wanted as wants}
use Rattle.example_log.specs.declared.log.LogFile.{LogFile}
use Rattle.example_table.specs.declared.table.TableFault.{TableFault}
use Rattle.example_log.specs.Commits.{AreCommits, HasCommits, changes_of, log_of, payload_of}
use Rattle.example_log.specs.Disk.{DeviceCall, Did, Reads, Writes, Syncs, Honest, MayBring, MayLeave, Partly, is_good_sync, sync_failed}
use Rattle.bp_trail.specs.Lists.{some}
use Rattle.example_log.specs.Files.{FileCall, FileDid, FileLeaves, IsSettled, SettledLeaves, Unsure, settles, synced, written}
use Rattle.example_log.specs.Files.FileCall.{Read, Write, Wipe, Sync}
use Rattle.example_log.specs.Files.IsSettled.{settled as was_settled, again as settled_again, resynced as settled_synced}
use Rattle.example_log.specs.Frames.{IsRecord, NoFrame, frame, frames}
use Rattle.example_log.specs.Lives.{AreRecords, LogLife, Reopened, SameAt, TellsTrue}
use Rattle.example_log.specs.Lives.Reopened.{ended}
use Rattle.example_log.specs.LogFiles.{BeginFault, Begins, BeginsBy, IsLogFile, IsUnread, Settles, StopFault, Wipes, WipesFile}
use Rattle.example_log.specs.LogFiles.BeginsBy.{wiping as by_wiping, wiped as by_wiped, wrote as by_wrote, synced as by_synced}
use Rattle.example_log.specs.Lives.LogLife.{wiped as was_wiped, appended, synced as was_synced, unsynced as not_synced}
use Rattle.example_log.specs.Moments.{AtEach, Made, Step, log_in, pages_in, spare_in}
use Rattle.example_log.specs.Moments.Step.{OfPages, OfLog, OfSpare}
use Rattle.example_log.proofs.Moments.{each-append, each-map, each-of-log, each-page-call, each-spare, log-append, made-append, made-log, made-pages, made-spare, of-log, of-pages, of-spare, pages-append, spare-append}
use Rattle.example_log.proofs.LogFiles.{each-by}
use Rattle.example_table.specs.Opening.IsOpening.{settling, redoing as redoing_it, beginning as beginning_it}
use Rattle.example_table.specs.Opening.MovesLog.{unsettled, stopped, moved}
use Rattle.example_log.specs.LogFiles.IsUnread.{no_memory, failed as failed_read}
use Rattle.example_log.specs.LogFiles.Wipes.{nothing, wrote, unsynced}
use Rattle.example_table.specs.Opening.{AreWithin, Beginning, BeginsBefore, BeginsLog, CreatesLog, EmptiesFile, IsEmptied, FindsLog, Found, IsNewer, IsInOrder, IsOnlyRead, IsOpening, LogRefused, MayBeOpened, MoveFault, Moves, MovesLog, again_of}
use Rattle.example_table.specs.Opening.Beginning.{wiping, begun as was_begun}
use Rattle.example_log.specs.Promise.{MayBeRedone, Recovers, RecoversThroughout}
use Rattle.example_log.proofs.CommitsRead.{head-is, head-same, payload-same, whole-commits}
use Rattle.example_log.proofs.Framing.{frame-same, zeros-none}
use Rattle.example_log.proofs.Lives.{life-is, front-is, next, remains}
use Rattle.example_table.proofs.Tables.{filter-reverse}

-- ---- what is read of a file is one log

frames-same : (lsn : ℕ) (xs ys : List (List ℕ)) (r s : List ℕ) → AreRecords lsn xs → AreRecords lsn ys → NoFrame r → NoFrame s → frames lsn xs ++ r ≡ frames lsn ys ++ s → xs ≡ ys
frames-same lsn [] [] r s f g n m e = refl
frames-same lsn [] (y ∷ ys) r s f g n m e = absurd (n lsn y (frames (lsn + 1) ys ++ s) g.0 (e ∙ append_assoc (frame lsn y) (frames (lsn + 1) ys) s))
frames-same lsn (x ∷ xs) [] r s f g n m e = absurd (m lsn x (frames (lsn + 1) xs ++ r) f.0 (sym e ∙ append_assoc (frame lsn x) (frames (lsn + 1) xs) r))
frames-same lsn (x ∷ xs) (y ∷ ys) r s f g n m e =
    let h = frame-same lsn lsn x y (frames (lsn + 1) xs ++ r) (frames (lsn + 1) ys ++ s) f.0 g.0 (sym (append_assoc (frame lsn x) (frames (lsn + 1) xs) r) ∙ e ∙ append_assoc (frame lsn y) (frames (lsn + 1) ys) s) in
    ap (λ (z : List ℕ). z ∷ xs) h.1 ∙ ap (λ (t : List (List ℕ)). y ∷ t) (frames-same (lsn + 1) xs ys r s f.1 g.1 n m h.2)

commits-same : (lsn : ℕ) (xs ys : List (List LogRecord)) → AreCommits lsn xs → AreCommits lsn ys → map payload_of xs ≡ map payload_of ys → xs ≡ ys
commits-same lsn [] [] f g e = refl
commits-same lsn [] (y ∷ ys) f g e = absurd cc
commits-same lsn (x ∷ xs) [] f g e = absurd cc
commits-same lsn (x ∷ xs) (y ∷ ys) f g e =
    let h = head-same (payload_of x) (payload_of y) (map payload_of xs) (map payload_of ys) e in
    ap (λ (c : List LogRecord). c ∷ xs) (payload-same lsn x y f.0 g.0 h.0) ∙ ap (λ (t : List (List LogRecord)). y ∷ t) (commits-same (lsn + 1) xs ys f.1 g.1 h.1)

first-same : (table bytes : List ℕ) (f g l m : ℕ) (cs ds : List LogRecord) → HasCommits table bytes f l cs → HasCommits table bytes g m ds → f ≡ g
first-same table bytes f g l m cs ds h k =
    (frame-same f g table table (frames (f + 1) (map payload_of h.commits) ++ h.is_read.rest) (frames (g + 1) (map payload_of k.commits) ++ k.is_read.rest) h.is_read.records.0 k.is_read.records.0
    (sym (head-is table bytes f l cs h) ∙ head-is table bytes g m ds k)).0

pub has-same : (table bytes : List ℕ) (f g l m : ℕ) (cs ds : List LogRecord) → HasCommits table bytes f l cs → HasCommits table bytes g m ds → cs ≡ ds
has-same table bytes f g l m cs ds h k =
    let e = first-same table bytes f g l m cs ds h k in
    let records : AreRecords g (log_of table h.commits) = subst (λ (n : ℕ). AreRecords n (log_of table h.commits)) e h.is_read.records in
    let stands : bytes ≡ frames g (log_of table h.commits) ++ h.is_read.rest = subst (λ (n : ℕ). bytes ≡ frames n (log_of table h.commits) ++ h.is_read.rest) e h.is_read.stands in
    let logs = frames-same g (log_of table h.commits) (log_of table k.commits) h.is_read.rest k.is_read.rest records k.is_read.records h.is_read.ends k.is_read.ends (sym stands ∙ k.is_read.stands) in
    let payloads = (head-same table table (map payload_of h.commits) (map payload_of k.commits) logs).1 in
    let same = commits-same (g + 1) h.commits k.commits (subst (λ (n : ℕ). AreCommits (n + 1) h.commits) e h.are) k.are payloads in
    h.changes_are ∙ ap changes_of same ∙ sym k.changes_are

-- ---- which of two files has it

pub before-of : (table bytes : List ℕ) (f l n : ℕ) (cs : List LogRecord) → HasCommits table bytes f l cs → BeginsBefore n bytes → f < n
before-of table bytes f l n cs h b = b f table (frames (f + 1) (map payload_of h.commits) ++ h.is_read.rest) h.is_read.records.0 (head-is table bytes f l cs h)

-- a log whose first record is durable stands at the front
pub log-front : (file bytes : List ℕ) (start : ℕ) (alive : Bool) (calls later : List FileCall) (log kept : List (List ℕ)) (durable n : ℕ) → LogLife file start alive calls log durable → Reopened file start calls log durable later kept n → 1 ≤ durable → FileLeaves file later bytes
    → TellsTrue start (synced file later) (written file later) bytes → (head rest : List ℕ) × IsRecord start head × (bytes ≡ frame start head ++ rest)
log-front file bytes start alive calls later log kept durable n life reopened named leaves tells =
    let r = remains file start log durable alive calls (life-is file start alive calls log durable life) later kept n reopened in
    let more = r.durably in
    let count = r.is.count in
    head-left n kept (omega arith) count r.is.records (front-is file start false later kept n bytes r.is leaves tells)
  where
    head-left : (k : ℕ) (xs : List (List ℕ)) → 1 ≤ k → k ≤ length xs → AreRecords start xs → bytes ≡ frames start (take k xs) ++ drop (length (frames start (take k xs))) bytes → (head rest : List ℕ) × IsRecord start head × (bytes ≡ frame start head ++ rest)
    head-left zero xs le most are e = absurd (omega arith)
    head-left (suc k) [] le most are e = absurd (omega arith)
    head-left (suc k) (x ∷ xs) le most are e =
        let more = frames (start + 1) (take k xs) in
        let tail = drop (length (frames start (take (suc k) (x ∷ xs)))) bytes in
        (x, more ++ tail, are.0, e ∙ append_assoc (frame start x) more tail)

-- it is found, whatever the other file has from before
pub found-in : (table file bytes other : List ℕ) (start : ℕ) (alive : Bool) (calls later : List FileCall) (commits : List (List LogRecord)) (kept : List (List ℕ)) (durable n found last : ℕ) (changes : List LogRecord)
    → LogLife file start alive calls (log_of table commits) durable → Reopened file start calls (log_of table commits) durable later kept n → 1 ≤ durable → FileLeaves file later bytes
    → TellsTrue start (synced file later) (written file later) bytes → BeginsBefore start other → FindsLog table bytes other found last changes → HasCommits table bytes found last changes
found-in table file bytes other start alive calls later commits kept durable n found last changes life reopened named leaves tells below (inl f) = f.has
found-in table file bytes other start alive calls later commits kept durable n found last changes life reopened named leaves tells below (inr f) =
    let h = log-front file bytes start alive calls later (log_of table commits) kept durable n life reopened named leaves tells in
    let a = before-of table other found last start changes f.has below in
    let b = f.other start h.0 h.1 h.2 h.3 in
    absurd (omega arith)

-- ---- changes within the device

none-within : (pages size p : ℕ) (cs : List LogRecord) → AreWithin pages size cs → pages ≤ p → filter (wants 0 p) cs ≡ []
none-within pages size p [] w le = refl
none-within pages size p (r ∷ cs) w le =
    let below = w.0 in
    let is : wants 0 p r ≡ false = ap (λ (b : Bool). b && nat_le 0 r.lsn) (ne_eqb r.page p (λ e. omega (arith, e))) in
    ap (λ (b : Bool). cond b (r ∷ filter (wants 0 p) cs) (filter (wants 0 p) cs)) is ∙ none-within pages size p cs w.2 le

within-push : (pages size : ℕ) (xs : List LogRecord) (r : LogRecord) → AreWithin pages size xs → r.page < pages → r.offset + length r.bytes ≤ size → AreWithin pages size (xs ++ r ∷ [])
within-push pages size [] r w p f = (p, f, tt)
within-push pages size (x ∷ xs) r w p f = (w.0, w.1, within-push pages size xs r w.2 p f)

pub within-next : (pages size : ℕ) (xs : List LogRecord) (i : ℕ) (r : LogRecord) → i < length xs → r ≡ get_or xs i r → AreWithin pages size (take i xs) → r.page < pages → r.offset + length r.bytes ≤ size → AreWithin pages size (take (i + 1) xs)
within-next pages size xs i r below is w p f =
    subst (AreWithin pages size) (sym (take_more xs i r below ∙ ap (λ (x : LogRecord). take i xs ++ x ∷ []) (sym is))) (within-push pages size (take i xs) r w p f)

pub within-at : (pages size : ℕ) (xs : List LogRecord) (i : ℕ) (r : LogRecord) → i < length xs → r ≡ get_or xs i r → AreWithin pages size xs → (r.page < pages) × (r.offset + length r.bytes ≤ size)
within-at pages size [] i r below is w = absurd (omega arith)
within-at pages size (x ∷ xs) zero r below is w = subst (λ (y : LogRecord). (y.page < pages) × (y.offset + length y.bytes ≤ size)) (sym is) (w.0, w.1)
within-at pages size (x ∷ xs) (suc i) r below is w = within-at pages size xs i r (omega arith) is w.2

-- ---- a log that is begun

begun-so : (first : List ℕ) (start : ℕ) (calls : List FileCall) (alive : Bool) (table : List ℕ) (before : List FileCall) (log : List (List ℕ)) (durable : ℕ) → LogLife first start alive calls log durable → (log ≡ []) ⊎ (log ≡ table ∷ [])
    → Beginning first start table before calls
begun-so first start calls alive table before log durable life is = was_begun life is ended

module _ (first : List ℕ) (start : ℕ) (table : List ℕ) (before : List FileCall) (long : length (written first before) ≡ length first) where
  abbrev Begins_at : List FileCall → Type 0
  Begins_at so_far = Beginning first start table before (so_far ++ before)

  empty-life : LogLife first start true (Sync true ∷ Wipe (length first) true ∷ before) [] 0
  empty-life = was_wiped long

  one-life : (good : Bool) → IsRecord start table → length (frame start table) ≤ length first → LogLife first start good (Write 0 (frame start table) good ∷ Sync true ∷ Wipe (length first) true ∷ before) (table ∷ []) 0
  one-life good fit room =
      let e : start ≡ start + 0 = omega arith in
      subst (λ (n : ℕ). LogLife first start good (Write 0 (frame n table) good ∷ Sync true ∷ Wipe (length first) true ∷ before) (table ∷ []) 0) (sym e)
      (appended table good empty-life (subst (λ (n : ℕ). IsRecord n table) e fit) (subst (λ (n : ℕ). 0 + length (frame n table) ≤ length first) e (omega arith)))

  first-wipe : (calls : List FileCall) → Wipes (length first) calls → AtEach Begins_at calls
  first-wipe _ nothing = wiping nothing
  first-wipe _ (wrote good) = (wiping (wrote good), wiping nothing)
  first-wipe _ unsynced = (wiping unsynced, (wiping (wrote true), wiping nothing))

  wiped-each : AtEach Begins_at (Sync true ∷ Wipe (length first) true ∷ [])
  wiped-each = (begun-so first start _ true table before [] 0 empty-life (inl refl), (wiping (wrote true), wiping nothing))

  pub each-beginning : (calls : List FileCall) → BeginsBy (length first) start table calls → AtEach Begins_at calls
  each-beginning _ (by_wiping {calls = calls} w) = first-wipe calls w
  each-beginning _ by_wiped = wiped-each
  each-beginning _ (by_wrote good fit room) = (begun-so first start _ good table before (table ∷ []) 0 (one-life good fit room) (inr refl), wiped-each)
  each-beginning _ (by_synced good fit room) = (last good, (begun-so first start _ true table before (table ∷ []) 0 (one-life true fit room) (inr refl), wiped-each))
    where
      last : (good : Bool) → Begins_at (Sync good ∷ Write 0 (frame start table) true ∷ Sync true ∷ Wipe (length first) true ∷ [])
      last true = begun-so first start _ true table before (table ∷ []) 1 (was_synced (one-life true fit room)) (inr refl)
      last false = begun-so first start _ false table before (table ∷ []) 0 (not_synced (one-life true fit room)) (inr refl)

pub begins-log : {S : Type 0} (reads writes : Transfer S) (syncs : StoreSync S) (old new : LogFile S) (start : ℕ) (table : List ℕ) (good : Bool) → Begins reads writes syncs old new start table good → BeginsLog reads writes syncs old new start table good
begins-log reads writes syncs old new start table good b = λ file before long size. (
  b.calls,
  b.did,
  each-beginning file start table before long b.calls (subst (λ (n : ℕ). BeginsBy n start table b.calls) size b.by),
  λ e. b.is e file before long size,
)

-- zeros have no record
zeros-before : (begun count : ℕ) → BeginsBefore begun (replicate count 0)
zeros-before begun count = λ lsn payload rest fit e. absurd (zeros-none count lsn payload rest fit e)

module _ (older : List ℕ) (before : List FileCall) (long : length (written older before) ≡ length older) where
  abbrev zeros : List ℕ
  zeros = replicate (length older) 0

  zeros-are : zeros ++ drop (0 + length zeros) (written older before) ≡ zeros
  zeros-are = ap (λ (t : List ℕ). zeros ++ t) (drop_all (0 + length zeros) (written older before) (omega (arith, long, length-replicate {A = ℕ} (length older) 0))) ∙ append-nil zeros

  -- what was made durable last is as before, and what was written last is so or zeros
  wiped-is : (more : List FileCall) → Wipes (length older) more → (synced older (more ++ before) ≡ synced older before) × ((written older (more ++ before) ≡ written older before) ⊎ (written older (more ++ before) ≡ zeros))
  wiped-is _ nothing = (refl, inl refl)
  wiped-is _ (wrote good) = (refl, inr zeros-are)
  wiped-is _ unsynced = (refl, inr zeros-are)

  still-long : (more : List FileCall) → (written older (more ++ before) ≡ written older before) ⊎ (written older (more ++ before) ≡ zeros) → length (written older (more ++ before)) ≡ length older
  still-long more (inl same) = ap (λ (t : List ℕ). length t) same ∙ long
  still-long more (inr none) = ap (λ (t : List ℕ). length t) none ∙ length-replicate {A = ℕ} (length older) 0

  module _ (begun : ℕ) (below_synced : BeginsBefore begun (synced older before)) (below_written : BeginsBefore begun (written older before)) where
    last-before : (more : List FileCall) → (written older (more ++ before) ≡ written older before) ⊎ (written older (more ++ before) ≡ zeros) → BeginsBefore begun (written older (more ++ before))
    last-before more (inl same) = subst (BeginsBefore begun) (sym same) below_written
    last-before more (inr none) = subst (BeginsBefore begun) (sym none) (zeros-before begun (length older))

    pub wiping-before : (more : List FileCall) → Wipes (length older) more → (length (written older (more ++ before)) ≡ length older) × BeginsBefore begun (synced older (more ++ before)) × BeginsBefore begun (written older (more ++ before))
    wiping-before more wipes =
        let are = wiped-is more wipes in
        (still-long more are.1, subst (BeginsBefore begun) (sym are.0) below_synced, last-before more are.1)

    -- a record at the front of what is left stood there before
    pub stood : (more : List FileCall) (start : ℕ) (bytes : List ℕ) → Wipes (length older) more → TellsTrue start (synced older (more ++ before)) (written older (more ++ before)) bytes
        → (lsn : ℕ) (payload rest : List ℕ) → IsRecord lsn payload → bytes ≡ frame lsn payload ++ rest → lsn < begun
    stood more start bytes wipes tells lsn payload rest fit e = go ((wiping-before more wipes).1, (wiping-before more wipes).2) (tells [] lsn payload rest fit e)
      where
        n : ℕ
        n = length (frame lsn payload)

        from : (file : List ℕ) → BeginsBefore begun file → take n bytes ≡ take n file → lsn < begun
        from file below same =
            below lsn payload (drop n file) fit
            (sym (take-append-drop n file) ∙ ap (λ (t : List ℕ). t ++ drop n file) (sym same ∙ ap (take n) e ∙ take_at (frame lsn payload) rest n refl))

        go : BeginsBefore begun (synced older (more ++ before)) × BeginsBefore begun (written older (more ++ before))
            → SameAt 0 n bytes (synced older (more ++ before)) ⊎ SameAt 0 n bytes (written older (more ++ before)) → lsn < begun
        go below (inl same) = from (synced older (more ++ before)) below.0 same
        go below (inr same) = from (written older (more ++ before)) below.1 same

  -- what a crash leaves of a file that was wiped durably has no record
  module _ where
    abbrev wipe : List FileCall
    wipe = Wipe (length older) true ∷ before

    all-zeros : (left : List ℕ) → FileLeaves older (Sync true ∷ wipe) left → left ≡ zeros
    all-zeros left leaves = ext_get_or 0 left zeros (leaves.long ∙ sym (length-replicate {A = ℕ} (length older) 0)) (λ i lt. at i (leaves.each i lt))
      where
        yes : settles true wipe ≡ true
        yes = refl

        sure : (b : Bool) (P : Type 0) → b ≡ true → MatchBool b ⊥ P → ⊥
        sure true P e h = h
        sure false P e h = absurd cc

        is : (b : Bool) → b ≡ true → cond b (written older wipe) (synced older wipe) ≡ zeros
        is true e = zeros-are
        is false e = absurd cc

        at : (i : ℕ) → (get_or left i 0 ≡ get_or (synced older (Sync true ∷ wipe)) i 0) ⊎ Unsure (Sync true ∷ wipe) i → get_or left i 0 ≡ get_or zeros i 0
        at i (inl same) = same ∙ ap (λ (t : List ℕ). get_or t i 0) (is (settles true wipe) yes)
        at i (inr unsure) = absurd (sure (settles true wipe) (Unsure wipe i) yes unsure)

    pub is-emptied : IsEmptied older (Sync true ∷ wipe)
    is-emptied = record {
      well = refl;
      long = ap (λ (t : List ℕ). length t) zeros-are ∙ length-replicate {A = ℕ} (length older) 0;
      last = subst NoFrame (sym zeros-are) (zeros-none (length older));
      durably = subst NoFrame (sym (all-durable (settles true wipe) refl)) (zeros-none (length older));
      left = λ bytes leaves. subst NoFrame (sym (all-zeros bytes leaves)) (zeros-none (length older));
    }
      where
        all-durable : (b : Bool) → b ≡ true → cond b (written older wipe) (synced older wipe) ≡ zeros
        all-durable true e = zeros-are
        all-durable false e = absurd cc

-- a log of one record has no commit
none-kept : (kept lost : List (List LogRecord)) → [] ≡ kept ++ lost → changes_of kept ≡ []
none-kept [] lost e = refl
none-kept (x ∷ kept) lost e = absurd cc

pub none-read : (table file bytes : List ℕ) (start : ℕ) (alive : Bool) (calls later : List FileCall) (log kept : List (List ℕ)) (durable n f l : ℕ) (cs : List LogRecord) → LogLife file start alive calls log durable → (log ≡ []) ⊎ (log ≡ table ∷ [])
    → Reopened file start calls log durable later kept n → FileLeaves file later bytes → TellsTrue start (synced file later) (written file later) bytes → HasCommits table bytes f l cs → cs ≡ []
none-read table file bytes start alive calls later log kept durable n f l cs life (inl e) reopened leaves tells has =
    let r = remains file start log durable alive calls (life-is file start alive calls log durable life) later kept n reopened in
    let first_one = next file start false later kept n bytes r.is leaves tells [] kept refl f table (frames (f + 1) (map payload_of has.commits) ++ has.is_read.rest) has.is_read.records.0 (head-is table bytes f l cs has) in
    let none : [] ≡ (first_one.0 ∷ first_one.1) ++ r.lost = sym e ∙ r.stands ∙ ap (λ (xs : List (List ℕ)). xs ++ r.lost) first_one.2 in
    absurd cc
none-read table file bytes start alive calls later log kept durable n f l cs life (inr e) reopened leaves tells has =
    let read = whole-commits table file bytes start durable alive calls later [] kept n f l cs (subst (λ (xs : List (List ℕ)). LogLife file start alive calls xs durable) e life) tt
    (subst (λ (xs : List (List ℕ)). Reopened file start calls xs durable later kept n) e reopened) leaves tells has in
    read.changes_are ∙ none-kept read.kept read.lost read.stands

-- ---- a file that was written again and synced

chosen : {A : Type 0} (b : Bool) (x y z : A) → x ≡ z → y ≡ z → cond b x y ≡ z
chosen true x y z e f = e
chosen false x y z e f = f

either : (b : Bool) (P : Type 0) → (P → ⊥) → MatchBool b ⊥ P → ⊥
either true P f h = h
either false P f h = f h

module _ (first bytes : List ℕ) where
  over : (older : List FileCall) → length (written first older) ≡ length bytes → patched 0 bytes (written first older) ≡ bytes
  over older long = ap (λ (t : List ℕ). bytes ++ t) (drop_all (0 + length bytes) (written first older) (omega (arith, long))) ∙ append-nil bytes

  all-settled : (calls : List FileCall) → IsSettled first bytes calls → (written first calls ≡ bytes) × (synced first calls ≡ bytes) × ((i : ℕ) → Unsure calls i → ⊥)
  all-settled _ (was_settled {before = before} long) = (over before long, over before long, λ i h. h)
  all-settled _ (settled_again {calls = calls} good is) =
      let h = all-settled calls is in
      (over calls (ap (λ (t : List ℕ). length t) h.0), h.1, h.2)
  all-settled _ (settled_synced {calls = calls} good is) =
      let h = all-settled calls is in
      (h.0, chosen (settles good calls) (written first calls) (synced first calls) bytes h.0 h.1, λ i u. either (settles good calls) (Unsure calls i) (h.2 i) u)

pub settled-left : (bytes left : List ℕ) → SettledLeaves bytes left → left ≡ bytes
settled-left bytes left s = ext_get_or 0 left bytes (s.leaves.long ∙ s.long) (λ i lt. at i (s.leaves.each i lt))
  where
    h : (written s.first s.calls ≡ bytes) × (synced s.first s.calls ≡ bytes) × ((i : ℕ) → Unsure s.calls i → ⊥)
    h = all-settled s.first bytes s.calls s.settled

    at : (i : ℕ) → (get_or left i 0 ≡ get_or (synced s.first s.calls) i 0) ⊎ Unsure s.calls i → get_or left i 0 ≡ get_or bytes i 0
    at i (inl same) = same ∙ ap (λ (t : List ℕ). get_or t i 0) h.1
    at i (inr unsure) = absurd (h.2 i unsure)

-- the log that was read begins before one that follows it, in the file too
module _ (table newer older : List ℕ) (begun last : ℕ) (changes : List LogRecord) (is : IsNewer table newer older begun last changes) where
  again-before : BeginsBefore (last + 1) (again_of is)
  again-before = λ lsn payload rest fit e.
      (let log = log_of table is.has.commits in
      let behind = frames (begun + 1) (map payload_of is.has.commits) ++ replicate (length newer - length (frames begun log)) 0 in
      let same = (frame-same lsn begun payload table rest behind fit is.has.is_read.records.0 (sym e ∙ append_assoc (frame begun table) (frames (begun + 1) (map payload_of is.has.commits)) (replicate (length newer - length (frames begun log)) 0))).0 in
      let ended = is.has.last_is in
      omega (arith, same))

  module _ (file : List ℕ) (calls : List FileCall) (settled : IsSettled file (again_of is) calls) where
    pub settled-synced-before : BeginsBefore (last + 1) (synced file calls)
    settled-synced-before = subst (BeginsBefore (last + 1)) (sym (all-settled file (again_of is) calls settled).1) again-before

    pub settled-written-before : BeginsBefore (last + 1) (written file calls)
    settled-written-before = subst (BeginsBefore (last + 1)) (sym (all-settled file (again_of is) calls settled).0) again-before

    pub settled-long : length (written file calls) ≡ length (again_of is)
    settled-long = ap (λ (t : List ℕ). length t) (all-settled file (again_of is) calls settled).0

-- ---- what reads bring a crash may leave

pub brings-leave : (tears : Bool) (first : ℕ → List ℕ) (calls : List DeviceCall) (p : ℕ) (image : List ℕ) → MayBring tears first calls p image → MayLeave tears first calls p image
brings-leave tears first [] p image h = h
brings-leave tears first (DeviceCall.Read q found ∷ older) p image h = brings-leave tears first older p image h
brings-leave tears first (DeviceCall.NotRead q ∷ older) p image h = brings-leave tears first older p image h
brings-leave tears first (DeviceCall.Sync good ∷ older) p image h = go (good && not (some sync_failed older)) (brings-leave tears first older p image h)
  where
    go : (b : Bool) → MayLeave tears first older p image → MatchBool b (MayBring tears first older p image) (MayLeave tears first older p image)
    go true k = h
    go false k = k
brings-leave tears first (DeviceCall.Write q new true ∷ older) p image h = go (brings-leave tears first older p image) (q == p) refl h
  where
    go : (MayBring tears first older p image → MayLeave tears first older p image) → (b : Bool) → (q == p) ≡ b → MatchBool b (image ≡ new) (MayBring tears first older p image) → ((q ≡ p) × Partly tears new image) ⊎ MayLeave tears first older p image
    go before true e k = inl (eqb-true q p e, inl k)
    go before false e k = inr (before k)
brings-leave tears first (DeviceCall.Write q new false ∷ older) p image (inl here) = inl here
brings-leave tears first (DeviceCall.Write q new false ∷ older) p image (inr h) = inr (brings-leave tears first older p image h)

-- ---- an opening may be stopped

module _ (tears : Bool) (pages size : ℕ) (wanted seen first left : ℕ → List ℕ) (table newer older left_newer : List ℕ) (begun last : ℕ) (changes : List LogRecord) (is : IsNewer table newer older begun last changes) (settled : SettledLeaves (again_of is) left_newer) where
  -- the newer file has the log that was read
  pub newer-has : HasCommits table left_newer begun last changes
  newer-has =
      let log = log_of table is.has.commits in
      let count = length newer - length (frames begun log) in
      record {
        commits = is.has.commits;
        is_read = record { rest = replicate count 0; stands = settled-left (again_of is) left_newer settled; records = is.has.is_read.records; ends = zeros-none count };
        are = is.has.are;
        last_is = is.has.last_is;
        changes_are = is.has.changes_are;
      }

  same-found : (left_older : List ℕ) → BeginsBefore begun left_older → (f l : ℕ) (cs : List LogRecord) → FindsLog table left_newer left_older f l cs → cs ≡ changes
  same-found left_older below f l cs (inl n) = has-same table left_newer f begun l last cs changes n.has newer-has
  same-found left_older below f l cs (inr n) =
      let a = before-of table left_older f l begun cs n.has below in
      let b = before-of table left_newer begun last f changes newer-has n.other in
      absurd (omega arith)

  -- the log that was read begins before one that follows it
  pub begins-before : BeginsBefore (last + 1) left_newer
  begins-before = λ lsn payload rest fit e.
      (let h = newer-has in
      let same = (frame-same lsn begun payload table rest (frames (begun + 1) (map payload_of h.commits) ++ h.is_read.rest) fit h.is_read.records.0 (sym e ∙ head-is table left_newer begun last changes h)).0 in
      let ended = h.last_is in
      omega (arith, same))

  module _ (m : MayBeRedone tears size 0 (reverse changes) wanted seen) (k : MayBeRedone tears size 0 (reverse changes) wanted first) where
    pub redoing : (left_older : List ℕ) (done : Bool) (calls later so_far : List DeviceCall) → BeginsBefore begun left_older → Honest tears seen calls → Recovers pages size 0 (reverse changes) calls done → calls ≡ later ++ so_far → ((p : ℕ) → MayLeave tears first so_far p (left p))
        → MayBeOpened tears size table left_newer left_older wanted left
    redoing left_older done calls later so_far below honest recovers e leaves = λ f l cs n.
        subst (λ (x : List LogRecord). MayBeRedone tears size 0 (reverse x) wanted left) (sym (same-found left_older below f l cs n)) ((recovers tears wanted seen first m k honest).0 later so_far left e leaves)

    module _ (calls : List DeviceCall) (within : AreWithin pages size changes) (honest : Honest tears seen calls) (recovers : Recovers pages size 0 (reverse changes) calls true) (leaves : (p : ℕ) → MayLeave tears first calls p (left p)) where
      left-may : MayBeRedone tears size 0 (reverse changes) wanted left
      left-may = (recovers tears wanted seen first m k honest).0 [] calls left refl leaves

      pub left-is : (p : ℕ) → left p ≡ wanted p
      left-is p =
          elim (cases_lt p pages) [
            | inl lt ↦ ((recovers tears wanted seen first m k honest).1 refl).durable p (left p) lt (leaves p)
            | inr le ↦ sym (ap (λ (rs : List LogRecord). put rs (left p)) (filter-reverse (wants 0 p) changes ∙ ap reverse (none-within pages size p changes within le))) ∙ left-may.leads p
          ]

      none-left : MayBeRedone tears size 0 [] wanted left
      none-left = record { sized = left-may.sized; mended = λ p. inr (inr refl); leads = left-is }

      pub beginning : (file left_older : List ℕ) (before log_calls : List FileCall) → length (written file before) ≡ length file → BeginsBefore begun (synced file before) → BeginsBefore begun (written file before) → Beginning file (last + 1) table before log_calls → FileLeaves file log_calls left_older
          → TellsTrue (last + 1) (synced file log_calls) (written file log_calls) left_older → MayBeOpened tears size table left_newer left_older wanted left
      beginning file left_older before log_calls long below_synced below_written b file_left tells = λ f l cs n. found log_calls b file_left tells f l cs n
        where
          none-new : (file_calls : List FileCall) → Beginning file (last + 1) table before file_calls → FileLeaves file file_calls left_older → TellsTrue (last + 1) (synced file file_calls) (written file file_calls) left_older
              → (f l : ℕ) (cs : List LogRecord) → IsNewer table left_older left_newer f l cs → cs ≡ []
          none-new _ (was_begun {alive = alive} {calls = file_calls} {later = later} {log = log} {kept = kept} {durable = durable} {n = count} life log-is reopened) file_left tells f l cs n =
              none-read table file left_older (last + 1) alive file_calls later log kept durable count f l cs life log-is reopened file_left tells n.has
          none-new _ (wiping {more = more} wipes) file_left tells f l cs n =
              let a = stood file before long begun below_synced below_written more (last + 1) left_older wipes tells f table (frames (f + 1) (map payload_of n.has.commits) ++ n.has.is_read.rest) n.has.is_read.records.0 (head-is table left_older f l cs n.has) in
              let b = before-of table left_newer begun last f changes newer-has n.other in
              absurd (omega arith)

          found : (file_calls : List FileCall) → Beginning file (last + 1) table before file_calls → FileLeaves file file_calls left_older → TellsTrue (last + 1) (synced file file_calls) (written file file_calls) left_older
              → (f l : ℕ) (cs : List LogRecord) → FindsLog table left_newer left_older f l cs → MayBeRedone tears size 0 (reverse cs) wanted left
          found file_calls b file_left tells f l cs (inl n) = subst (λ (x : List LogRecord). MayBeRedone tears size 0 (reverse x) wanted left) (sym (has-same table left_newer f begun l last cs changes n.has newer-has)) left-may
          found file_calls b file_left tells f l cs (inr n) = subst (λ (x : List LogRecord). MayBeRedone tears size 0 (reverse x) wanted left) (sym (none-new file_calls b file_left tells f l cs n)) none-left

-- ---- what an opening does

-- what was read stands in the file again
pub again-is : (table newer older records : List ℕ) (first last size : ℕ) (changes : List LogRecord) (is : IsNewer table newer older first last changes) → size ≡ length newer → records ≡ frames first (log_of table is.has.commits)
    → records ++ replicate (size - length records) 0 ≡ again_of is
again-is table newer older records first last size changes is long told =
    ap (λ (n : ℕ). records ++ replicate (n - length records) 0) long ∙ ap (λ (t : List ℕ). t ++ replicate (length newer - length t) 0) told

-- what was read and looked at was found
abbrev pub found : (device : Geometry) (table newer older : List ℕ) (pages size first last other_first : ℕ) (changes mid : List LogRecord) → HasCommits table newer first last changes
    → ((lsn : ℕ) (payload rest : List ℕ) → IsRecord lsn payload → older ≡ frame lsn payload ++ rest → (lsn ≡ other_first) × (payload ≡ table))
    → other_first < first → pages ≡ device.pages → size ≡ device.size → AreWithin pages size mid → mid ≡ changes → Found device table newer older
found device table newer older pages size first last other_first changes mid has other below p s within same = record {
  first = first;
  last = last;
  changes = changes;
  is_newer = record { has = has; other = λ lsn payload rest fit e. (let h = other lsn payload rest fit e in omega (arith, h.0)) };
  within = subst (λ (n : ℕ). AreWithin device.pages n changes) s (subst (λ (n : ℕ). AreWithin n size changes) p (subst (AreWithin pages size) same within));
  same_head = λ lsn payload rest fit e. (other lsn payload rest fit e).1;
}

-- these were redone; or some pages of them
pub record Redid {P : Type 0} (reads : Reads P) (writes : Writes P) (syncs : Syncs P) (device : Geometry) (changes : List LogRecord) (old : P) (done : Bool) (new : P) : Type 0 where
  pub calls : List DeviceCall
  pub did : Did reads writes syncs old calls new
  pub recovers : RecoversThroughout device.pages device.size 0 (reverse changes) calls done

pub redid : {P : Type 0} (reads : Reads P) (writes : Writes P) (syncs : Syncs P) (device : Geometry) (changes mid : List LogRecord) (from : ℕ) (old new : P) (done : Bool) → from ≡ 0 → mid ≡ changes
    → (calls : List DeviceCall) × Did reads writes syncs old calls new × RecoversThroughout device.pages device.size from (reverse mid) calls done → Redid reads writes syncs device changes old done new
redid reads writes syncs device changes mid from old new done none same h = record {
  calls = h.0;
  did = h.1;
  recovers =
      subst (λ (n : ℕ). RecoversThroughout device.pages device.size n (reverse changes) h.0 done) none
      (subst (λ (rs : List LogRecord). RecoversThroughout device.pages device.size from (reverse rs) h.0 done) same h.2);
}

-- the other log begins as late
pub late : (table newer older : List ℕ) (first last other : ℕ) (changes : List LogRecord) → HasCommits table newer first last changes → first ≤ other
    → (other ≡ 0) ⊎ ((payload rest : List ℕ) × IsRecord other payload × (older ≡ frame other payload ++ rest)) → ¬ BeginsBefore first older
late table newer older first last other changes has le (inl e) = λ b. (let p = has.is_read.records.0.positive in omega (arith, e))
late table newer older first last other changes has le (inr h) = λ b. (let below = b other h.0 h.1 h.2 h.3 in omega arith)

-- a change lies in no page
pub beyond-as : (device : Geometry) (table newer older : List ℕ) (pages size first last : ℕ) (changes mid : List LogRecord) (why : Refusal) → HasCommits table newer first last changes → pages ≡ device.pages → size ≡ device.size → mid ≡ changes
    → (why ≡ OutOfPage) × ¬ AreWithin pages size mid → MoveFault device table newer older (Pages why)
beyond-as device table newer older pages size first last changes mid why has p s same h =
    subst (λ w. MoveFault device table newer older (Pages w)) (sym h.0)
    (beyond has (λ w. h.1 (subst (AreWithin pages size) (sym same) (subst (λ (n : ℕ). AreWithin n size changes) (sym p) (subst (λ (n : ℕ). AreWithin device.pages n changes) (sym s) w)))))

module _ {S P : Type 0} (reads writes : P → Transfer S) (syncs : P → StoreSync S) (page_reads : Reads P) (page_writes : Writes P) (page_syncs : Syncs P) (device : Geometry) (table newer older : List ℕ) (old new : P) (old_newer old_older new_newer new_older : LogFile S) where
  abbrev Moved : Result (Unit {0}) TableFault → Type 0
  Moved r = MovesLog reads writes syncs page_reads page_writes page_syncs device table newer older old old_newer old_older r new new_newer new_older

  -- an error, whichever it is
  pub not-moved : (r : Result (Unit {0}) TableFault) → IsErr r → ((why : TableFault) → Moved (Err why)) → Moved r
  not-moved (Ok x) e h = absurd (cc)
  not-moved (Err why) e h = h why

  -- this error
  pub refused-as : (r : Result (Unit {0}) TableFault) (why : TableFault) → IsErrAnd r (λ e. e ≡ why) → Moved (Err why) → Moved r
  refused-as (Ok x) why k h = absurd k
  refused-as (Err e) why k h = subst (λ w. Moved (Err w)) (sym k) h

-- an opening's calls, one part after the other
module _ {S P : Type 0} (reads writes : P → Transfer S) (syncs : P → StoreSync S) (page_reads : Reads P) (page_writes : Writes P) (page_syncs : Syncs P) (device : Geometry) (table newer older : List ℕ) (old : P) (old_newer old_older new_newer : LogFile S) (f : Found device table newer older)
    (calls : List FileCall) (good : Bool) (did : FileDid (reads old) (writes old) (syncs old) old_newer.store calls new_newer.store) (settled : Settles (again_of f.is_newer) calls good) where
  abbrev Opening : List Step → Type 0
  Opening = IsOpening device (again_of f.is_newer) table f.changes (f.last + 1) old_older.size

  abbrev Ordered : P → LogFile S → Type 0
  Ordered new new_older = IsInOrder reads writes syncs page_reads page_writes page_syncs device (again_of f.is_newer) table f.changes (f.last + 1) old new old_newer new_newer old_older new_older

  settle-each : AtEach Opening (map OfLog calls)
  settle-each = each-of-log Opening calls (λ later so_far e. settling later (of-log so_far).0 (of-log so_far).2 settled (e ∙ ap (λ (t : List FileCall). later ++ t) (sym (of-log so_far).1)))

  settle-did : Made page_reads page_writes page_syncs reads writes syncs (record { port = old; log = old_newer.store; spare = old_older.store }) (map OfLog calls) (record { port = old; log = new_newer.store; spare = old_older.store })
  settle-did = made-log page_reads page_writes page_syncs reads writes syncs old old_newer.store new_newer.store old_older.store calls did

  settle-order : Ordered old old_older
  settle-order = record { steps = map OfLog calls; did = settle-did; each = settle-each }

  abbrev Unsettled : TableFault → Type 0
  Unsettled why = LogRefused (StopFault (reads old) (writes old) (syncs old) (λ cs. Settles (again_of f.is_newer) cs false) old_newer.store new_newer.store) why

  pub was-unsettled : good ≡ false → (why : TableFault) → Unsettled why → MovesLog reads writes syncs page_reads page_writes page_syncs device table newer older old old_newer old_older (Err why) old new_newer old_older
  unfolding settle-order
  was-unsettled bad why cause =
      unsettled f why settle-order ((of-log calls).0, (of-log calls).2) (subst (λ (b : Bool). Settles (again_of f.is_newer) (log_in (map OfLog calls)) b) bad (subst (λ (cs : List FileCall). Settles (again_of f.is_newer) cs good) (sym (of-log calls).1) settled)) cause

  module _ (well : good ≡ true) (new : P) (done : Bool) (r : Redid page_reads page_writes page_syncs device f.changes old done new) where
    abbrev redo_steps : List DeviceCall → List Step
    redo_steps cs = map OfPages cs ++ map OfLog calls

    pages-are : (cs : List DeviceCall) → pages_in (map OfPages cs ++ map OfLog calls) ≡ cs
    pages-are cs = pages-append (map OfPages cs) (map OfLog calls) ∙ ap (λ (t : List DeviceCall). t ++ pages_in (map OfLog calls)) (of-pages cs).0 ∙ ap (λ (t : List DeviceCall). cs ++ t) (of-log calls).0 ∙ append-nil cs

    log-are : (cs : List DeviceCall) → log_in (map OfPages cs ++ map OfLog calls) ≡ calls
    log-are cs = log-append (map OfPages cs) (map OfLog calls) ∙ ap (λ (t : List FileCall). t ++ log_in (map OfLog calls)) (of-pages cs).1 ∙ (of-log calls).1

    spare-are : (cs : List DeviceCall) → spare_in (map OfPages cs ++ map OfLog calls) ≡ []
    spare-are cs = spare-append (map OfPages cs) (map OfLog calls) ∙ ap (λ (t : List FileCall). t ++ spare_in (map OfLog calls)) (of-pages cs).2 ∙ (of-log calls).2

    whole-settled : (cs : List FileCall) → cs ≡ calls → Settles (again_of f.is_newer) cs true
    whole-settled cs e = subst (λ (b : Bool). Settles (again_of f.is_newer) cs b) well (subst (λ (fs : List FileCall). Settles (again_of f.is_newer) fs good) (sym e) settled)

    pages-with : (so_far : List Step) → pages_in (so_far ++ map OfLog calls) ≡ pages_in so_far
    pages-with so_far = pages-append so_far (map OfLog calls) ∙ ap (λ (t : List DeviceCall). pages_in so_far ++ t) (of-log calls).0 ∙ append-nil (pages_in so_far)

    log-with : (so_far : List Step) → log_in so_far ≡ [] → log_in (so_far ++ map OfLog calls) ≡ calls
    log-with so_far none = log-append so_far (map OfLog calls) ∙ ap (λ (t : List FileCall). t ++ log_in (map OfLog calls)) none ∙ (of-log calls).1

    spare-with : (so_far : List Step) → spare_in so_far ≡ [] → spare_in (so_far ++ map OfLog calls) ≡ []
    spare-with so_far none = spare-append so_far (map OfLog calls) ∙ ap (λ (t : List FileCall). t ++ spare_in (map OfLog calls)) none ∙ (of-log calls).2

    redo-each : AtEach (λ so_far. Opening (so_far ++ map OfLog calls)) (map OfPages r.calls)
    redo-each =
        each-map (λ so_far. Recovers device.pages device.size 0 (reverse f.changes) (pages_in so_far) false × (log_in so_far ≡ []) × (spare_in so_far ≡ [])) (λ so_far. Opening (so_far ++ map OfLog calls))
        (λ so_far s. redoing_it (spare-with so_far s.2) (whole-settled (log_in (so_far ++ map OfLog calls)) (log-with so_far s.1)) (subst (λ (cs : List DeviceCall). Recovers device.pages device.size 0 (reverse f.changes) cs false) (sym (pages-with so_far)) s.0))
        (map OfPages r.calls) (each-page-call (λ so_far. Recovers device.pages device.size 0 (reverse f.changes) so_far false) r.calls r.recovers.1)

    redo-did : Made page_reads page_writes page_syncs reads writes syncs (record { port = old; log = old_newer.store; spare = old_older.store }) (map OfPages r.calls ++ map OfLog calls) (record { port = new; log = new_newer.store; spare = old_older.store })
    redo-did =
        made-append page_reads page_writes page_syncs reads writes syncs (record { port = old; log = old_newer.store; spare = old_older.store }) (record { port = old; log = new_newer.store; spare = old_older.store }) (record { port = new; log = new_newer.store; spare = old_older.store }) (map OfPages r.calls) (map OfLog calls)
        settle-did (made-pages page_reads page_writes page_syncs reads writes syncs old new new_newer.store old_older.store r.calls r.did)

    redo-order : Ordered new old_older
    redo-order = record { steps = map OfPages r.calls ++ map OfLog calls; did = redo-did; each = each-append Opening (map OfPages r.calls) (map OfLog calls) settle-each redo-each }

    pub was-stopped : (why : TableFault) → MovesLog reads writes syncs page_reads page_writes page_syncs device table newer older old old_newer old_older (Err why) new new_newer old_older
    unfolding redo-order
    was-stopped why =
        stopped f done why redo-order (spare-are r.calls) (whole-settled (log_in (map OfPages r.calls ++ map OfLog calls)) (log-are r.calls))
        (subst (λ (cs : List DeviceCall). Recovers device.pages device.size 0 (reverse f.changes) cs done) (sym (pages-are r.calls)) r.recovers.0)

    module _ (all_done : done ≡ true) (new_older : LogFile S) (is_begun : Bool) (b : Begins (reads new) (writes new) (syncs new) old_older new_older (f.last + 1) table is_begun) where
      abbrev since : List Step
      since = map OfPages r.calls ++ map OfLog calls

      whole-redone : (cs : List DeviceCall) → cs ≡ r.calls → Recovers device.pages device.size 0 (reverse f.changes) cs true
      whole-redone cs e = subst (λ (d : Bool). Recovers device.pages device.size 0 (reverse f.changes) cs d) all_done (subst (λ (xs : List DeviceCall). Recovers device.pages device.size 0 (reverse f.changes) xs done) (sym e) r.recovers.0)

      pages-then : (so_far : List Step) → pages_in so_far ≡ [] → pages_in (so_far ++ since) ≡ r.calls
      pages-then so_far none = pages-append so_far since ∙ ap (λ (t : List DeviceCall). t ++ pages_in since) none ∙ pages-are r.calls

      log-then : (so_far : List Step) → log_in so_far ≡ [] → log_in (so_far ++ since) ≡ calls
      log-then so_far none = log-append so_far since ∙ ap (λ (t : List FileCall). t ++ log_in since) none ∙ log-are r.calls

      spare-then : (so_far : List Step) → spare_in (so_far ++ since) ≡ spare_in so_far
      spare-then so_far = spare-append so_far since ∙ ap (λ (t : List FileCall). spare_in so_far ++ t) (spare-are r.calls) ∙ append-nil (spare_in so_far)

      begin-each : AtEach (λ so_far. Opening (so_far ++ since)) (map OfSpare b.calls)
      begin-each =
          each-map (λ so_far. BeginsBy old_older.size (f.last + 1) table (spare_in so_far) × (pages_in so_far ≡ []) × (log_in so_far ≡ [])) (λ so_far. Opening (so_far ++ since))
          (λ so_far s. beginning_it (whole-settled (log_in (so_far ++ since)) (log-then so_far s.2)) (whole-redone (pages_in (so_far ++ since)) (pages-then so_far s.1)) (ap (some is_good_sync) (pages-then so_far s.1) ∙ r.recovers.2 all_done) (subst (BeginsBy old_older.size (f.last + 1) table) (sym (spare-then so_far)) s.0))
          (map OfSpare b.calls) (each-spare (BeginsBy old_older.size (f.last + 1) table) b.calls (each-by old_older.size (f.last + 1) table b.calls b.by))

      begin-order : Ordered new new_older
      begin-order = record {
        steps = map OfSpare b.calls ++ since;
        did =
            made-append page_reads page_writes page_syncs reads writes syncs (record { port = old; log = old_newer.store; spare = old_older.store }) (record { port = new; log = new_newer.store; spare = old_older.store }) (record { port = new; log = new_newer.store; spare = new_older.store }) (map OfSpare b.calls) since
            redo-did (made-spare page_reads page_writes page_syncs reads writes syncs new new_newer.store old_older.store new_older.store b.calls b.did);
        each = each-append Opening (map OfSpare b.calls) since (each-append Opening (map OfPages r.calls) (map OfLog calls) settle-each redo-each) begin-each;
      }

      pub was-moved : (result : Result (Unit {0}) TableFault) → is_ok result ≡ is_begun → IfErr result (LogRefused (BeginFault (reads new) (writes new) (syncs new) old_older.size (f.last + 1) table old_older.store new_older.store))
          → MovesLog reads writes syncs page_reads page_writes page_syncs device table newer older old old_newer old_older result new new_newer new_older
      unfolding begin-order
      was-moved result told cause =
          let none : spare_in (map OfSpare b.calls ++ since) ≡ b.calls = spare-then (map OfSpare b.calls) ∙ (of-spare b.calls).2 in
          moved f result begin-order (whole-settled (log_in (map OfSpare b.calls ++ since)) (log-then (map OfSpare b.calls) (of-spare b.calls).1)) (whole-redone (pages_in (map OfSpare b.calls ++ since)) (pages-then (map OfSpare b.calls) (of-spare b.calls).0))
          (subst (BeginsBy old_older.size (f.last + 1) table) (sym none) b.by) cause
          (λ ok file before long size. subst (λ (fs : List FileCall). IsLogFile file (f.last + 1) (fs ++ before) (table ∷ []) 1 new_older) (sym none) (b.is (sym told ∙ ok) file before long size))

module _ {S : Type 0} (reads writes : Transfer S) (syncs : StoreSync S) (old new : LogFile S) where
  pub was-unread : (why : LogFault) → IsUnread reads old.store new.store why → IsOnlyRead reads writes syncs old new
  was-unread _ (no_memory same) = ([], same, tt)
  was-unread _ (failed_read bytes gave) = (Read 0 bytes false ∷ [], (old.store, refl, gave), tt)

  pub was-read : (bytes : List ℕ) → reads old.store 0 bytes true new.store → IsOnlyRead reads writes syncs old new
  was-read bytes h = (Read 0 bytes true ∷ [], (old.store, refl, h), tt)

module _ {S P : Type 0} (reads writes : P → Transfer S) (syncs : P → StoreSync S) (page_reads : Reads P) (page_writes : Writes P) (page_syncs : Syncs P) (device : Geometry) (table : List ℕ) (old new : P) (newer older mid_newer mid_older new_newer new_older : LogFile S)
    (passed a b bytes other : List ℕ) (same : passed ≡ table) (same_a : bytes ≡ a) (same_b : other ≡ b) (read_a : reads old newer.store 0 a true mid_newer.store) (read_b : reads old older.store 0 b true mid_older.store)
    (long_a : length a ≡ newer.size) (long_b : length b ≡ older.size) (kept_a : mid_newer.size ≡ newer.size) (kept_b : mid_older.size ≡ older.size) where
  abbrev MovesTo : Result (Unit {0}) TableFault → Type 0
  MovesTo outcome = mid_newer.size ≡ length bytes → MovesLog reads writes syncs page_reads page_writes page_syncs device passed bytes other old mid_newer mid_older outcome new new_newer new_older

  pub moves : (is_second : Bool) (result : Result Bool TableFault) (outcome : Result (Unit {0}) TableFault) → MovesTo outcome → IfOk result (λ which. (which ≡ is_second) × (is_ok outcome ≡ true)) → IfErr result (λ why. outcome ≡ Err why)
      → Moves reads writes syncs page_reads page_writes page_syncs device table is_second old newer older result new new_newer new_older
  moves is_second result outcome h told refusal =
      let size_a : mid_newer.size ≡ length bytes = kept_a ∙ sym long_a ∙ ap (λ (t : List ℕ). length t) (sym same_a) in
      let size_b : mid_older.size ≡ length other = kept_b ∙ sym long_b ∙ ap (λ (t : List ℕ). length t) (sym same_b) in
      record {
        bytes = bytes;
        other = other;
        mid_newer = mid_newer;
        mid_older = mid_older;
        outcome = outcome;
        read_newer = subst (λ (t : List ℕ). reads old newer.store 0 t true mid_newer.store) (sym same_a) read_a;
        read_older = subst (λ (t : List ℕ). reads old older.store 0 t true mid_older.store) (sym same_b) read_b;
        size = (size_b, size_a);
        moves = subst (λ (t : List ℕ). MovesLog reads writes syncs page_reads page_writes page_syncs device t bytes other old mid_newer mid_older outcome new new_newer new_older) same (h size_a);
        told = told;
        refused = refusal;
      }

  pub moves-not : (is_second : Bool) (result : Result Bool TableFault) (why : TableFault) → IsErrAnd result (λ e. e ≡ why) → MovesTo (Err why)
      → Moves reads writes syncs page_reads page_writes page_syncs device table is_second old newer older result new new_newer new_older
  moves-not is_second (Ok x) why k h = absurd k
  moves-not is_second (Err e) why k h = moves is_second (Err e) (Err why) h tt (ap (λ w. Err w) (sym k))

-- ---- what the making of a table does

pub framed-not : (bytes slice : List ℕ) → slice ≡ bytes → (lsn : ℕ) (payload rest : List ℕ) → IsRecord lsn payload → slice ≡ frame lsn payload ++ rest → ¬ NoFrame bytes
framed-not bytes slice same lsn payload rest fit e = λ none. none lsn payload rest fit (sym same ∙ e)

pub created-as : {S : Type 0} (reads writes : Transfer S) (syncs : StoreSync S) (head : List ℕ) (one two new_one new_two : LogFile S) (r : Result (Unit {0}) LogFault) (fault : LogFault) → IsErrAnd r (λ e. e ≡ fault)
    → CreatesLog reads writes syncs head one two (Err fault) new_one new_two → CreatesLog reads writes syncs head one two r new_one new_two
created-as reads writes syncs head one two new_one new_two (Ok x) fault k h = absurd k
created-as reads writes syncs head one two new_one new_two (Err e) fault k h = subst (λ x. CreatesLog reads writes syncs head one two (Err x) new_one new_two) (sym k) h

pub emptied : {S : Type 0} (reads writes : Transfer S) (syncs : StoreSync S) (old new : LogFile S) → WipesFile reads writes syncs old.size old.store true new.store → EmptiesFile reads writes syncs old new
emptied reads writes syncs old new w = λ file before long size. (
  Sync true ∷ Wipe (length file) true ∷ [],
  (w.0, (old.store, refl, subst (λ (n : ℕ). writes old.store 0 (replicate n 0) true w.0) size w.1), w.2),
  is-emptied file before long,
)

-- ---- why an opening does not come to the logs

pub fault-as : {A : Type 0} (r : Result A TableFault) (fault : TableFault) (P : TableFault → Type 0) → IsErrAnd r (λ e. e ≡ fault) → P fault → IfErr r P
fault-as (Ok x) fault P k p = tt
fault-as (Err e) fault P k p = subst P (sym k) p

pub other-as : (head passed bytes slice : List ℕ) (why : LogFault) → passed ≡ head → slice ≡ bytes → OtherHead passed slice why → OtherHead head bytes why
other-as head passed bytes slice why same_head same_bytes o = subst (λ t. OtherHead t bytes why) same_head (subst (λ t. OtherHead passed t why) same_bytes o)
