-- What each call of a table adds to it.
use Rattle.std.proofs.Common.{◌≡◌, inl, inr, refl, sym, ap, subst, ◌∙◌, ℕ, max, ◌+◌, ◌<◌, ◌≤◌, Bool, true, false, not, cond, ◌==◌, ◌&&◌, ◌||◌, List, [], ◌∷◌, ◌++◌, length, take, drop, get_or, reverse, map, filter_map, Option, None, append_assoc, append-nil, arith}
use Rattle.std.specs.Prelude.{◌⊎◌, Result, Ok, Err, OnOk}
use Rattle.std.specs.Result.{IsErr}
use Rattle.std.proofs.lemmas.Bool.{cases_lt, or_parts}
use Rattle.std.proofs.Common.{◌-◌}
use Rattle.bp_page.specs.declared.refusals.Refusal.{Refusal}
use Rattle.bp_page.specs.declared.refusals.Refusal.TheVariants as refusal
use Rattle.bp_page.specs.Refusals.{number_of}
use Rattle.bp_core.specs.CoreView.{CoreView}
use Rattle.bp_core.specs.Outcomes.{Adds, StepOutcome, TickOutcome, WriteOutcome, UnfixOutcome}
use Rattle.bp_core.specs.declared.passes.Pass.{Pass}
use Rattle.bp_device.specs.Drivers.{DrivesFix}
use Rattle.std.specs.List.{cons_option}
use Rattle.std.proofs.lemmas.List.{reverse-append, length-map, map_push, take_more, drop_more}
use Rattle.bp_page.specs.declared.refusals.PortFault.{PortFault}
use Rattle.bp_trail.specs.declared.entries.Entry.{Entry}
use Rattle.bp_trail.specs.declared.entries.Call.{Call}
use Rattle.bp_trail.specs.declared.entries.Call.TheVariants.{Tick, Mark, Fix, ReadEnd, WriteEnd, Read, Write, Unfix, Flush, Discard, Purge}
use Rattle.bp_trail.specs.declared.entries.Reply.TheVariants.{Done, WriteFirst}
use Rattle.bp_trail.specs.declared.records.LogRecord.{LogRecord}
use Rattle.bp_trail.specs.Parameters.{Parameters}
use Rattle.bp_trail.specs.Lists.{some, greatest}
use Rattle.bp_trail.specs.Trail.{Trail}
use Rattle.bp_trail.specs.Clock.{durable}
use Rattle.bp_trail.specs.Event.{is_write, is_discard, is_away_reply, page_of, marked, discards}
use Rattle.bp_trail.specs.Legal.{Legal}
use Rattle.bp_trail.specs.Recovery.{record_of}
use Rattle.bp_trail.specs.Pieces.{FixGoesOn, FixPiece, Outcome}
use Rattle.bp_trail.specs.Pieces.Manner.{driver}
use Rattle.bp_trail.specs.Pieces.Outcome.{accepted, refused}
use Rattle.bp_trail.specs.Pieces.FixGoesOn.{begins, marked as was_marked, waited, cleaned, still_dirty}
use Rattle.bp_trail.specs.Pieces.FixPiece.{hit, fixed, no_victim, need_log, busy, read_failed, wrong_page, write_failed, lost_read, lost_write, no_room, no_memory}
use Rattle.bp_core.specs.Added.{Ends}
use Rattle.bp_core.specs.Work.{DoesWork, WorksThrough, Works, image_found}
use Rattle.bp_trail.specs.Saved.{page_lsn}
use Rattle.bp_device.specs.Owned.{ForPage, ForPart, IsTicked, IsUnticked, OwnedView, OwnerFixes}
use Rattle.bp_ports.specs.Files.{Transfer, StoreSync}
use Rattle.example_log.specs.declared.log.LogFile.{LogFile}
use Rattle.example_log.specs.Commits.{IsChange, change_bytes, AreChanges, changes_of, log_of, payload_of}
use Rattle.example_log.specs.Disk.{DeviceCall, Reads, Writes, Syncs, Did, sync_failed}
use Rattle.example_log.specs.Disk.DeviceCall.{Read as DeviceRead, NotRead as DeviceNotRead, Write as DeviceWrite}
use Rattle.example_log.specs.Files.{FileCall, FileDid}
use Rattle.example_log.specs.Moments.{AtEach, Made, Step, log_in, pages_in, spare_in}
use Rattle.example_log.specs.Moments.Step.{OfPages, OfLog}
use Rattle.example_log.proofs.Moments.{each-append, each-first, each-map, log-more, made-append, made-log, made-pages, of-log, of-pages, pages-append, pages-more, spare-append}
use Rattle.example_table.proofs.Standing.{calls-since, each-page, from-earlier, grown-by, stands-now, till-later}
use Rattle.example_log.specs.LogFiles.{IsLogFile, GoesOn}
use Rattle.example_table.specs.PoolLives.{PoolFrom, ends_work}
use Rattle.example_table.specs.PoolLives.PoolFrom.{opened, entered, read, not_read, wrote}
use Rattle.example_table.specs.Images.{FirstsAreFull}
use Rattle.example_table.specs.Tables.{Cut, Stands, TableRan, no_cut, writes_of}
use Rattle.example_log.specs.declared.log.LogFault.{LogFault}
use Rattle.example_log.specs.declared.log.LogFault.TheVariants.{Device as FileFailed}
use Rattle.example_table.specs.declared.table.TableFault.TheVariants.{Log, Pages}
use Rattle.example_table.specs.Faults.{DurableFault}
use Rattle.example_table.specs.Faults.DurableFault.{failed as sync_failed_there, no_room as no_room_left}
use Rattle.example_table.specs.TableCalls.{IsTable, TableGoes, under}
use Rattle.example_log.proofs.CommitsRead.{commits-push, changes_of-push, changes-push, payload-push}
use Rattle.example_log.specs.Lives.{LogLife}
use Rattle.example_log.proofs.Lives.{life-is}

-- ---- entries that write, mark and discard nothing

abbrev pub Quiet : Trail → Type 0
Quiet [] = Unit {0}
Quiet (e ∷ older) = (is_write e.call ≡ false) × (marked e.call ≡ None) × (is_discard e.call ≡ false) × Quiet older

goes-quiet : (client page : ℕ) (piece : Trail) → FixGoesOn driver client page piece → Quiet piece
goes-quiet client page _ begins = tt
goes-quiet client page _ (was_marked {older = older} lsn session before) = absurd (cc)
goes-quiet client page _ (waited {older = older} session before) = (refl, refl, refl, goes-quiet client page older before)
goes-quiet client page _ (cleaned {older = older} t v image before) = (refl, refl, refl, (refl, refl, refl, goes-quiet client page older before))
goes-quiet client page _ (still_dirty {older = older} t v image before) = (refl, refl, refl, (refl, refl, refl, goes-quiet client page older before))

pub fix-quiet : (client page : ℕ) (piece : Trail) (outcome : Outcome) → FixPiece driver client page piece outcome → Quiet piece
fix-quiet client page _ _ (hit {older = older} pass before) = (refl, refl, refl, goes-quiet client page older before)
fix-quiet client page _ _ (fixed {older = older} t pass evicted image before) = (refl, refl, refl, (refl, refl, refl, goes-quiet client page older before))
fix-quiet client page _ _ (no_victim {older = older} before) = (refl, refl, refl, goes-quiet client page older before)
fix-quiet client page _ _ (need_log {older = older} lsn before) = (refl, refl, refl, goes-quiet client page older before)
fix-quiet client page _ _ (busy {older = older} d before) = (refl, refl, refl, goes-quiet client page older before)
fix-quiet client page _ _ (read_failed {older = older} t evicted before) = (refl, refl, refl, (refl, refl, refl, goes-quiet client page older before))
fix-quiet client page _ _ (wrong_page {older = older} t evicted before) = (refl, refl, refl, (refl, refl, refl, goes-quiet client page older before))
fix-quiet client page _ _ (write_failed {older = older} t v image before) = (refl, refl, refl, (refl, refl, refl, goes-quiet client page older before))
fix-quiet client page _ _ (lost_read {older = older} t evicted session before) = (refl, refl, refl, goes-quiet client page older before)
fix-quiet client page _ _ (lost_write {older = older} t v image session before) = (refl, refl, refl, goes-quiet client page older before)
fix-quiet client page _ _ (no_room {older = older} before) = goes-quiet client page older before
fix-quiet client page _ _ (no_memory {older = older} before) = goes-quiet client page older before

pub quiet-writes : (piece past : Trail) → Quiet piece → writes_of (piece ++ past) ≡ writes_of past
quiet-writes [] past q = refl
quiet-writes (e ∷ older) past q = ap (λ (b : Bool). cond b (record_of e.call ∷ writes_of (older ++ past)) (writes_of (older ++ past))) q.0 ∙ quiet-writes older past q.3

pub quiet-marks : (piece past : Trail) → Quiet piece → durable (piece ++ past) ≡ durable past
quiet-marks [] past q = refl
quiet-marks (e ∷ older) past q = ap (λ (o : Option ℕ). greatest (cons_option o (filter_map (λ d. marked d.call) (older ++ past)))) q.1 ∙ quiet-marks older past q.3

keeps : (e : Entry) (p : ℕ) → is_discard e.call ≡ false → discards p e ≡ false
keeps e p d = ap (λ (b : Bool). is_away_reply e.reply && (b && (page_of e.call == p))) d ∙ and-false (is_away_reply e.reply)
  where
    and-false : (b : Bool) → (b && false) ≡ false
    and-false true = refl
    and-false false = refl

pub quiet-keeps : (piece past : Trail) (p : ℕ) → Quiet piece → some (discards p) past ≡ false → some (discards p) (piece ++ past) ≡ false
quiet-keeps [] past p q k = k
quiet-keeps (e ∷ older) past p q k = ap (λ (b : Bool). b || some (discards p) (older ++ past)) (keeps e p q.2) ∙ quiet-keeps older past p q.3 k

-- ---- the work of a pool

pub none-added : (more calls : List DeviceCall) → some sync_failed more ≡ false → some sync_failed calls ≡ false → some sync_failed (more ++ calls) ≡ false
none-added [] calls h k = k
none-added (call ∷ more) calls h k = let a = or_parts (sync_failed call) (some sync_failed more) h in ap (λ (b : Bool). b || some sync_failed (more ++ calls)) a.0 ∙ none-added more calls a.1 k

module _ {P : Type 0} (reads : Reads P) (writes : Writes P) (syncs : Syncs P) (begun : Trail) (begun_calls : List DeviceCall) where
  abbrev Life : Trail → List DeviceCall → Trail → Type 0
  Life = PoolFrom begun begun_calls

  abbrev Worked : P → P → Trail → List DeviceCall → Trail → Type 0
  Worked port after past calls synced = (more : List DeviceCall) × Did reads writes syncs port more after × Life past (more ++ calls) synced × (some sync_failed more ≡ false)

  works-one : (past synced : Trail) (calls more : List DeviceCall) (e : Entry) (port mid after : P) → Did reads writes syncs port more mid → Life past (more ++ calls) synced → some sync_failed more ≡ false → (call : Call) → e.call ≡ call → Works reads writes past call e.reply mid after
      → Worked port after (e ∷ past) calls synced
  works-one past synced calls more e port mid after did life none (ReadEnd t p image) i w = go w.found w.gave w.image_is
    where
      go : (found : Result (List ℕ) PortFault) → reads mid p found after → image ≡ image_found found → Worked port after (e ∷ past) calls synced
      go (Ok bytes) gave is = (DeviceRead p bytes ∷ more, (mid, did, gave), read e t p bytes (i ∙ ap (λ o. ReadEnd t p o) is) life, none)
      go (Err fault) gave is = (DeviceNotRead p ∷ more, (mid, did, (fault, gave)), not_read e t p (i ∙ ap (λ o. ReadEnd t p o) is) life, none)
  works-one past synced calls more e port mid after did life none (WriteEnd t p good) i w = go past life w.began
    where
      go : (xs : Trail) → Life xs (more ++ calls) synced → Ends (WriteFirst t p w.image) xs → Worked port after (e ∷ xs) calls synced
      go [] life began = absurd began
      go (f ∷ older) life began = (DeviceWrite p w.image good ∷ more, (mid, did, (page_lsn past p, w.written, w.gave, w.good_is)), wrote e f t p w.image good i began life, none)
  works-one past synced calls more e port mid after did life none (Tick n) i w = (more, subst (λ x. Did reads writes syncs port more x) (sym w) did, entered e (ap ends_work i) life, none)
  works-one past synced calls more e port mid after did life none (Mark n) i w = (more, subst (λ x. Did reads writes syncs port more x) (sym w) did, entered e (ap ends_work i) life, none)
  works-one past synced calls more e port mid after did life none (Fix p) i w = (more, subst (λ x. Did reads writes syncs port more x) (sym w) did, entered e (ap ends_work i) life, none)
  works-one past synced calls more e port mid after did life none (Read n p) i w = (more, subst (λ x. Did reads writes syncs port more x) (sym w) did, entered e (ap ends_work i) life, none)
  works-one past synced calls more e port mid after did life none (Write n p o b l) i w = (more, subst (λ x. Did reads writes syncs port more x) (sym w) did, entered e (ap ends_work i) life, none)
  works-one past synced calls more e port mid after did life none (Unfix n p) i w = (more, subst (λ x. Did reads writes syncs port more x) (sym w) did, entered e (ap ends_work i) life, none)
  works-one past synced calls more e port mid after did life none (Flush p) i w = (more, subst (λ x. Did reads writes syncs port more x) (sym w) did, entered e (ap ends_work i) life, none)
  works-one past synced calls more e port mid after did life none (Discard p) i w = (more, subst (λ x. Did reads writes syncs port more x) (sym w) did, entered e (ap ends_work i) life, none)
  works-one past synced calls more e port mid after did life none Purge i w = (more, subst (λ x. Did reads writes syncs port more x) (sym w) did, entered e (ap ends_work i) life, none)

  pub works : (past synced piece : Trail) (calls : List DeviceCall) (port after : P) → Life past calls synced → WorksThrough reads writes past piece port after → Worked port after (piece ++ past) calls synced
  works past synced [] calls port after life w = ([], w, life, refl)
  works past synced (e ∷ older) calls port after life w =
      let h = works past synced older calls port w.0 life w.1 in
      works-one (older ++ past) synced calls h.0 e port w.0 after h.1 h.2 h.3 e.call refl w.2

-- ---- the calls of a table, one after the other

module _ {S P : Type 0} (reads writes : P → Transfer S) (syncs : P → StoreSync S) (page_reads : Reads P) (page_writes : Writes P) (page_syncs : Syncs P) (table : List ℕ) (cut : Cut) (file : List ℕ) (start : ℕ) where
  abbrev Goes : OwnedView P → OwnedView P → LogFile S → LogFile S → List DeviceCall → List FileCall → List (List LogRecord) → ℕ → (List (List LogRecord) → ℕ → List LogRecord → Type 0) → Type 0
  Goes old new old_log new_log calls log_calls before records so = TableGoes reads writes syncs page_reads page_writes page_syncs old new old_log new_log table cut file start calls log_calls before records so

  module _ (old mid new : OwnedView P) (old_log mid_log new_log : LogFile S) (calls : List DeviceCall) (log_calls : List FileCall) {commits : List (List LogRecord)} {records : ℕ} (A B : List (List LogRecord) → ℕ → List LogRecord → Type 0) (g : Goes old mid old_log mid_log calls log_calls commits records A) where
    pub table-next : (from : List (List LogRecord)) (count : ℕ) → from ≡ g.commits → count ≡ g.durable → Goes mid new mid_log new_log (pages_in g.steps ++ calls) (log_in g.steps ++ log_calls) from count B → Goes old new old_log new_log calls log_calls commits records B
    table-next from count same same_count h = record {
      steps = h.steps ++ g.steps;
      synced = h.synced;
      commits = h.commits;
      durable = h.durable;
      pending = h.pending;
      parameters = h.parameters ∙ g.parameters;
      no_spare = spare-append h.steps g.steps ∙ ap (λ (t : List FileCall). t ++ spare_in g.steps) h.no_spare ∙ g.no_spare;
      did = λ spare. made-append page_reads page_writes page_syncs reads writes syncs (record { port = old.port; log = old_log.store; spare = spare }) (record { port = mid.port; log = mid_log.store; spare = spare }) (record { port = new.port; log = new_log.store; spare = spare }) h.steps g.steps (g.did spare) (h.did spare);
      each = each-append So h.steps g.steps (each-map First So till g.steps g.each) (each-map Second (λ so_far. So (so_far ++ g.steps)) since h.steps h.each);
      no_fewer = (let a = g.no_fewer in let b = h.no_fewer in omega (arith, same_count));
      is =
          subst (λ (cs : List DeviceCall). IsTable table cut file start h.synced cs (log_in (h.steps ++ g.steps) ++ log_calls) h.commits h.durable h.pending new new_log) (sym (pages-more h.steps g.steps calls))
          (subst (λ (cs : List FileCall). IsTable table cut file start h.synced (pages_in h.steps ++ (pages_in g.steps ++ calls)) cs h.commits h.durable h.pending new new_log) (sym (log-more h.steps g.steps log_calls)) h.is);
      is_so = h.is_so;
    }
      where
        c : Parameters
        c = old.core.parameters

        So : List Step → Type 0
        So so_far = Stands old.core.parameters table cut file start (pages_in so_far ++ calls) (log_in so_far ++ log_calls) commits h.commits records

        First : List Step → Type 0
        First so_far = Stands old.core.parameters table cut file start (pages_in so_far ++ calls) (log_in so_far ++ log_calls) commits g.commits records

        Second : List Step → Type 0
        Second so_far = Stands mid.core.parameters table cut file start (pages_in so_far ++ (pages_in g.steps ++ calls)) (log_in so_far ++ (log_in g.steps ++ log_calls)) from h.commits count

        later : (x : List (List LogRecord)) × (h.commits ≡ from ++ x)
        later = grown-by mid.core.parameters table cut file start (pages_in g.steps ++ calls) (log_in g.steps ++ log_calls) from h.commits count (each-first Second h.steps h.each)

        added : (x : List (List LogRecord)) × (g.commits ≡ commits ++ x)
        added = grown-by old.core.parameters table cut file start calls log_calls commits g.commits records (each-first First g.steps g.each)

        till : (so_far : List Step) → First so_far → So so_far
        till so_far s = till-later old.core.parameters table cut file start (pages_in so_far ++ calls) (log_in so_far ++ log_calls) commits g.commits h.commits later.0 records (later.1 ∙ ap (λ (t : List (List LogRecord)). t ++ later.0) same) s

        since : (so_far : List Step) → Second so_far → So (so_far ++ g.steps)
        since so_far s =
            from-earlier old.core.parameters table cut file start (pages_in (so_far ++ g.steps) ++ calls) (log_in (so_far ++ g.steps) ++ log_calls) commits from h.commits added.0 records count (same ∙ added.1) (let a = g.no_fewer in omega (arith, same_count))
            (subst (λ (cs : List DeviceCall). Stands old.core.parameters table cut file start cs (log_in (so_far ++ g.steps) ++ log_calls) from h.commits count) (sym (pages-more so_far g.steps calls))
            (subst (λ (cs : List FileCall). Stands old.core.parameters table cut file start (pages_in so_far ++ (pages_in g.steps ++ calls)) cs from h.commits count) (sym (log-more so_far g.steps log_calls))
            (subst (λ (x : Parameters). Stands x table cut file start (pages_in so_far ++ (pages_in g.steps ++ calls)) (log_in so_far ++ (log_in g.steps ++ log_calls)) from h.commits count) g.parameters s)))

    pub table-then : Goes mid new mid_log new_log (pages_in g.steps ++ calls) (log_in g.steps ++ log_calls) g.commits g.durable B → Goes old new old_log new_log calls log_calls commits records B
    table-then h = table-next g.commits g.durable refl refl h

  module _ (synced : Trail) (calls : List DeviceCall) (log_calls : List FileCall) (commits : List (List LogRecord)) (records : ℕ) (pending : List LogRecord) (old : OwnedView P) (old_log : LogFile S)
      (is : IsTable table cut file start synced calls log_calls commits records pending old old_log) where
    now : Stands old.core.parameters table cut file start calls log_calls commits commits records
    now = stands-now old.core.parameters table cut file start (not old_log.is_ended) old.core.past synced calls log_calls commits records pending is.ran

    pub table-stays : (so : List (List LogRecord) → ℕ → List LogRecord → Type 0) → so commits records pending → Goes old old old_log old_log calls log_calls commits records so
    table-stays so p = record {
      steps = [];
      synced = synced;
      commits = commits;
      durable = records;
      pending = pending;
      parameters = refl;
      no_spare = refl;
      did = λ spare. refl;
      each = now;
      no_fewer = omega arith;
      is = is;
      is_so = p;
    }

    count : records ≤ 1 + length commits
    count = let l = life-is file start (not old_log.is_ended) log_calls (log_of table commits) records is.ran.log in omega (arith, l.count, length-map commits payload_of)

    -- The log made one call, or none, and has now so many records, and commits.
    pub log-goes : (at : P) → at ≡ old.port → (new_log : LogFile S) (after x : List (List LogRecord)) (count_now : ℕ) (left : List LogRecord) (Q : List (List ℕ) → ℕ → Type 0) (so : List (List LogRecord) → ℕ → List LogRecord → Type 0) → after ≡ commits ++ x → records ≤ count_now
        → (g : GoesOn (reads at) (writes at) (syncs at) old_log new_log file start log_calls Q) → IsTable table cut file start synced calls (g.more ++ log_calls) after count_now left old new_log → so after count_now left
        → Goes old old old_log new_log calls log_calls commits records so
    log-goes at there new_log after x count_now left Q so grown fewer g is_now p = record {
      steps = map OfLog g.more;
      synced = synced;
      commits = after;
      durable = count_now;
      pending = left;
      parameters = refl;
      no_spare = (of-log g.more).2;
      did = λ spare. made-log page_reads page_writes page_syncs reads writes syncs old.port old_log.store new_log.store spare g.more (subst (λ (port : P). FileDid (reads port) (writes port) (syncs port) old_log.store g.more new_log.store) there g.did);
      each = go g.more g.one is_now;
      no_fewer = fewer;
      is =
          subst (λ (cs : List DeviceCall). IsTable table cut file start synced (cs ++ calls) (log_in (map OfLog g.more) ++ log_calls) after count_now left old new_log) (sym (of-log g.more).0)
          (subst (λ (fs : List FileCall). IsTable table cut file start synced calls (fs ++ log_calls) after count_now left old new_log) (sym (of-log g.more).1) is_now);
      is_so = p;
    }
      where
        So : List Step → Type 0
        So so_far = Stands old.core.parameters table cut file start (pages_in so_far ++ calls) (log_in so_far ++ log_calls) commits after records

        first : So []
        first = till-later old.core.parameters table cut file start calls log_calls commits commits after x records grown now

        go : (more : List FileCall) → length more ≤ 1 → IsTable table cut file start synced calls (more ++ log_calls) after count_now left old new_log → AtEach So (map OfLog more)
        go [] one is_now = first
        go (call ∷ []) one is_now = (
          from-earlier old.core.parameters table cut file start calls (call ∷ log_calls) commits after after x records count_now grown fewer (stands-now old.core.parameters table cut file start (not new_log.is_ended) old.core.past synced calls (call ∷ log_calls) after count_now left is_now.ran),
          first,
        )
        go (call ∷ other ∷ more) one is_now = absurd (omega arith)

    -- the log was synced
    pub log-syncs : (at : P) → at ≡ old.port → (new_log : LogFile S) (good : Bool) → old_log.is_ended ≡ false → GoesOn (reads at) (writes at) (syncs at) old_log new_log file start log_calls (λ after n. (after ≡ log_of table commits) × ((good ≡ true → n ≡ length (log_of table commits)) × (good ≡ false → n ≡ records)))
        → Goes old old old_log new_log calls log_calls commits records (λ after n left. (after ≡ commits) × (left ≡ pending) × (good ≡ true → n ≡ 1 + length commits))
    log-syncs at there new_log good alive g = go good g.is_so.1
      where
        size : length (log_of table commits) ≡ 1 + length commits
        size = omega (arith, length-map commits payload_of)

        go : (b : Bool) → (b ≡ true → g.durable ≡ length (log_of table commits)) × (b ≡ false → g.durable ≡ records) → Goes old old old_log new_log calls log_calls commits records (λ after n left. (after ≡ commits) × (left ≡ pending) × (b ≡ true → n ≡ 1 + length commits))
        go b n = log-goes at there new_log commits [] g.durable pending (λ after n. (after ≡ log_of table commits) × ((good ≡ true → n ≡ length (log_of table commits)) × (good ≡ false → n ≡ records))) (λ after n left. (after ≡ commits) × (left ≡ pending) × (b ≡ true → n ≡ 1 + length commits)) (sym (append-nil commits)) (at-least b n) g (record {
          ran = record {
            log = subst (λ (xs : List (List ℕ)). LogLife file start (not new_log.is_ended) (g.more ++ log_calls) xs g.durable) g.is_so.0 g.is.life;
            are = is.ran.are;
            legal = is.ran.legal;
            cut_is = is.ran.cut_is;
            pool = is.ran.pool;
            unfailed = λ yes. is.ran.unfailed (ap not alive);
            written = is.ran.written;
            mark = (let m = is.ran.mark in let k = count in let more = at-least b n in omega arith);
            named = (let m = is.ran.named in let more = at-least b n in omega arith);
            kept = is.ran.kept;
            full = is.ran.full;
          };
          file_is = subst (λ (xs : List (List ℕ)). IsLogFile file start (g.more ++ log_calls) xs g.durable new_log) g.is_so.0 g.is;
        }) (refl, refl, λ e. n.0 e ∙ size)
          where
            at-least : (b : Bool) → (b ≡ true → g.durable ≡ length (log_of table commits)) × (b ≡ false → g.durable ≡ records) → records ≤ g.durable
            at-least true n = let e = n.0 refl in let k = count in omega (arith, size)
            at-least false n = let e = n.1 refl in omega arith

    -- the pool had its device make calls, while the file of the log was as it is
    pub pool-went : (new : OwnedView P) (new_log : LogFile S) (more : List DeviceCall) (left : List LogRecord) (settled : Trail) (so : List (List LogRecord) → ℕ → List LogRecord → Type 0) → new.core.parameters ≡ old.core.parameters → new_log.store ≡ old_log.store
        → Did page_reads page_writes page_syncs old.port more new.port → IsTable table cut file start settled (more ++ calls) log_calls commits records left new new_log → so commits records left → Goes old new old_log new_log calls log_calls commits records so
    pool-went new new_log more left settled so same store did there p = record {
      steps = map OfPages more;
      synced = settled;
      commits = commits;
      durable = records;
      pending = left;
      parameters = same;
      no_spare = (of-pages more).2;
      did = λ spare. subst (λ (x : S). Made page_reads page_writes page_syncs reads writes syncs (record { port = old.port; log = old_log.store; spare = spare }) (map OfPages more) (record { port = new.port; log = x; spare = spare })) (sym store) (made-pages page_reads page_writes page_syncs reads writes syncs old.port new.port old_log.store spare more did);
      each =
          each-page old.core.parameters table cut file start (not new_log.is_ended) new.core.past settled more calls log_calls commits records left
          (subst (λ (c : Parameters). TableRan c table cut file start (not new_log.is_ended) new.core.past settled (more ++ calls) log_calls commits records left) same there.ran) (calls-since cut.past cut.calls old.core.past calls synced is.ran.pool);
      no_fewer = omega arith;
      is =
          subst (λ (cs : List DeviceCall). IsTable table cut file start settled (cs ++ calls) (log_in (map OfPages more) ++ log_calls) commits records left new new_log) (sym (of-pages more).0)
          (subst (λ (fs : List FileCall). IsTable table cut file start settled (more ++ calls) (fs ++ log_calls) commits records left new new_log) (sym (of-pages more).1) there);
      is_so = p;
    }

    -- the pool's entries became more
    pub pool-goes : (new : OwnedView P) (more : List DeviceCall) (left : List LogRecord) (so : List (List LogRecord) → ℕ → List LogRecord → Type 0)
        → new.core.parameters ≡ old.core.parameters → Legal new.core.parameters new.core.past → PoolFrom cut.past cut.calls new.core.past (more ++ calls) synced → (not old_log.is_ended ≡ true → some sync_failed (more ++ calls) ≡ false) → Did page_reads page_writes page_syncs old.port more new.port
        → reverse (changes_of (cut.commits ++ commits)) ≡ left ++ writes_of new.core.past
        → durable new.core.past < start + records → ((p : ℕ) → some (discards p) new.core.past ≡ false) → so commits records left → Goes old new old_log old_log calls log_calls commits records so
    pool-goes new more left so same legal life unfailed did told mark kept p =
        pool-went new old_log more left synced so same refl did (record {
          ran = record {
            log = is.ran.log;
            are = is.ran.are;
            legal = legal;
            cut_is = is.ran.cut_is;
            pool = life;
            unfailed = unfailed;
            written = told;
            mark = mark;
            named = is.ran.named;
            kept = kept;
            full = subst (λ (c : Parameters). FirstsAreFull c.size (reverse (changes_of commits))) (sym same) is.ran.full;
          };
          file_is = is.file_is;
        }) p

    pub pool-same : (new : OwnedView P) (so : List (List LogRecord) → ℕ → List LogRecord → Type 0) → new.core ≡ old.core → new.port ≡ old.port → so commits records pending → Goes old new old_log old_log calls log_calls commits records so
    pool-same new so core port p =
        let past = ap (λ (x : CoreView). x.past) core in
        pool-goes new [] pending so (ap (λ (x : CoreView). x.parameters) core)
        (subst (λ (x : CoreView). Legal x.parameters x.past) (sym core) is.ran.legal) (subst (λ (t : Trail). PoolFrom cut.past cut.calls t calls synced) (sym past) is.ran.pool) is.ran.unfailed port
        (is.ran.written ∙ ap (λ (t : Trail). pending ++ writes_of t) (sym past)) (subst (λ (t : Trail). durable t < start + records) (sym past) is.ran.mark)
        (λ q. subst (λ (t : Trail). some (discards q) t ≡ false) (sym past) (is.ran.kept q)) p

    -- the mark was raised, to the last record, when all were durable
    pub pool-marks : (new : OwnedView P) (lsn : ℕ) → records ≡ 1 + length commits → lsn ≡ old_log.next - 1 → old_log.is_ended ≡ false → Adds old.core 0 (Mark lsn) Done new.core → new.port ≡ old.port
        → Goes old new old_log old_log calls log_calls commits records (λ after n left. (after ≡ commits) × (left ≡ pending) × (n ≡ 1 + length commits))
    pool-marks new lsn all is-lsn alive adds port =
        let e : Entry = record { client = 0; call = Mark lsn; reply = Done } in
        let past : new.core.past ≡ e ∷ old.core.past = ap (λ (x : CoreView). x.past) adds.is in
        let next = is.file_is.next alive in
        let m = is.ran.mark in
        pool-goes new [] pending (λ after n left. (after ≡ commits) × (left ≡ pending) × (n ≡ 1 + length commits)) (ap (λ (x : CoreView). x.parameters) adds.is) adds.legal (subst (λ (t : Trail). PoolFrom cut.past cut.calls t calls synced) (sym past) (entered e refl is.ran.pool)) is.ran.unfailed port
        (is.ran.written ∙ ap (λ (t : Trail). pending ++ writes_of t) (sym past))
        (subst (λ (t : Trail). durable t < start + records) (sym past) (max-below lsn (durable old.core.past) (start + records) (omega (arith, is-lsn, next, all, length-map commits payload_of)) m))
        (λ q. subst (λ (t : Trail). some (discards q) t ≡ false) (sym past) (ap (λ (b : Bool). b || some (discards q) old.core.past) (keeps e q refl) ∙ is.ran.kept q)) (refl, refl, all)
      where
        max-below : (a b k : ℕ) → a < k → b < k → max a b < k
        max-below a b k p q = omega arith

  pub table-weaken : (old new : OwnedView P) (old_log new_log : LogFile S) (calls : List DeviceCall) (log_calls : List FileCall) {commits : List (List LogRecord)} {records : ℕ} (A B : List (List LogRecord) → ℕ → List LogRecord → Type 0)
      → ((cs : List (List LogRecord)) (n : ℕ) (left : List LogRecord) → A cs n left → B cs n left) → Goes old new old_log new_log calls log_calls commits records A → Goes old new old_log new_log calls log_calls commits records B
  table-weaken old new old_log new_log calls log_calls A B f g = record {
    steps = g.steps;
    synced = g.synced;
    commits = g.commits;
    durable = g.durable;
    pending = g.pending;
    parameters = g.parameters;
    no_spare = g.no_spare;
    did = g.did;
    each = g.each;
    no_fewer = g.no_fewer;
    is = g.is;
    is_so = f g.commits g.durable g.pending g.is_so;
  }

-- ---- what is said of the calls and commits of such a call

module _ {S P : Type 0} (reads writes : P → Transfer S) (syncs : P → StoreSync S) (page_reads : Reads P) (page_writes : Writes P) (page_syncs : Syncs P) (table : List ℕ) (cut : Cut) (file : List ℕ) (start : ℕ) (calls : List DeviceCall) (log_calls : List FileCall) where
  abbrev Goes_on : OwnedView P → OwnedView P → LogFile S → LogFile S → List DeviceCall → List FileCall → List (List LogRecord) → ℕ → (List (List LogRecord) → ℕ → List LogRecord → Type 0) → Type 0
  Goes_on old new old_log new_log cs fs before records so = TableGoes reads writes syncs page_reads page_writes page_syncs old new old_log new_log table cut file start cs fs before records so

  pub then-so : (old mid new : OwnedView P) (old_log mid_log new_log : LogFile S) {before : List (List LogRecord)} {records : ℕ} (A B : List (List LogRecord) → ℕ → List LogRecord → Type 0) (g : Goes_on old mid old_log mid_log calls log_calls before records A)
      (from : List (List LogRecord)) → from ≡ g.commits → (h : Goes_on mid new mid_log new_log (pages_in g.steps ++ calls) (log_in g.steps ++ log_calls) from g.durable B)
      (R : List DeviceCall → List (List LogRecord) → Type 0) → R (pages_in h.steps ++ pages_in g.steps) h.commits → (k : Goes_on old new old_log new_log calls log_calls before records B) × R (pages_in k.steps) k.commits
  unfolding table-next
  then-so old mid new old_log mid_log new_log A B g from same h R r =
      (table-next reads writes syncs page_reads page_writes page_syncs table cut file start old mid new old_log mid_log new_log calls log_calls A B g from g.durable same refl h, subst (λ (cs : List DeviceCall). R cs h.commits) (sym (pages-append h.steps g.steps)) r)

  pub so-so : (old new : OwnedView P) (old_log new_log : LogFile S) {before : List (List LogRecord)} {records : ℕ} (A B : List (List LogRecord) → ℕ → List LogRecord → Type 0) → ((cs : List (List LogRecord)) (n : ℕ) (left : List LogRecord) → A cs n left → B cs n left) → (g : Goes_on old new old_log new_log calls log_calls before records A)
      (R : List DeviceCall → List (List LogRecord) → Type 0) → R (pages_in g.steps) g.commits → (k : Goes_on old new old_log new_log calls log_calls before records B) × R (pages_in k.steps) k.commits
  unfolding table-weaken
  so-so old new old_log new_log A B f g R r = (table-weaken reads writes syncs page_reads page_writes page_syncs table cut file start old new old_log new_log calls log_calls A B f g, r)

  pub stays-so : (synced : Trail) (commits : List (List LogRecord)) (records : ℕ) (pending : List LogRecord) (old : OwnedView P) (old_log : LogFile S) (is : IsTable table cut file start synced calls log_calls commits records pending old old_log)
      (so : List (List LogRecord) → ℕ → List LogRecord → Type 0) → so commits records pending → (R : List DeviceCall → List (List LogRecord) → Type 0) → R [] commits → (k : Goes_on old old old_log old_log calls log_calls commits records so) × R (pages_in k.steps) k.commits
  unfolding table-stays
  stays-so synced commits records pending old old_log is so p R r = (table-stays reads writes syncs page_reads page_writes page_syncs table cut file start synced calls log_calls commits records pending old old_log is so p, r)

  -- as it was said to be
  pub so-is : (commits : List (List LogRecord)) (old new : OwnedView P) (old_log new_log : LogFile S) {before : List (List LogRecord)} {records : ℕ} (g : Goes_on old new old_log new_log calls log_calls before records (λ after n left. (after ≡ commits) × (left ≡ [])))
      → IsTable table cut file start g.synced (pages_in g.steps ++ calls) (log_in g.steps ++ log_calls) commits g.durable [] new new_log
  so-is commits old new old_log new_log g =
      subst (λ (l : List LogRecord). IsTable table cut file start g.synced (pages_in g.steps ++ calls) (log_in g.steps ++ log_calls) commits g.durable l new new_log) g.is_so.1
      (subst (λ (cs : List (List LogRecord)). IsTable table cut file start g.synced (pages_in g.steps ++ calls) (log_in g.steps ++ log_calls) cs g.durable g.pending new new_log) g.is_so.0 g.is)

-- ---- refusals

pub step-refused : (A : Type 0) (old new : CoreView) (client : ℕ) (call : Call) (why : Refusal) → StepOutcome {A = A} old client call (Err why) new → new ≡ old
step-refused A old new client call refusal.TrailFull h = h.1
step-refused A old new client call _ h = absurd h

-- a mark that was refused found no room
pub mark-refused : {S P : Type 0} (syncs : P → StoreSync S) (old new : OwnedView P) (old_log new_log : LogFile S) (lsn : ℕ) (why : Refusal) → StepOutcome {A = Unit {0}} old.core 0 (Mark lsn) (Err why) new.core → DurableFault syncs old old_log new_log (Pages why)
mark-refused syncs old new old_log new_log lsn refusal.TrailFull h = no_room_left h.0
mark-refused syncs old new old_log new_log lsn _ h = absurd h

abbrev AreSame : Result (Unit {0}) LogFault → Result (Unit {0}) LogFault → Type 0
AreSame r s = r ≡ s

-- a sync that was refused failed
pub sync-refused : {S P : Type 0} (syncs : P → StoreSync S) (pool : OwnedView P) (old new : LogFile S) (fault : LogFault) → AreSame (Err fault) (Err FileFailed) → syncs pool.port old.store false new.store → new.is_ended ≡ true → DurableFault syncs pool old new (Log fault)
sync-refused syncs pool old new fault e gave ended = (let same : fault ≡ FileFailed = cc in subst (λ (f : LogFault). DurableFault syncs pool old new (Log f)) (sym same) (sync_failed_there gave ended))

pub tick-refused : (A : Type 0) (old new : CoreView) (why : Refusal) → TickOutcome {A = A} old 0 1 (Err why) new → new ≡ old
tick-refused A old new refusal.TrailFull h = h.1
tick-refused A old new refusal.ClockFull h = h.2
tick-refused A old new _ h = absurd h

pub ok-not : {T E : Type 0} (r : Result T E) (Q : Type 0) → IsErr r → OnOk r Q
ok-not (Ok x) Q h = absurd (cc)
ok-not (Err e) Q h = tt

-- ---- a fix adds quiet entries

pub record AddsQuiet (old new : CoreView) : Type 0 where
  pub piece : Trail
  pub quiet : Quiet piece
  pub past : new.past ≡ piece ++ old.past

added-none : (old new : CoreView) → new ≡ old → AddsQuiet old new
added-none old new e = record { piece = []; quiet = tt; past = ap (λ (x : CoreView). x.past) e }

drives-quiet : (mid new : CoreView) (page : ℕ) (result : Result Pass Refusal) → DrivesFix mid 0 page result new → AddsQuiet mid new
drives-quiet mid new page (Ok pass) h = record { piece = h.2.piece; quiet = fix-quiet 0 page h.2.piece accepted h.2.of_row; past = ap (λ (x : CoreView). x.past) h.2.is }
drives-quiet mid new page (Err why) h = record { piece = h.piece; quiet = fix-quiet 0 page h.piece (refused (number_of why)) h.of_row; past = ap (λ (x : CoreView). x.past) h.is }

quiet-append : (a b : Trail) → Quiet a → Quiet b → Quiet (a ++ b)
quiet-append [] b p q = q
quiet-append (e ∷ a) b p q = (p.0, p.1, p.2, quiet-append a b p.3 q)

ticked-quiet : (ticks : Bool) (old mid : CoreView) → IsTicked ticks old mid → AddsQuiet old mid
ticked-quiet true old mid h = record { piece = record { client = 0; call = Tick 1; reply = Done } ∷ []; quiet = (refl, refl, refl, tt); past = ap (λ (x : CoreView). x.past) h.2.is }
ticked-quiet false old mid h = added-none old mid h

quiet-then : (old mid new : CoreView) → AddsQuiet old mid → AddsQuiet mid new → AddsQuiet old new
quiet-then old mid new a b = record {
  piece = b.piece ++ a.piece;
  quiet = quiet-append b.piece a.piece b.quiet a.quiet;
  past = b.past ∙ ap (λ (t : Trail). b.piece ++ t) a.past ∙ sym (append_assoc b.piece a.piece old.past);
}

unticked : (A : Type 0) (ticks : Bool) (old new : CoreView) (result : Result A Refusal) → IsUnticked {A = A} ticks old result new → AddsQuiet old new
unticked A ticks old new (Ok x) h = absurd h
unticked A ticks old new (Err why) h = added-none old new (tick-refused A old new why h.1)

pub owner-quiet : (ticks : Bool) (old new : CoreView) (page : ℕ) (result : Result Pass Refusal) → OwnerFixes ticks old page result new → AddsQuiet old new
owner-quiet ticks old new page result (inl h) = unticked Pass ticks old new result h
owner-quiet ticks old new page result (inr h) = quiet-then old h.mid new (ticked-quiet ticks old h.mid h.ticked) (drives-quiet h.mid new page result h.fixed)

pub page-quiet : {P : Type 0} (old new : OwnedView P) (page : ℕ) (result : Result Pass Refusal) → ForPage old.core.parameters page old result new (OwnerFixes old.is_ticking old.core page result new.core) → AddsQuiet old.core new.core
page-quiet {P = P} old new page result h = elim (cases_lt page old.core.parameters.pages) [
  | inl lt ↦ owner-quiet old.is_ticking old.core new.core page result (h.0 lt)
  | inr le ↦ added-none old.core new.core (ap (λ (x : OwnedView P). x.core) (h.1 le).1)
]

module _ {S P : Type 0} (reads writes : P → Transfer S) (syncs : P → StoreSync S) (page_reads : Reads P) (page_writes : Writes P) (page_syncs : Syncs P) (table : List ℕ) (cut : Cut) (file : List ℕ) (start : ℕ)
    (synced : Trail) (calls : List DeviceCall) (log_calls : List FileCall) (commits : List (List LogRecord)) (records : ℕ) (pending : List LogRecord) (old : OwnedView P) (old_log : LogFile S)
    (is : IsTable table cut file start synced calls log_calls commits records pending old old_log) where
  -- a page was fixed, or not
  pub pool-fixes : (new : OwnedView P) (so : List (List LogRecord) → ℕ → List LogRecord → Type 0) → AddsQuiet old.core new.core → DoesWork page_reads page_writes old.core old.port new.core new.port → Legal new.core.parameters new.core.past → so commits records pending
      → TableGoes reads writes syncs page_reads page_writes page_syncs old new old_log old_log table cut file start calls log_calls commits records so
  pool-fixes new so adds work legal p =
      let worked = works page_reads page_writes page_syncs cut.past cut.calls old.core.past synced work.piece calls old.port new.port is.ran.pool work.through in
      let past : new.core.past ≡ work.piece ++ old.core.past = ap (λ (x : CoreView). x.past) work.is in
      pool-goes reads writes syncs page_reads page_writes page_syncs table cut file start synced calls log_calls commits records pending old old_log is new worked.0 pending so (ap (λ (x : CoreView). x.parameters) work.is) legal
      (subst (λ (t : Trail). PoolFrom cut.past cut.calls t (worked.0 ++ calls) synced) (sym past) worked.2) (λ yes. none-added worked.0 calls worked.3 (is.ran.unfailed yes)) worked.1
      (is.ran.written ∙ ap (λ (rs : List LogRecord). pending ++ rs) (sym (ap writes_of adds.past ∙ quiet-writes adds.piece old.core.past adds.quiet)))
      (subst (λ (n : ℕ). n < start + records) (sym (ap durable adds.past ∙ quiet-marks adds.piece old.core.past adds.quiet)) is.ran.mark)
      (λ q. subst (λ (t : Trail). some (discards q) t ≡ false) (sym adds.past) (quiet-keeps adds.piece old.core.past q adds.quiet (is.ran.kept q))) p

-- the pass of a page that was fixed is of it
drives-page : (mid new : CoreView) (page : ℕ) (pass : Pass) → DrivesFix mid 0 page (Ok pass) new → pass.page ≡ page
drives-page mid new page pass h = h.1

pub page-known : {P : Type 0} (old new : OwnedView P) (page : ℕ) (pass : Pass) → ForPage old.core.parameters page old (Ok pass) new (OwnerFixes old.is_ticking old.core page (Ok pass) new.core) → pass.page ≡ page
page-known {P = P} old new page pass h = elim (cases_lt page old.core.parameters.pages) [
  | inl lt ↦ go (h.0 lt)
  | inr le ↦ (let e = (h.1 le).0 in absurd (cc))
]
  where
    go : OwnerFixes old.is_ticking old.core page (Ok pass) new.core → pass.page ≡ page
    go (inl no_pass) = absurd no_pass
    go (inr h) = drives-page h.mid new.core page pass h.fixed

pub part-written : {A P : Type 0} (old new : OwnedView P) (offset len : ℕ) (x : A) (Q : Type 0) → ForPart old.core.parameters offset len old (Ok x) new Q → Q
part-written {A = A} {P = P} old new offset len x Q h = elim (cases_lt old.core.parameters.size (offset + len)) [
  | inl gt ↦ (let e = (h.1 gt).0 in absurd (cc))
  | inr le ↦ h.0 le
]

pub write-refused : (A : Type 0) (old new : CoreView) (pass : Pass) (offset : ℕ) (bytes : List ℕ) (lsn : ℕ) (why : Refusal) → WriteOutcome {A = A} old pass offset bytes lsn (Err why) new → new ≡ old
write-refused A old new pass offset bytes lsn refusal.UnknownPass h = h.2
write-refused A old new pass offset bytes lsn refusal.TrailFull h = h.1
write-refused A old new pass offset bytes lsn refusal.OutOfMemory h = h.2
write-refused A old new pass offset bytes lsn _ h = absurd h

pub part-refused : {P : Type 0} (old new : OwnedView P) (pass : Pass) (offset : ℕ) (bytes : List ℕ) (lsn : ℕ) (why : Refusal)
    → ForPart {A = Unit {0}} old.core.parameters offset (length bytes) old (Err why) new (WriteOutcome {A = Unit {0}} old.core pass offset bytes lsn (Err why) new.core) → new.core ≡ old.core
part-refused {P = P} old new pass offset bytes lsn why h = elim (cases_lt old.core.parameters.size (offset + length bytes)) [
  | inl gt ↦ ap (λ (x : OwnedView P). x.core) (h.1 gt).1
  | inr le ↦ write-refused (Unit {0}) old.core new.core pass offset bytes lsn why (h.0 le)
]

module _ {S P : Type 0} (reads writes : P → Transfer S) (syncs : P → StoreSync S) (page_reads : Reads P) (page_writes : Writes P) (page_syncs : Syncs P) (table : List ℕ) (cut : Cut) (file : List ℕ) (start : ℕ)
    (synced : Trail) (calls : List DeviceCall) (log_calls : List FileCall) (commits : List (List LogRecord)) (records : ℕ) (pending : List LogRecord) (old : OwnedView P) (old_log : LogFile S)
    (is : IsTable table cut file start synced calls log_calls commits records pending old old_log) where
  -- a change was written that was pending
  pub pool-writes : (new : OwnedView P) (so : List (List LogRecord) → ℕ → List LogRecord → Type 0) (pass : Pass) (r : LogRecord) (older : List LogRecord) → pending ≡ older ++ r ∷ [] → pass.page ≡ r.page
      → Adds old.core pass.client (Write pass.serial pass.page r.offset r.bytes r.lsn) Done new.core → new.port ≡ old.port → so commits records older
      → TableGoes reads writes syncs page_reads page_writes page_syncs old new old_log old_log table cut file start calls log_calls commits records so
  pool-writes new so pass r older told page adds port p =
      let e : Entry = record { client = pass.client; call = Write pass.serial pass.page r.offset r.bytes r.lsn; reply = Done } in
      let past : new.core.past ≡ e ∷ old.core.past = ap (λ (x : CoreView). x.past) adds.is in
      let same : record_of e.call ≡ r = ap (λ (n : ℕ). record { page = n; offset = r.offset; bytes = r.bytes; lsn = r.lsn }) page in
      let moved : reverse (changes_of (cut.commits ++ commits)) ≡ older ++ r ∷ writes_of old.core.past =
      is.ran.written ∙ ap (λ (xs : List LogRecord). xs ++ writes_of old.core.past) told ∙ append_assoc older (r ∷ []) (writes_of old.core.past) in
      pool-goes reads writes syncs page_reads page_writes page_syncs table cut file start synced calls log_calls commits records pending old old_log is new [] older so (ap (λ (x : CoreView). x.parameters) adds.is) adds.legal
      (subst (λ (t : Trail). PoolFrom cut.past cut.calls t calls synced) (sym past) (entered e refl is.ran.pool)) is.ran.unfailed port
      (moved ∙ ap (λ (x : LogRecord). older ++ x ∷ writes_of old.core.past) (sym same) ∙ ap (λ (t : Trail). older ++ writes_of t) (sym past))
      (subst (λ (t : Trail). durable t < start + records) (sym past) is.ran.mark)
      (λ q. subst (λ (t : Trail). some (discards q) t ≡ false) (sym past) (ap (λ (b : Bool). b || some (discards q) old.core.past) (keeps e q refl) ∙ is.ran.kept q)) p

  -- a pass went back, or was not known
  pub pool-unfixes : (new : OwnedView P) (so : List (List LogRecord) → ℕ → List LogRecord → Type 0) (pass : Pass) (result : Result (Unit {0}) Pass) → UnfixOutcome old.core pass result new.core → new.port ≡ old.port → so commits records pending
      → TableGoes reads writes syncs page_reads page_writes page_syncs old new old_log old_log table cut file start calls log_calls commits records so
  pool-unfixes new so pass (Err same) h port p = pool-same reads writes syncs page_reads page_writes page_syncs table cut file start synced calls log_calls commits records pending old old_log is new so h.2 port p
  pool-unfixes new so pass (Ok done) h port p =
      let e : Entry = record { client = pass.client; call = Unfix pass.serial pass.page; reply = Done } in
      let past : new.core.past ≡ e ∷ old.core.past = ap (λ (x : CoreView). x.past) h.1.is in
      pool-goes reads writes syncs page_reads page_writes page_syncs table cut file start synced calls log_calls commits records pending old old_log is new [] pending so (ap (λ (x : CoreView). x.parameters) h.1.is) h.1.legal
      (subst (λ (t : Trail). PoolFrom cut.past cut.calls t calls synced) (sym past) (entered e refl is.ran.pool)) is.ran.unfailed port
      (is.ran.written ∙ ap (λ (t : Trail). pending ++ writes_of t) (sym past))
      (subst (λ (t : Trail). durable t < start + records) (sym past) is.ran.mark)
      (λ q. subst (λ (t : Trail). some (discards q) t ≡ false) (sym past) (ap (λ (b : Bool). b || some (discards q) old.core.past) (keeps e q refl) ∙ is.ran.kept q)) p

  -- the record of a commit was appended, or not
  module _ (at : P) (there_at : at ≡ old.port) where
    pub log-appends : (new_log : LogFile S) (commit : List LogRecord) (so : List (List LogRecord) → ℕ → List LogRecord → Type 0) → (not new_log.is_ended ≡ true → not old_log.is_ended ≡ true) → pending ≡ [] → AreChanges (start + 1 + length commits) commit → FirstsAreFull old.core.parameters.size (reverse commit ++ reverse (changes_of commits))
        → GoesOn (reads at) (writes at) (syncs at) old_log new_log file start log_calls (λ after n. (n ≡ records) × (after ≡ log_of table commits ++ payload_of commit ∷ []))
        → so (commits ++ commit ∷ []) records (reverse commit)
        → TableGoes reads writes syncs page_reads page_writes page_syncs old old old_log new_log table cut file start calls log_calls commits records so
    log-appends new_log commit so still none are firsts g p =
        let pushed : log_of table (commits ++ commit ∷ []) ≡ log_of table commits ++ payload_of commit ∷ [] = ap (λ (t : List (List ℕ)). table ∷ t) (map_push payload_of commits commit) in
        let log-is : g.log ≡ log_of table (commits ++ commit ∷ []) = g.is_so.1 ∙ sym pushed in
        let there : IsLogFile file start (g.more ++ log_calls) (log_of table (commits ++ commit ∷ [])) records new_log =
        subst (λ (n : ℕ). IsLogFile file start (g.more ++ log_calls) (log_of table (commits ++ commit ∷ [])) n new_log) g.is_so.0 (subst (λ (xs : List (List ℕ)). IsLogFile file start (g.more ++ log_calls) xs g.durable new_log) log-is g.is) in
        log-goes reads writes syncs page_reads page_writes page_syncs table cut file start synced calls log_calls commits records pending old old_log is at there_at new_log (commits ++ commit ∷ []) (commit ∷ []) records (reverse commit) (λ after n. (n ≡ records) × (after ≡ log_of table commits ++ payload_of commit ∷ [])) so refl (omega arith) g (record {
          ran = record {
            log = there.life;
            are = commits-push (start + 1) commits commit is.ran.are are;
            legal = is.ran.legal;
            cut_is = is.ran.cut_is;
            pool = is.ran.pool;
            unfailed = λ yes. is.ran.unfailed (still yes);
            written = ap (λ (cs : List (List LogRecord)). reverse (changes_of cs)) (sym (append_assoc cut.commits commits (commit ∷ [])))
                ∙ ap reverse (changes_of-push (cut.commits ++ commits) commit) ∙ reverse-append (changes_of (cut.commits ++ commits)) commit
                ∙ ap (λ (t : List LogRecord). reverse commit ++ t) (is.ran.written ∙ ap (λ (t : List LogRecord). t ++ writes_of old.core.past) none);
            mark = is.ran.mark;
            named = is.ran.named;
            kept = is.ran.kept;
            full = subst (FirstsAreFull old.core.parameters.size) (sym (ap reverse (changes_of-push commits commit) ∙ reverse-append (changes_of commits) commit)) firsts;
          };
          file_is = there;
        }) p

    -- the log refused a record: it has it, or has not
    pub log-refuses : (new_log : LogFile S) (commit : List LogRecord) (A : List (List ℕ) → ℕ → Type 0) (so : List (List LogRecord) → ℕ → List LogRecord → Type 0) → (not new_log.is_ended ≡ true → not old_log.is_ended ≡ true) → pending ≡ [] → AreChanges (start + 1 + length commits) commit → FirstsAreFull old.core.parameters.size (reverse commit ++ reverse (changes_of commits))
        → GoesOn (reads at) (writes at) (syncs at) old_log new_log file start log_calls (λ after n. (n ≡ records) × A after n × ((after ≡ log_of table commits) ⊎ (after ≡ log_of table commits ++ payload_of commit ∷ [])))
        → so commits records [] → so (commits ++ commit ∷ []) records (reverse commit)
        → TableGoes reads writes syncs page_reads page_writes page_syncs old old old_log new_log table cut file start calls log_calls commits records so
    log-refuses new_log commit A so still none are firsts g p q = go g.is_so.2
      where
        go : (g.log ≡ log_of table commits) ⊎ (g.log ≡ log_of table commits ++ payload_of commit ∷ []) → TableGoes reads writes syncs page_reads page_writes page_syncs old old old_log new_log table cut file start calls log_calls commits records so
        go (inr e) = log-appends new_log commit so still none are firsts (record { more = g.more; log = g.log; durable = g.durable; one = g.one; did = g.did; is = g.is; is_so = (g.is_so.0, e) }) q
        go (inl e) =
            let there : IsLogFile file start (g.more ++ log_calls) (log_of table commits) records new_log =
            subst (λ (n : ℕ). IsLogFile file start (g.more ++ log_calls) (log_of table commits) n new_log) g.is_so.0 (subst (λ (xs : List (List ℕ)). IsLogFile file start (g.more ++ log_calls) xs g.durable new_log) e g.is) in
            log-goes reads writes syncs page_reads page_writes page_syncs table cut file start synced calls log_calls commits records pending old old_log is at there_at new_log commits [] records [] (λ after n. (n ≡ records) × A after n × ((after ≡ log_of table commits) ⊎ (after ≡ log_of table commits ++ payload_of commit ∷ []))) so (sym (append-nil commits)) (omega arith) g (record {
              ran = record { log = there.life; are = is.ran.are; legal = is.ran.legal; cut_is = is.ran.cut_is; pool = is.ran.pool; unfailed = λ yes. is.ran.unfailed (still yes); written = is.ran.written ∙ ap (λ (t : List LogRecord). t ++ writes_of old.core.past) none; mark = is.ran.mark; named = is.ran.named; kept = is.ran.kept; full = is.ran.full };
              file_is = there;
            }) p

-- ---- the changes of a commit, one after the other

pub payload-next : (lsn : ℕ) (xs : List LogRecord) (i : ℕ) (r : LogRecord) (old new : List ℕ) → i < length xs → r ≡ get_or xs i r → (old ≡ payload_of (map (under lsn) (take i xs))) × AreChanges lsn (map (under lsn) (take i xs)) → new ≡ old ++ change_bytes r
    → IsChange lsn (under lsn r) → (new ≡ payload_of (map (under lsn) (take (i + 1) xs))) × AreChanges lsn (map (under lsn) (take (i + 1) xs))
payload-next lsn xs i r old new below is so told fits =
    let front : map (under lsn) (take (i + 1) xs) ≡ map (under lsn) (take i xs) ++ under lsn r ∷ [] =
    ap (map (under lsn)) (take_more xs i r below ∙ ap (λ (x : LogRecord). take i xs ++ x ∷ []) (sym is)) ∙ map_push (under lsn) (take i xs) r in (
      told ∙ ap (λ (t : List ℕ). t ++ change_bytes r) so.0 ∙ sym (ap payload_of front ∙ payload-push (map (under lsn) (take i xs)) (under lsn r)),
      subst (AreChanges lsn) (sym front) (changes-push lsn (map (under lsn) (take i xs)) (under lsn r) so.1 fits),
    )

pub pending-next : (lsn : ℕ) (xs : List LogRecord) (i : ℕ) (r : LogRecord) → i < length xs → r ≡ get_or xs i r → reverse (map (under lsn) (drop i xs)) ≡ reverse (map (under lsn) (drop (i + 1) xs)) ++ under lsn r ∷ []
pending-next lsn xs i r below is =
    ap (λ (t : List LogRecord). reverse (map (under lsn) t)) (drop_more xs i r below ∙ ap (λ (x : LogRecord). x ∷ drop (i + 1) xs) (sym is)) ∙ reverse-append (under lsn r ∷ []) (map (under lsn) (drop (i + 1) xs))

-- ---- a table that begins

pub table-begins : {S P : Type 0} (table file : List ℕ) (start : ℕ) (log_calls : List FileCall) (pool : OwnedView P) (log : LogFile S) → pool.core.past ≡ [] → IsLogFile file start log_calls (table ∷ []) 1 log
    → IsTable table no_cut file start [] [] log_calls [] 1 [] pool log
table-begins table file start log_calls pool log none is = record {
  ran = record {
    log = is.life;
    are = tt;
    legal = subst (λ (t : Trail). Legal pool.core.parameters t) (sym none) tt;
    cut_is = record { life = opened; saved = λ p. refl; written = refl; below = tt };
    pool = subst (λ (t : Trail). PoolFrom [] [] t [] []) (sym none) opened;
    unfailed = λ yes. refl;
    written = ap writes_of (sym none);
    mark = subst (λ (t : Trail). durable t < start + 1) (sym none) (omega arith);
    named = omega arith;
    kept = λ p. ap (some (discards p)) none;
    full = tt;
  };
  file_is = is;
}
