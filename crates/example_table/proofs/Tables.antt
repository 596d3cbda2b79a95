-- Why a crash of a table is mended.
use Rattle.std.proofs.Common.{◌≡◌, inl, inr, refl, sym, ap, subst, ◌∙◌, ℕ, ◌+◌, ◌<◌, ◌≤◌, nat_le, Bool, true, false, cond, if◌then◌else◌, ◌&&◌, ◌==◌, List, [], ◌∷◌, ◌++◌, length, reverse, filter, filter_map, Option, Some, None, append_assoc, append-nil, arith}
use Rattle.std.specs.List.{cons_option}
use Rattle.std.specs.Prelude.{◌⊎◌}
use Rattle.std.proofs.lemmas.Bool.{and_from, and_parts, eq-eqb, leb-true, lt-leb, le-leb, or_parts, true≢false}
use Rattle.std.proofs.lemmas.Option.{none-some}
use Rattle.std.proofs.lemmas.List.{append_cancel_right, reverse-append}
use Rattle.std.proofs.lemmas.List.Elements.{filter-append}
use Rattle.bp_trail.specs.declared.entries.Call.{Call}
use Rattle.bp_trail.specs.declared.entries.Call.TheVariants as call
use Rattle.bp_trail.specs.declared.records.LogRecord.{LogRecord}
use Rattle.bp_trail.specs.Parameters.{Parameters}
use Rattle.bp_trail.specs.Lists.{every, greatest, some}
use Rattle.bp_trail.specs.Trail.{Trail}
use Rattle.bp_trail.specs.Clock.{durable}
use Rattle.bp_trail.specs.Legal.{Legal}
use Rattle.bp_trail.specs.Event.{is_write, page_of, lsn_of, lsn_written, marked, discards, writes}
use Rattle.bp_trail.specs.Saved.{unsaved}
use Rattle.bp_trail.specs.Recovery.{AllFit, HasFullImage, IsRedoPoint, MayHave, Stopped, LogHas, WritesFrom, put, redo, wanted, record_of, record_written, records, records_from, within}
use Rattle.bp_trail.specs.Recovery.GaveBack.{from_opening}
use Rattle.bp_trail.proofs.Bytes.{Ordered, filter-fit, from_lsn, length-put, put-append}
use Rattle.bp_trail.proofs.Recovered.{filter-every, placed, refilter}
use Rattle.bp_trail.proofs.Redo.{none-unsaved}
use Rattle.bp_trail.proofs.Stamped.{every-append, every-filtered}
use Rattle.bp_trail.proofs.Redoing.{recovers-ordered}
use Rattle.bp_trail.proofs.Crashes.{checkpoint, image-length, older-sync, redo-whole}
use Rattle.example_log.specs.Commits.{HasCommits, Kept, AreChanges, AreCommits, changes_of, log_of}
use Rattle.example_log.specs.Disk.{DeviceCall, Honest, MayLeave, sync_failed}
use Rattle.example_log.specs.Files.{FileCall, FileLeaves, synced as synced_bytes, written as written_bytes}
use Rattle.example_log.specs.Lives.{Reopened, TellsTrue}
use Rattle.example_log.specs.Promise.{IsMended, MayBeRedone}
use Rattle.example_table.specs.PoolLives.{PoolLife}
use Rattle.example_table.specs.Tables.{AreBelow, Cut, writes_of, TableRan}
use Rattle.example_log.proofs.CommitsRead.{whole-commits}
use Rattle.example_table.proofs.PoolLives.{IsSound, leave, honest, whole-leave, earlier, legal-then, none-front, since-begun, then-life}

-- ---- the writes of a page are among all

pub told : (x : Call) → is_write x ≡ true → ((record_of x).page ≡ page_of x) × ((record_of x).lsn ≡ lsn_of x)
told (call.Write n p offset bytes lsn) h = (refl, refl)
told _ h = absurd (cc)

abbrev pub within_of : ℕ → ℕ → LogRecord → Bool
within_of end p r = (r.page == p) && nat_le r.lsn end

and-false : (b : Bool) → (b && false) ≡ false
and-false true = refl
and-false false = refl

records-within : (end p : ℕ) (past : Trail) → records p (within end past) ≡ filter (within_of end p) (writes_of past)
records-within end p [] = refl
records-within end p (e ∷ past) = go (nat_le (lsn_of e.call) end) refl (records-within end p past)
  where
    go : (b : Bool) → nat_le (lsn_of e.call) end ≡ b → records p (within end past) ≡ filter (within_of end p) (writes_of past)
        → filter_map (record_written p) (cond b (e ∷ within end past) (within end past)) ≡ filter (within_of end p) (cond (is_write e.call) (record_of e.call ∷ writes_of past) (writes_of past))
    go true le ih = inner (is_write e.call) (page_of e.call == p) refl refl
      where
        inner : (w v : Bool) → is_write e.call ≡ w → (page_of e.call == p) ≡ v
            → cons_option (cond (w && v) (Some (record_of e.call)) None) (records p (within end past)) ≡ filter (within_of end p) (cond w (record_of e.call ∷ writes_of past) (writes_of past))
        inner false v w-is v-is = ih
        inner true v w-is v-is =
            let t = told e.call w-is in
            let is : within_of end p (record_of e.call) ≡ v = ap (λ (n : ℕ). (n == p) && nat_le (record_of e.call).lsn end) t.0 ∙ ap (λ (n : ℕ). (page_of e.call == p) && nat_le n end) t.1 ∙ ap (λ (b : Bool). (page_of e.call == p) && b) le ∙ both (page_of e.call == p) ∙ v-is in
            last v is
          where
            both : (b : Bool) → (b && true) ≡ b
            both true = refl
            both false = refl

            last : (v : Bool) → within_of end p (record_of e.call) ≡ v
                → cons_option (cond v (Some (record_of e.call)) None) (records p (within end past)) ≡ cond (within_of end p (record_of e.call)) (record_of e.call ∷ filter (within_of end p) (writes_of past)) (filter (within_of end p) (writes_of past))
            last true is = ap (λ (t : List LogRecord). record_of e.call ∷ t) ih ∙ sym (ap (λ (b : Bool). cond b (record_of e.call ∷ filter (within_of end p) (writes_of past)) (filter (within_of end p) (writes_of past))) is)
            last false is = ih ∙ sym (ap (λ (b : Bool). cond b (record_of e.call ∷ filter (within_of end p) (writes_of past)) (filter (within_of end p) (writes_of past))) is)
    go false gt ih = inner (is_write e.call) refl
      where
        inner : (w : Bool) → is_write e.call ≡ w → records p (within end past) ≡ filter (within_of end p) (cond w (record_of e.call ∷ writes_of past) (writes_of past))
        inner false w-is = ih
        inner true w-is =
            let t = told e.call w-is in
            let is : within_of end p (record_of e.call) ≡ false = ap (λ (n : ℕ). ((record_of e.call).page == p) && nat_le n end) t.1 ∙ ap (λ (b : Bool). ((record_of e.call).page == p) && b) gt ∙ and-false ((record_of e.call).page == p) in
            ih ∙ sym (ap (λ (b : Bool). cond b (record_of e.call ∷ filter (within_of end p) (writes_of past)) (filter (within_of end p) (writes_of past))) is)

-- ---- the commits up to one of them

abbrev pub up_to : ℕ → LogRecord → Bool
up_to end r = nat_le r.lsn end

pub changes-append : (xs ys : List (List LogRecord)) → changes_of (xs ++ ys) ≡ changes_of xs ++ changes_of ys
changes-append [] ys = refl
changes-append (x ∷ xs) ys = ap (λ (t : List LogRecord). x ++ t) (changes-append xs ys) ∙ sym (append_assoc x (changes_of xs) (changes_of ys))

pub filter-reverse : (f : LogRecord → Bool) (xs : List LogRecord) → filter f (reverse xs) ≡ reverse (filter f xs)
filter-reverse f [] = refl
filter-reverse f (x ∷ xs) =
    ap (filter f) (reverse-append (x ∷ []) xs) ∙ filter-append f (reverse xs) (x ∷ []) ∙ ap (λ (t : List LogRecord). t ++ filter f (x ∷ [])) (filter-reverse f xs) ∙ go (f x)
  where
    go : (b : Bool) → reverse (filter f xs) ++ cond b (x ∷ []) [] ≡ reverse (cond b (x ∷ filter f xs) (filter f xs))
    go true = sym (reverse-append (x ∷ []) (filter f xs))
    go false = append-nil (reverse (filter f xs))

all-in : (end lsn : ℕ) (commit : List LogRecord) → AreChanges lsn commit → lsn ≤ end → filter (up_to end) commit ≡ commit
all-in end lsn [] f le = refl
all-in end lsn (r ∷ rs) f le =
    let is : up_to end r ≡ true = ap (λ (n : ℕ). nat_le n end) f.0.under ∙ le-leb lsn end le in
    ap (λ (b : Bool). cond b (r ∷ filter (up_to end) rs) (filter (up_to end) rs)) is ∙ ap (λ (t : List LogRecord). r ∷ t) (all-in end lsn rs f.1 le)

none-in : (end lsn : ℕ) (commit : List LogRecord) → AreChanges lsn commit → end < lsn → filter (up_to end) commit ≡ []
none-in end lsn [] f gt = refl
none-in end lsn (r ∷ rs) f gt =
    let is : up_to end r ≡ false = ap (λ (n : ℕ). nat_le n end) f.0.under ∙ lt-leb lsn end gt in
    ap (λ (b : Bool). cond b (r ∷ filter (up_to end) rs) (filter (up_to end) rs)) is ∙ none-in end lsn rs f.1 gt

all-commits-in : (end lsn : ℕ) (cs : List (List LogRecord)) → AreCommits lsn cs → lsn + length cs ≤ end + 1 → filter (up_to end) (changes_of cs) ≡ changes_of cs
all-commits-in end lsn [] f le = refl
all-commits-in end lsn (x ∷ cs) f le =
    filter-append (up_to end) x (changes_of cs) ∙ ap (λ (t : List LogRecord). t ++ filter (up_to end) (changes_of cs)) (all-in end lsn x f.0 (omega arith))
    ∙ ap (λ (t : List LogRecord). x ++ t) (all-commits-in end (lsn + 1) cs f.1 (omega arith))

none-commits-in : (end lsn : ℕ) (cs : List (List LogRecord)) → AreCommits lsn cs → end < lsn → filter (up_to end) (changes_of cs) ≡ []
none-commits-in end lsn [] f gt = refl
none-commits-in end lsn (x ∷ cs) f gt =
    filter-append (up_to end) x (changes_of cs) ∙ ap (λ (t : List LogRecord). t ++ filter (up_to end) (changes_of cs)) (none-in end lsn x f.0 gt) ∙ none-commits-in end (lsn + 1) cs f.1 (omega arith)

commits-parts : (lsn : ℕ) (xs ys : List (List LogRecord)) → AreCommits lsn (xs ++ ys) → AreCommits lsn xs × AreCommits (lsn + length xs) ys
commits-parts lsn [] ys f = let e : lsn ≡ lsn + 0 = omega arith in (tt, subst (λ (n : ℕ). AreCommits n ys) e f)
commits-parts lsn (x ∷ xs) ys f =
    let h = commits-parts (lsn + 1) xs ys f.1 in
    let e : (lsn + 1) + length xs ≡ lsn + length (x ∷ xs) = omega arith in
    ((f.0, h.0), subst (λ (n : ℕ). AreCommits n ys) e h.1)

pub kept-of : (lsn end : ℕ) (kept lost : List (List LogRecord)) → AreCommits lsn (kept ++ lost) → lsn + length kept ≡ end + 1 → filter (up_to end) (reverse (changes_of (kept ++ lost))) ≡ reverse (changes_of kept)
kept-of lsn end kept lost f e =
    let parts = commits-parts lsn kept lost f in
    filter-reverse (up_to end) (changes_of (kept ++ lost))
    ∙ ap reverse (ap (filter (up_to end)) (changes-append kept lost) ∙ filter-append (up_to end) (changes_of kept) (changes_of lost)
    ∙ ap (λ (t : List LogRecord). t ++ filter (up_to end) (changes_of lost)) (all-commits-in end lsn kept parts.0 (omega arith))
    ∙ ap (λ (t : List LogRecord). changes_of kept ++ t) (none-commits-in end (lsn + length kept) lost parts.1 (omega arith)) ∙ append-nil (changes_of kept))

pub wanted-within : (end p : ℕ) (xs : List LogRecord) → filter (wanted 0 p) (filter (up_to end) xs) ≡ filter (within_of end p) xs
wanted-within end p [] = refl
wanted-within end p (r ∷ xs) = go (nat_le r.lsn end) (wanted-within end p xs)
  where
    go : (u : Bool) → filter (wanted 0 p) (filter (up_to end) xs) ≡ filter (within_of end p) xs
        → filter (wanted 0 p) (cond u (r ∷ filter (up_to end) xs) (filter (up_to end) xs)) ≡ cond ((r.page == p) && u) (r ∷ filter (within_of end p) xs) (filter (within_of end p) xs)
    go true ih =
        ap (λ (b : Bool). cond ((r.page == p) && b) (r ∷ filter (wanted 0 p) (filter (up_to end) xs)) (filter (wanted 0 p) (filter (up_to end) xs))) (le-leb 0 r.lsn (omega arith))
        ∙ ap (λ (t : List LogRecord). cond ((r.page == p) && true) (r ∷ t) t) ih
    go false ih = ih ∙ sym (ap (λ (b : Bool). cond b (r ∷ filter (within_of end p) xs) (filter (within_of end p) xs)) (and-false (r.page == p)))

pub writes-append : (since old : Trail) → writes_of (since ++ old) ≡ writes_of since ++ writes_of old
writes-append [] old = refl
writes-append (e ∷ since) old = go (is_write e.call) (writes-append since old)
  where
    go : (b : Bool) → writes_of (since ++ old) ≡ writes_of since ++ writes_of old
        → cond b (record_of e.call ∷ writes_of (since ++ old)) (writes_of (since ++ old)) ≡ cond b (record_of e.call ∷ writes_of since) (writes_of since) ++ writes_of old
    go true h = ap (λ (t : List LogRecord). record_of e.call ∷ t) h
    go false h = h

-- ---- records from an LSN on

-- each LSN is at least this one
abbrev all-from : ℕ → List LogRecord → Bool
all-from lsn rs = every (from_lsn lsn) rs

below-none : (lsn : ℕ) (rs : List LogRecord) → AreBelow lsn rs → filter (from_lsn lsn) rs ≡ []
below-none lsn [] f = refl
below-none lsn (r ∷ rs) f = let lt = f.0 in ap (λ (b : Bool). cond b (r ∷ filter (from_lsn lsn) rs) (filter (from_lsn lsn) rs)) (lt-leb lsn r.lsn lt) ∙ below-none lsn rs f.1

below-filter : (g : LogRecord → Bool) (lsn : ℕ) (rs : List LogRecord) → AreBelow lsn rs → AreBelow lsn (filter g rs)
below-filter g lsn [] f = tt
below-filter g lsn (r ∷ rs) f = go (g r) (below-filter g lsn rs f.1)
  where
    go : (b : Bool) → AreBelow lsn (filter g rs) → AreBelow lsn (cond b (r ∷ filter g rs) (filter g rs))
    go true h = (f.0, h)
    go false h = h

below-in : (end lsn : ℕ) (rs : List LogRecord) → AreBelow lsn rs → lsn ≤ end + 1 → filter (up_to end) rs ≡ rs
below-in end lsn [] f le = refl
below-in end lsn (r ∷ rs) f le =
    let lt = f.0 in
    let is : up_to end r ≡ true = le-leb r.lsn end (omega arith) in
    ap (λ (b : Bool). cond b (r ∷ filter (up_to end) rs) (filter (up_to end) rs)) is ∙ ap (λ (t : List LogRecord). r ∷ t) (below-in end lsn rs f.1 le)

ordered-cut : (lsn : ℕ) (newer older : List LogRecord) → all-from lsn newer ≡ true → AreBelow lsn older → Ordered lsn (newer ++ older)
ordered-cut lsn [] [] h f = tt
ordered-cut lsn [] (r ∷ older) h f = record { here = λ e. below-none lsn older f.1; before = ordered-cut lsn [] older refl f.1 }
ordered-cut lsn (r ∷ newer) older h f =
    let a = and_parts (from_lsn lsn r) (all-from lsn newer) h in
    record { here = λ e. absurd (true≢false (sym a.0 ∙ e)); before = ordered-cut lsn newer older a.1 f }

writes-from : (lsn p : ℕ) (xs : Trail) → all-from lsn (writes_of xs) ≡ true → WritesFrom lsn p xs
writes-from lsn p [] h = tt
writes-from lsn p (e ∷ xs) h = go (writes-from lsn p xs) (is_write e.call) refl h
  where
    go : (all-from lsn (writes_of xs) ≡ true → WritesFrom lsn p xs) → (b : Bool) → is_write e.call ≡ b → all-from lsn (cond b (record_of e.call ∷ writes_of xs) (writes_of xs)) ≡ true → WritesFrom lsn p (e ∷ xs)
    go older true w h =
        let a = and_parts (from_lsn lsn (record_of e.call)) (all-from lsn (writes_of xs)) h in
        let le = leb-true lsn (record_of e.call).lsn a.0 in
        record {
          here = λ n k. at (writes p e) n k le (told e.call w).1;
          before = older a.1;
        }
      where
        at : (v : Bool) (n : ℕ) → (if v then Some (lsn_of e.call) else None) ≡ Some n → lsn ≤ (record_of e.call).lsn → (record_of e.call).lsn ≡ lsn_of e.call → lsn ≤ n
        at true n k le same = let i : lsn_of e.call ≡ n = cc in omega arith
        at false n k le same = absurd (cc)
    go older false w h = record {
      here = λ n k. none n (ap (λ (b : Bool). if b && (page_of e.call == p) then Some (lsn_of e.call) else None) w) k;
      before = older h;
    }
      where
        none : (n : ℕ) → lsn_written p e ≡ None → lsn_written p e ≡ Some n → lsn ≤ n
        none n i k = absurd (none-some n (sym i ∙ k))

-- each write lies within its page
pub fit-writes : (c : Parameters) (past : Trail) → Legal c past → AllFit c.size (writes_of past)
fit-writes c [] l = tt
fit-writes c (e ∷ past) l = go (is_write e.call) refl (fit-writes c past l.before)
  where
    go : (b : Bool) → is_write e.call ≡ b → AllFit c.size (writes_of past) → AllFit c.size (cond b (record_of e.call ∷ writes_of past) (writes_of past))
    go true w older = ((placed c past e.client (page_of e.call) e.call l.before l.here.allowed (ap (λ (b : Bool). b && (page_of e.call == page_of e.call)) w ∙ eq-eqb (page_of e.call) (page_of e.call) refl)).inside, older)
    go false w older = older

-- ---- a pool since all was saved and synced

-- its log has what it wrote since then, up to an LSN, and some records that it has not written yet
pub record Since (c : Parameters) (tears : Bool) (first : ℕ → List ℕ) (base past synced : Trail) (calls : List DeviceCall) (start end : ℕ) (log : List LogRecord) : Type 0 where
  pub life : PoolLife past calls synced
  pub legal : Legal c past
  pub honestly : Honest tears first calls
  pub kept : (p : ℕ) → some (discards p) past ≡ false
  pub sized : (p : ℕ) → length (first p) ≡ c.size
  pub since : Trail
  pub parts : past ≡ since ++ base
  pub newer : Trail
  pub settled : synced ≡ newer ++ base
  pub saved : (p : ℕ) → unsaved base p ≡ false
  pub below : AreBelow start (writes_of base)
  pub pending : List LogRecord
  pub from : all-from start (pending ++ writes_of since) ≡ true
  pub told : log ≡ filter (up_to end) (pending ++ writes_of since)
  pub reaches : start ≤ end + 1
  pub mark : durable past ≤ end

module _ (c : Parameters) (tears : Bool) (first left : ℕ → List ℕ) (base past synced : Trail) (calls : List DeviceCall) (start end : ℕ) (log : List LogRecord) (s : Since c tears first base past synced calls start end log) where
  abbrev whole_log : List LogRecord
  whole_log = log ++ writes_of base

  whole-told : whole_log ≡ filter (up_to end) (s.pending ++ writes_of past)
  whole-told =
      ap (λ (t : List LogRecord). t ++ writes_of base) s.told ∙ ap (λ (t : List LogRecord). filter (up_to end) (s.pending ++ writes_of s.since) ++ t) (sym (below-in end start (writes_of base) s.below s.reaches))
      ∙ sym (filter-append (up_to end) (s.pending ++ writes_of s.since) (writes_of base))
      ∙ ap (filter (up_to end)) (append_assoc s.pending (writes_of s.since) (writes_of base) ∙ ap (λ (t : List LogRecord). s.pending ++ t) (sym (ap writes_of s.parts ∙ writes-append s.since base)))

  parts-from : (all-from start s.pending ≡ true) × (all-from start (writes_of s.since) ≡ true)
  parts-from = every-append (from_lsn start) s.pending (writes_of s.since) s.from

  log-from : all-from start log ≡ true
  log-from = ap (all-from start) s.told ∙ every-filtered (from_lsn start) (up_to end) (s.pending ++ writes_of s.since) s.from

  module _ (p : ℕ) where
    page-parts : records_from 0 whole_log p ≡ records_from 0 log p ++ records_from 0 (writes_of base) p
    page-parts = filter-append (wanted 0 p) log (writes_of base)

    has-log : LogHas whole_log 0 start end past p
    has-log = record {
      unwritten = filter (wanted 0 p) (filter (up_to end) s.pending);
      stands = ap (filter (wanted 0 p)) (whole-told ∙ filter-append (up_to end) s.pending (writes_of past))
          ∙ filter-append (wanted 0 p) (filter (up_to end) s.pending) (filter (up_to end) (writes_of past))
          ∙ ap (λ (t : List LogRecord). filter (wanted 0 p) (filter (up_to end) s.pending) ++ t) (wanted-within end p (writes_of past) ∙ sym (records-within end p past));
      unwritten_from = every-filtered (from_lsn start) (wanted 0 p) (filter (up_to end) s.pending) (every-filtered (from_lsn start) (up_to end) s.pending parts-from.0);
    }

    point : IsRedoPoint start base past p
    point = subst (λ (t : Trail). IsRedoPoint start base t p) (sym s.parts) (checkpoint base s.since None start p (none-unsaved base s.saved) (writes-from start p s.since parts-from.1))

    stopped : Stopped c first base past whole_log 0 start end p
    stopped = record {
      legal = s.legal;
      gave_back = from_opening (honest c tears first past synced calls s.life s.legal s.honestly p) (s.kept p);
      mark = s.mark;
      has = has-log;
      from_start = omega arith;
      point = point;
    }

    ordered : Ordered start (records_from 0 whole_log p)
    ordered = subst (Ordered start) (sym page-parts) (ordered-cut start (records_from 0 log p) (records_from 0 (writes_of base) p) (every-filtered (from_lsn start) (wanted 0 p) log log-from) (below-filter (wanted 0 p) start (writes_of base) s.below))

    -- of the whole log redo wants what stands in this one
    log-wanted : records_from start whole_log p ≡ records_from 0 log p
    log-wanted =
        refilter 0 start p (omega arith) whole_log ∙ ap (filter (from_lsn start)) page-parts
        ∙ filter-append (from_lsn start) (records_from 0 log p) (records_from 0 (writes_of base) p)
        ∙ ap (λ (t : List LogRecord). filter (from_lsn start) (records_from 0 log p) ++ t) (below-none start (records_from 0 (writes_of base) p) (below-filter (wanted 0 p) start (writes_of base) s.below))
        ∙ append-nil (filter (from_lsn start) (records_from 0 log p))
        ∙ filter-every (from_lsn start) (records_from 0 log p) (every-filtered (from_lsn start) (wanted 0 p) log log-from)

    older-have : (image : List ℕ) → MayHave first synced past p image → MayHave first base past p image
    older-have image may = older-sync first s.newer base past p image (subst (λ (t : Trail). MayHave first t past p image) s.settled may)

    by-image : (image : List ℕ) → MayHave first synced past p image → redo 0 log p image ≡ redo 0 whole_log p (first p)
    by-image image may =
        ap (λ (rs : List LogRecord). put rs image) (sym log-wanted)
        ∙ recovers-ordered c first base past whole_log 0 start end p image stopped ordered (older-have image may)

    -- the page as it was when the log was begun
    abbrev base-image : List ℕ
    base-image = redo 0 (writes_of base) p (first p)

    base-sized : length base-image ≡ c.size
    base-sized =
        let l = legal-then c s.since base (subst (Legal c) s.parts s.legal) in
        length-put c.size (records_from 0 (writes_of base) p) (first p) (filter-fit c.size (wanted 0 p) (writes_of base) (fit-writes c base l)) (s.sized p)

    from-base : redo 0 log p base-image ≡ redo 0 whole_log p (first p)
    from-base = sym (ap (λ (rs : List LogRecord). put rs (first p)) page-parts ∙ put-append (records_from 0 log p) (records_from 0 (writes_of base) p) (first p))

    by-sound : (tears ≡ true) × (length (left p) ≡ c.size) → MayLeave tears first calls p (left p) → IsSound tears c.size 0 log calls p → redo 0 log p (left p) ≡ redo 0 whole_log p (first p)
    by-sound torn leaves (inl safe) = let t = torn.0 in absurd (cc)
    by-sound torn leaves (inr (inl full)) = redo-whole log 0 p (left p) base-image (subst (λ n. HasFullImage n (records_from 0 log p)) (sym torn.1) full) (base-sized ∙ sym torn.1) ∙ from-base
    by-sound torn leaves (inr (inr (none, closed))) = elim (leave c false first past synced calls s.life s.legal p (left p) (whole-leave tears first p (left p) calls closed leaves)) [
      | inl may ↦ by-image (left p) may
      | inr never ↦ (let t = never.0 in absurd (cc))
    ]

    leads : MayLeave tears first calls p (left p) → IsSound tears c.size 0 log calls p → MayHave first synced past p (left p) ⊎ ((tears ≡ true) × (length (left p) ≡ c.size)) → redo 0 log p (left p) ≡ redo 0 whole_log p (first p)
    leads leaves sound (inl may) = by-image (left p) may
    leads leaves sound (inr torn) = by-sound torn leaves sound

    long : MayHave first synced past p (left p) ⊎ ((tears ≡ true) × (length (left p) ≡ c.size)) → length (left p) ≡ c.size
    long (inl may) = image-length c first synced end past p (left p) s.legal stopped.gave_back may ∙ s.sized p
    long (inr torn) = torn.1

    mends : IsSound tears c.size 0 log calls p → IsMended tears c.size 0 log p
    mends (inl safe) = inl safe
    mends (inr (inl full)) = inr (inl full)
    mends (inr (inr none)) = inr (inr none.0)

  -- whatever a crash leaves of the pages, the log makes of it what all that was written makes of the first images
  pub since-mended : ((p : ℕ) → MayLeave tears first calls p (left p)) → ((p : ℕ) → IsSound tears c.size 0 log calls p) → MayBeRedone tears c.size 0 log (λ p. redo 0 (log ++ writes_of base) p (first p)) left
  since-mended leaves sound = record {
    sized = λ p. long p (leave c tears first past synced calls s.life s.legal p (left p) (leaves p));
    mended = λ p. mends p (sound p);
    leads = λ p. leads p (leaves p) (sound p) (leave c tears first past synced calls s.life s.legal p (left p) (leaves p));
  }

-- ---- the LSNs of commits

changes-from : (lsn : ℕ) (commit : List LogRecord) → AreChanges lsn commit → (start : ℕ) → start ≤ lsn → all-from start commit ≡ true
changes-from lsn [] f start le = refl
changes-from lsn (r ∷ rs) f start le = and_from (from_lsn start r) (all-from start rs) (le-leb start r.lsn (let u = f.0.under in omega arith)) (changes-from lsn rs f.1 start le)

both-from : (start : ℕ) (xs ys : List LogRecord) → all-from start xs ≡ true → all-from start ys ≡ true → all-from start (xs ++ ys) ≡ true
both-from start [] ys h k = k
both-from start (x ∷ xs) ys h k = let a = and_parts (from_lsn start x) (all-from start xs) h in and_from (from_lsn start x) (all-from start (xs ++ ys)) a.0 (both-from start xs ys a.1 k)

reverse-from : (start : ℕ) (xs : List LogRecord) → all-from start xs ≡ true → all-from start (reverse xs) ≡ true
reverse-from start [] h = refl
reverse-from start (x ∷ xs) h =
    let a = and_parts (from_lsn start x) (all-from start xs) h in
    ap (all-from start) (reverse-append (x ∷ []) xs) ∙ both-from start (reverse xs) (x ∷ []) (reverse-from start xs a.1) (and_from (from_lsn start x) true a.0 refl)

commits-from : (lsn : ℕ) (cs : List (List LogRecord)) → AreCommits lsn cs → (start : ℕ) → start ≤ lsn → all-from start (changes_of cs) ≡ true
commits-from lsn [] f start le = refl
commits-from lsn (x ∷ cs) f start le = both-from start x (changes_of cs) (changes-from lsn x f.0 start le) (commits-from (lsn + 1) cs f.1 start (omega arith))

-- what the commits since the log was begun have, newest first
pub since-written : (cut : Cut) (commits : List (List LogRecord)) (pending : List LogRecord) (since past : Trail) → past ≡ since ++ cut.past → reverse (changes_of cut.commits) ≡ writes_of cut.past
    → reverse (changes_of (cut.commits ++ commits)) ≡ pending ++ writes_of past → reverse (changes_of commits) ≡ pending ++ writes_of since
since-written cut commits pending since past parts before written =
    append_cancel_right (reverse (changes_of commits)) (pending ++ writes_of since) (writes_of cut.past)
    (ap (λ (t : List LogRecord). reverse (changes_of commits) ++ t) (sym before)
    ∙ sym (ap reverse (changes-append cut.commits commits) ∙ reverse-append (changes_of cut.commits) (changes_of commits))
    ∙ written ∙ ap (λ (t : List LogRecord). pending ++ t) (ap writes_of parts ∙ writes-append since cut.past)
    ∙ sym (append_assoc pending (writes_of since) (writes_of cut.past)))

module _ (c : Parameters) (tears : Bool) (first left : ℕ → List ℕ) (table file left_file : List ℕ) (cut : Cut) (start : ℕ) (alive : Bool) (past synced : Trail) (calls : List DeviceCall) (log_calls : List FileCall) (commits : List (List LogRecord)) (durables found last : ℕ) (changes pending : List LogRecord) (later : List FileCall) (read : List (List ℕ)) (n : ℕ)
    (ran : TableRan c table cut file start alive past synced calls log_calls commits durables pending) (reopened : Reopened file start log_calls (log_of table commits) durables later read n) (honestly : Honest tears first calls) (sized : (p : ℕ) → length (first p) ≡ c.size)
    (file_left : FileLeaves file later left_file) (tells : TellsTrue start (synced_bytes file later) (written_bytes file later) left_file)
    (leaves : (p : ℕ) → MayLeave tears first calls p (left p)) (has : HasCommits table left_file found last changes) (sound : (p : ℕ) → IsSound tears c.size 0 (reverse changes) calls p) where
  pub whole : Kept start durables commits found last changes
  whole = whole-commits table file left_file start durables alive log_calls later commits read n found last changes ran.log ran.are reopened file_left tells has

  pub since-cut : (k : Kept start durables commits found last changes) → Since c tears first cut.past past synced calls start (start + length k.kept) (reverse changes)
  since-cut k =
      let end = start + length k.kept in
      let parts = since-begun cut.past cut.calls past synced calls ran.pool in
      let told = since-written cut commits pending parts.0.0 past parts.0.1 ran.cut_is.written ran.written in
      let m = ran.mark in
      let d = k.durably in
      record {
        life = then-life cut.past cut.calls ran.cut_is.life past synced calls ran.pool;
        legal = ran.legal;
        honestly = honestly;
        kept = ran.kept;
        sized = sized;
        since = parts.0.0;
        parts = parts.0.1;
        newer = parts.1.0;
        settled = parts.1.1;
        saved = ran.cut_is.saved;
        below = ran.cut_is.below;
        pending = pending;
        from = ap (all-from start) (sym told) ∙ reverse-from start (changes_of commits) (commits-from (start + 1) commits ran.are start (omega arith));
        told = ap reverse k.changes_are ∙ sym (kept-of (start + 1) end k.kept k.lost (subst (AreCommits (start + 1)) k.stands ran.are) (omega arith))
            ∙ ap (λ (cs : List (List LogRecord)). filter (up_to end) (reverse (changes_of cs))) (sym k.stands) ∙ ap (filter (up_to end)) told;
        reaches = omega arith;
        mark = omega arith;
      }

  wanted-is : reverse changes ++ writes_of cut.past ≡ reverse (changes_of cut.commits ++ changes)
  wanted-is = ap (λ (t : List LogRecord). reverse changes ++ t) (sym ran.cut_is.written) ∙ sym (reverse-append (changes_of cut.commits) changes)

  pub mended : MayBeRedone tears c.size 0 (reverse changes) (λ p. redo 0 (reverse (changes_of cut.commits ++ changes)) p (first p)) left
  mended =
      subst (λ (rs : List LogRecord). MayBeRedone tears c.size 0 (reverse changes) (λ p. redo 0 rs p (first p)) left) wanted-is
      (since-mended c tears first left cut.past past synced calls start (start + length whole.kept) (reverse changes) (since-cut whole) leaves sound)

-- ---- at an earlier moment of the device it was a table too

pub mark-then : (since old : Trail) → durable old ≤ durable (since ++ old)
mark-then [] old = omega arith
mark-then (e ∷ since) old = go (marked e.call) (mark-then since old)
  where
    go : (o : Option ℕ) → durable old ≤ durable (since ++ old) → durable old ≤ greatest (cons_option o (filter_map (λ d. marked d.call) (since ++ old)))
    go None h = h
    go (Some n) h = omega arith

none-failed : (later so_far : List DeviceCall) → some sync_failed (later ++ so_far) ≡ false → some sync_failed so_far ≡ false
none-failed [] so_far h = h
none-failed (call ∷ later) so_far h = none-failed later so_far (or_parts (sync_failed call) (some sync_failed (later ++ so_far)) h).1

pub ran-then : (c : Parameters) (table : List ℕ) (cut : Cut) (file : List ℕ) (start : ℕ) (alive : Bool) (past synced : Trail) (calls : List DeviceCall) (log_calls : List FileCall) (commits : List (List LogRecord)) (count : ℕ) (pending : List LogRecord)
    → TableRan c table cut file start alive past synced calls log_calls commits count pending → (later so_far : List DeviceCall) → calls ≡ later ++ (so_far ++ cut.calls)
    → (old settled : Trail) × (left : List LogRecord) × TableRan c table cut file start alive old settled (so_far ++ cut.calls) log_calls commits count left
ran-then c table cut file start alive past synced calls log_calls commits count pending ran later so_far e =
    let h = earlier cut.past cut.calls past synced calls ran.pool later so_far e in
    let legal : Legal c (h.since ++ h.old) = subst (Legal c) h.parts ran.legal in (
      h.old,
      h.settled,
      pending ++ writes_of h.since,
      record {
        log = ran.log;
        are = ran.are;
        legal = legal-then c h.since h.old legal;
        cut_is = ran.cut_is;
        pool = h.life;
        unfailed = λ yes. none-failed later (so_far ++ cut.calls) (subst (λ (cs : List DeviceCall). some sync_failed cs ≡ false) e (ran.unfailed yes));
        written = ran.written ∙ ap (λ (t : Trail). pending ++ writes_of t) h.parts ∙ ap (λ (t : List LogRecord). pending ++ t) (writes-append h.since h.old) ∙ sym (append_assoc pending (writes_of h.since) (writes_of h.old));
        mark = (let m = mark-then h.since h.old in let n = subst (λ (t : Trail). durable t < start + count) h.parts ran.mark in omega arith);
        named = ran.named;
        kept = λ p. none-front (discards p) h.since h.old (subst (λ (t : Trail). some (discards p) t ≡ false) h.parts (ran.kept p));
        full = ran.full;
      },
    )
