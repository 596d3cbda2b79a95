-- What the records of writes make, what redo wants of the log, and what an image that went out has.
use Rattle.std.proofs.Common.{◌≡◌, refl, sym, ap, subst, ◌∙◌, ℕ, ◌+◌, min, max, ◌≤◌, nat_le, Bool, true, false, ◌&&◌, ◌==◌, if◌then◌else◌, cond, List, [], ◌∷◌, ◌++◌, length, filter, append_assoc, unwrap_or, Option, Some, None, arith}
use Rattle.std.specs.List.{cons_option}
use Rattle.std.proofs.lemmas.List.Elements.{filter-append, filter_map-append}
use Rattle.std.proofs.lemmas.Bool.{eqb-true, eq-eqb, and_parts, or_parts, leb-true, leb-false, le-leb}
use Rattle.bp_page.specs.Patched.{patched}
use Rattle.bp_trail.specs.declared.entries.Entry.{Entry}
use Rattle.bp_trail.specs.declared.entries.Call.{Call}
use Rattle.bp_trail.specs.declared.entries.Call.TheVariants.{Write}
use Rattle.bp_trail.specs.declared.entries.Reply.TheVariants.{WriteFirst}
use Rattle.bp_trail.specs.declared.records.LogRecord.{LogRecord}
use Rattle.bp_trail.specs.Parameters.{Parameters}
use Rattle.bp_trail.specs.Lists.{some, every, or_less, least_since, after_last}
use Rattle.bp_trail.specs.Event.{grant, page_of, is_write, discards, writes, lsn_of, lsn_written, patched_by, begins, marked}
use Rattle.bp_trail.specs.Trail.{Trail}
use Rattle.bp_trail.specs.Clock.{durable}
use Rattle.bp_trail.specs.Passes.{passes_out}
use Rattle.bp_trail.specs.Places.{resident}
use Rattle.bp_trail.specs.Saved.{began_saving, settles}
use Rattle.bp_trail.specs.Images.{held, written_into, plain_map}
use Rattle.bp_trail.specs.Legal.{is_out, allowed, IsLawful, Legal}
use Rattle.bp_trail.specs.Device.{HonestOf}
use Rattle.bp_trail.specs.Recovery.{record_of, record_written, records, within, records_from, AllFit, put, redo}
use Rattle.bp_trail.proofs.Lists.{greatest-with, some-append}
use Rattle.bp_trail.proofs.Events.{event-of}
use Rattle.bp_trail.proofs.Flights.{begin-writes}
use Rattle.bp_trail.proofs.Places.{places, out-of_page}
use Rattle.bp_trail.proofs.Ranges.{sized}
use Rattle.bp_trail.proofs.Content.{held-plain, sends-plain}
use Rattle.bp_trail.proofs.Plain.{plain-is_writes}
use Rattle.bp_trail.proofs.WriteAhead.{written_lsn, write_ahead}
use Rattle.bp_trail.proofs.Since.{each_before}
use Rattle.bp_trail.proofs.Bytes.{length-put, from_lsn, Ordered, put-again, put-append}

-- ---- records of writes

pub record-lsn : (call : Call) → (record_of call).lsn ≡ lsn_of call
record-lsn (Write n p offset bytes lsn) = refl
record-lsn _ = refl

pub record-patches : (call : Call) → is_write call ≡ true → (x : List ℕ) → patched_by call x ≡ patched (record_of call).offset (record_of call).bytes x
record-patches (Write n p offset bytes lsn) h x = refl
record-patches _ h x = cc

-- the writes are what the records make
pub written-put : (m : ℕ → List ℕ) (p : ℕ) (past : Trail) → written_into m past p ≡ put (records p past) (m p)
written-put m p [] = refl
written-put m p (e ∷ past) = go (writes p e) refl (written-put m p past)
  where
    go : (b : Bool) → writes p e ≡ b → written_into m past p ≡ put (records p past) (m p)
        → (if b then patched_by e.call (written_into m past p) else written_into m past p) ≡ put (cons_option (if b then Some (record_of e.call) else None) (records p past)) (m p)
    go true w ih = record-patches e.call (and_parts (is_write e.call) _ w).0 (written_into m past p) ∙ ap (patched (record_of e.call).offset (record_of e.call).bytes) ih
    go false w ih = ih

-- so is the plain map of a page that was never discarded
pub plain-put : (c : Parameters) (m : ℕ → List ℕ) (p : ℕ) (past : Trail) → Legal c past → some (discards p) past ≡ false → plain_map m past p ≡ put (records p past) (m p)
plain-put c m p past l n = plain-is_writes c m past p l n ∙ written-put m p past

-- an entry that does not write p has no record
pub records-skip : (p end : ℕ) (e : Entry) (past : Trail) → writes p e ≡ false → records p (within end (e ∷ past)) ≡ records p (within end past)
records-skip p end e past w = go (nat_le (lsn_of e.call) end)
  where
    go : (b : Bool) → records p (cond b (e ∷ within end past) (within end past)) ≡ records p (within end past)
    go true = rw w refl
    go false = refl

pub records-append : (p end : ℕ) (later earlier : Trail) → records p (within end (later ++ earlier)) ≡ records p (within end later) ++ records p (within end earlier)
records-append p end later earlier =
    ap (records p) (filter-append (λ e. nat_le (lsn_of e.call) end) later earlier) ∙ filter_map-append (record_written p) (within end later) (within end earlier)

-- where each write of p is within the log
pub records-whole : (p end : ℕ) (past : Trail) → written_lsn p past ≤ end → records p (within end past) ≡ records p past
records-whole p end [] h = refl
records-whole p end (e ∷ past) h = go (writes p e) refl (records-whole p end past)
  where
    more : written_lsn p (e ∷ past) ≡ max (unwrap_or (lsn_written p e) 0) (written_lsn p past)
    more = greatest-with (lsn_written p) e past

    go : (b : Bool) → writes p e ≡ b → (written_lsn p past ≤ end → records p (within end past) ≡ records p past) → records p (within end (e ∷ past)) ≡ records p (e ∷ past)
    go false w ih = let m = more in records-skip p end e past w ∙ (rw w (ih (omega arith)))
    go true w ih =
        let is : lsn_written p e ≡ Some (lsn_of e.call) = ap (λ b. if b then Some (lsn_of e.call) else None) w in
        let m : written_lsn p (e ∷ past) ≡ max (lsn_of e.call) (written_lsn p past) = subst (λ o. written_lsn p (e ∷ past) ≡ max (unwrap_or o 0) (written_lsn p past)) is more in
        let i : nat_le (lsn_of e.call) end ≡ true = le-leb (lsn_of e.call) end (omega arith) in
        let k : written_lsn p past ≤ end = omega arith in
        rw i (ap (cons_option (record_written p e)) (ih k))

-- ---- tests of records

pub filter-every : {X : Type 0} (f : X → Bool) (xs : List X) → every f xs ≡ true → filter f xs ≡ xs
filter-every f [] h = refl
filter-every f (x ∷ xs) h = let a = and_parts (f x) (every f xs) h in rw a.0 (ap (λ ys. x ∷ ys) (filter-every f xs a.1))

pub every-within : (f : LogRecord → Bool) (p end : ℕ) (past : Trail) → every f (records p past) ≡ true → every f (records p (within end past)) ≡ true
every-within f p end [] h = h
every-within f p end (e ∷ past) h = go (writes p e) refl (nat_le (lsn_of e.call) end) refl h (every-within f p end past)
  where
    go : (b : Bool) → writes p e ≡ b → (k : Bool) → nat_le (lsn_of e.call) end ≡ k → every f (cons_option (if b then Some (record_of e.call) else None) (records p past)) ≡ true
        → (every f (records p past) ≡ true → every f (records p (within end past)) ≡ true) → every f (records p (cond k (e ∷ within end past) (within end past))) ≡ true
    go true w true i h ih = let a = and_parts (f (record_of e.call)) (every f (records p past)) h in rw (w, a.0) (ih a.1)
    go true w false i h ih = let a = and_parts (f (record_of e.call)) (every f (records p past)) h in ih a.1
    go false w true i h ih = rw w (ih h)
    go false w false i h ih = ih h

-- what is wanted from a later LSN on
pub refilter : (start from p : ℕ) → start ≤ from → (log : List LogRecord) → records_from from log p ≡ filter (from_lsn from) (records_from start log p)
refilter start from p le [] = refl
refilter start from p le (r ∷ log) = go (r.page == p) (nat_le start r.lsn) refl (nat_le from r.lsn) refl (refilter start from p le log)
  where
    go : (b s : Bool) → nat_le start r.lsn ≡ s → (t : Bool) → nat_le from r.lsn ≡ t → records_from from log p ≡ filter (from_lsn from) (records_from start log p)
        → cond (b && t) (r ∷ records_from from log p) (records_from from log p) ≡ filter (from_lsn from) (cond (b && s) (r ∷ records_from start log p) (records_from start log p))
    go false s j t k ih = ih
    go true true j true k ih = rw k (ap (λ ys. r ∷ ys) ih)
    go true true j false k ih = rw k ih
    go true false j true k ih = let a = leb-true from r.lsn k in let b = leb-false start r.lsn j in absurd (omega arith)
    go true false j false k ih = ih

-- ---- the redo point

abbrev pub AtLeast : ℕ → Option ℕ → Type 0
AtLeast from o = (least : ℕ) → o ≡ Some least → from ≤ least

pub least-parts : (from : ℕ) (v least : Option ℕ) → AtLeast from (or_less v least) → AtLeast from v × AtLeast from least
least-parts from None least h = (λ n e. cc, h)
least-parts from (Some n) None h = (h, λ m e. cc)
least-parts from (Some n) (Some m) h =
    let k = h (min n m) refl in
    (λ a e. (let i : n ≡ a = cc in omega arith), λ a e. (let i : m ≡ a = cc in omega arith))

-- the writes after which no write-out was safe
pub later-from : (from p : ℕ) (stop : Entry → Bool) (later rest : Trail) → some stop later ≡ false → AtLeast from (least_since (lsn_written p) stop (later ++ rest)) → every (from_lsn from) (records p later) ≡ true
later-from from p stop [] rest n h = refl
later-from from p stop (e ∷ later) rest n h =
    let k = or_parts (stop e) (some stop later) n in
    let parts = least-parts from (lsn_written p e) (if stop e then None else least_since (lsn_written p) stop (later ++ rest)) h in
    let older : AtLeast from (least_since (lsn_written p) stop (later ++ rest)) = rw k.0 at parts.1 in
    go (writes p e) refl parts.0 (later-from from p stop later rest k.1 older)
  where
    go : (b : Bool) → writes p e ≡ b → AtLeast from (if b then Some (lsn_of e.call) else None) → every (from_lsn from) (records p later) ≡ true
        → every (from_lsn from) (cons_option (if b then Some (record_of e.call) else None) (records p later)) ≡ true
    go true w a ih =
        let le = a (lsn_of e.call) refl in
        let i : nat_le from (record_of e.call).lsn ≡ true = subst (λ n. nat_le from n ≡ true) (sym (record-lsn e.call)) (le-leb from (lsn_of e.call) le) in
        rw i ih
    go false w a ih = ih

-- ---- writes lie within their pages

pub record Placed (c : Parameters) (past : Trail) (p : ℕ) (r : LogRecord) : Type 0 where
  pub inside : r.offset + length r.bytes ≤ c.size
  pub there : resident past p ≡ true

pub placed : (c : Parameters) (past : Trail) (who p : ℕ) (call : Call) → Legal c past → allowed c past who call ≡ true → (is_write call && (page_of call == p)) ≡ true → Placed c past p (record_of call)
placed c past who p (Write n q offset bytes lsn) l a w =
    let parts = and_parts (is_out (grant who q n) (passes_out past)) _ a in
    record {
      inside = leb-true (offset + length bytes) c.size parts.1;
      there = subst (λ x. resident past x ≡ true) (eqb-true q p w) ((places c past l).pinned q (out-of_page who q n (passes_out past) parts.0));
    }
placed c past who p _ l a w = cc

pub records-fit : (c : Parameters) (m : ℕ → List ℕ) (p : ℕ) (past : Trail) → Legal c past → HonestOf m p past → some (discards p) past ≡ false → AllFit (length (m p)) (records p past)
records-fit c m p [] l h n = tt
records-fit c m p (e ∷ past) l h n = go (records-fit c m p past l.before h.before kept) (writes p e) refl
  where
    kept : some (discards p) past ≡ false
    kept = (or_parts (discards p e) (some (discards p) past) n).1

    go : AllFit (length (m p)) (records p past) → (b : Bool) → writes p e ≡ b → AllFit (length (m p)) (cons_option (if b then Some (record_of e.call) else None) (records p past))
    go older false w = older
    go older true w =
        let at = placed c past e.client p e.call l.before l.here.allowed w in
        let size : length (held past p) ≡ c.size = sized c past l.before p at.there in
        let same : held past p ≡ put (records p past) (m p) = held-plain c m past p l.before h.before at.there ∙ plain-put c m p past l.before kept in
        let long : length (held past p) ≡ length (m p) = ap length same ∙ length-put (length (m p)) (records p past) (m p) older refl in
        let in_page = at.inside in
        (omega arith, older)

-- ---- the mark

pub durable-grows : (later past : Trail) → durable past ≤ durable (later ++ past)
durable-grows [] past = omega arith
durable-grows (e ∷ later) past =
    let h = durable-grows later past in
    let m : durable (e ∷ later ++ past) ≡ max (unwrap_or (marked e.call) 0) (durable (later ++ past)) = greatest-with (λ e. marked e.call) e (later ++ past) in
    omega arith

-- ---- the theorem

-- what is wanted from the redo point on, where that keeps all of the newer ones
pub wanted-split : (log : List LogRecord) (start from p : ℕ) (unwritten newer older : List LogRecord)
    → records_from start log p ≡ unwritten ++ (newer ++ older) → start ≤ from → every (from_lsn from) unwritten ≡ true → every (from_lsn from) newer ≡ true
    → records_from from log p ≡ unwritten ++ (newer ++ filter (from_lsn from) older)
wanted-split log start from p unwritten newer older stands le u n =
    let f = filter (from_lsn from) in
    refilter start from p le log
    ∙ ap f stands
    ∙ filter-append (from_lsn from) unwritten (newer ++ older)
    ∙ ap (λ xs. xs ++ f (newer ++ older)) (filter-every (from_lsn from) unwritten u)
    ∙ ap (λ xs. unwritten ++ xs) (filter-append (from_lsn from) newer older ∙ ap (λ xs. xs ++ f older) (filter-every (from_lsn from) newer n))

-- an image that has the older records of those that the log has
pub redo-older : (log : List LogRecord) (start from p : ℕ) (x image : List ℕ) (unwritten newer older : List LogRecord)
    → records_from start log p ≡ unwritten ++ (newer ++ older) → start ≤ from → every (from_lsn from) unwritten ≡ true → every (from_lsn from) newer ≡ true
    → AllFit (length x) older → Ordered from older → image ≡ put older x → redo from log p image ≡ redo start log p x
redo-older log start from p x image unwritten newer older stands le u n fit rises is =
    let f = filter (from_lsn from) in
    let again : put (f older) image ≡ put older x = ap (put (f older)) is ∙ put-again from older x fit rises in
    ap (λ rs. put rs image) (wanted-split log start from p unwritten newer older stands le u n)
    ∙ put-append unwritten (newer ++ f older) image
    ∙ ap (put unwritten) (put-append newer (f older) image ∙ ap (put newer) again ∙ sym (put-append newer older x))
    ∙ sym (put-append unwritten (newer ++ older) x)
    ∙ ap (λ rs. put rs x) (sym stands)

-- the front of a list
pub none-front : {X : Type 0} (p : X → Bool) (whole xs ys : List X) → whole ≡ xs ++ ys → some p whole ≡ false → some p xs ≡ false
none-front p whole xs ys stands n = (or_parts (some p xs) (some p ys) (sym (some-append p xs ys) ∙ subst (λ s. some p s ≡ false) stands n)).0

pub after_last-front : {X : Type 0} (p : X → Bool) (xs ys : List X) → some p xs ≡ false → after_last p (xs ++ ys) ≡ xs ++ after_last p ys
after_last-front p [] ys n = refl
after_last-front p (x ∷ xs) ys n = let k = or_parts (p x) (some p xs) n in rw k.0 (ap (λ zs. x ∷ zs) (after_last-front p xs ys k.1))

pub written_lsn-front : (p : ℕ) (later rest : Trail) → written_lsn p later ≤ written_lsn p (later ++ rest)
written_lsn-front p [] rest = omega arith
written_lsn-front p (e ∷ later) rest =
    let h = written_lsn-front p later rest in
    let a : written_lsn p (e ∷ later) ≡ max (unwrap_or (lsn_written p e) 0) (written_lsn p later) = greatest-with (lsn_written p) e later in
    let b : written_lsn p (e ∷ later ++ rest) ≡ max (unwrap_or (lsn_written p e) 0) (written_lsn p (later ++ rest)) = greatest-with (lsn_written p) e (later ++ rest) in
    omega arith

-- a page after whose writes came neither a discard nor a safe write-out
pub none-settled : (synced : Trail) (p : ℕ) (past : Trail) → some (discards p) past ≡ false → some (λ d. began_saving synced p d.reply) past ≡ false → some (settles synced p) past ≡ false
none-settled synced p [] n b = refl
none-settled synced p (e ∷ past) n b =
    let k = or_parts (discards p e) (some (discards p) past) n in
    let j = or_parts (began_saving synced p e.reply) (some (λ d. began_saving synced p d.reply) past) b in
    rw (k.0, j.0) (none-settled synced p past k.1 j.1)

-- all entries are after none
pub none-after : {X : Type 0} (p : X → Bool) (xs : List X) → some p xs ≡ false → after_last p xs ≡ xs
none-after p [] n = refl
none-after p (x ∷ xs) n = let k = or_parts (p x) (some p xs) n in rw k.0 (ap (λ ys. x ∷ ys) (none-after p xs k.1))

-- of an image that went out
module _ (c : Parameters) (m : ℕ → List ℕ) (past later earlier : Trail) (e : Entry) (p t : ℕ) (image : List ℕ) (stands : past ≡ later ++ e ∷ earlier) (begins_it : e.reply ≡ WriteFirst t p image) (l : Legal c past) where
  pub legal-there : Legal c (e ∷ earlier)
  legal-there = each_before (IsLawful c) later (e ∷ earlier) (subst (Legal c) stands l)

  pub no-write : writes p e ≡ false
  no-write =
      let b : begins t e.reply ≡ true = rw begins_it (eq-eqb t t refl) in
      begin-writes c earlier e.client e.call e.reply (event-of c earlier e legal-there.here) t p b

  pub kept-there : some (discards p) past ≡ false → some (discards p) earlier ≡ false
  kept-there n = (or_parts (discards p e) (some (discards p) earlier) (or_parts (some (discards p) later) _ (sym (some-append (discards p) later (e ∷ earlier)) ∙ subst (λ s. some (discards p) s ≡ false) stands n)).1).1

  pub mark-grows : durable earlier ≤ durable past
  mark-grows =
      let is : (later ++ e ∷ []) ++ earlier ≡ past = append_assoc later (e ∷ []) earlier ∙ sym stands in
      subst (λ s. durable earlier ≤ durable s) is (durable-grows (later ++ e ∷ []) earlier)

  pub all-logged : some (discards p) past ≡ false → written_lsn p earlier ≤ durable past
  all-logged n =
      let a : written_lsn p earlier ≤ durable earlier = subst (λ s. written_lsn p s ≤ durable earlier) (none-after (discards p) earlier (kept-there n)) (write_ahead c earlier e t p image legal-there begins_it) in
      let d = mark-grows in
      omega arith

  -- the log has the records of its writes
  pub logged : some (discards p) past ≡ false → (end : ℕ) → durable past ≤ end → records p (within end earlier) ≡ records p earlier
  logged n end mark = let a = all-logged n in records-whole p end earlier (omega arith)

  -- and those of the writes since a discard
  pub logged-since : (between rest : Trail) → earlier ≡ between ++ rest → some (discards p) between ≡ false → (end : ℕ) → durable past ≤ end → records p (within end between) ≡ records p between
  logged-since between rest cut n end mark =
      let whole : after_last (discards p) earlier ≡ between ++ after_last (discards p) rest = ap (after_last (discards p)) cut ∙ after_last-front (discards p) between rest n in
      let a : written_lsn p (between ++ after_last (discards p) rest) ≤ durable earlier = subst (λ s. written_lsn p s ≤ durable earlier) whole (write_ahead c earlier e t p image legal-there begins_it) in
      let f = written_lsn-front p between (after_last (discards p) rest) in
      let d = mark-grows in
      records-whole p end between (omega arith)

  pub split : (end : ℕ) → records p (within end past) ≡ records p (within end later) ++ records p (within end earlier)
  split end =
      ap (λ s. records p (within end s)) stands
      ∙ records-append p end later (e ∷ earlier)
      ∙ ap (λ rs. records p (within end later) ++ rs) (records-skip p end e earlier no-write)

  pub honest-there : HonestOf m p past → HonestOf m p (e ∷ earlier)
  honest-there h = each_before _ later (e ∷ earlier) (subst (HonestOf m p) stands h)

  pub is-plain : some (discards p) past ≡ false → HonestOf m p past → image ≡ put (records p earlier) (m p)
  is-plain n h = sends-plain c m earlier p e t image legal-there (honest-there h).before begins_it ∙ plain-put c m p earlier legal-there.before (kept-there n)
