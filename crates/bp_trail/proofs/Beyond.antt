-- What was done with a page beyond the end of the log, since it was last read, is no matter: no image of it went out since.
use Rattle.std.proofs.Common.{◌≡◌, inl, inr, refl, sym, ap, subst, ◌∙◌, ℕ, max, ◌≤◌, nat_lt, nat_le, Bool, true, false, not, ◌&&◌, ◌||◌, ◌==◌, if◌then◌else◌, cond, List, [], ◌∷◌, ◌++◌, unwrap_or, Some, None, arith}
use Rattle.std.proofs.lemmas.Bool.{eqb-true, eq-eqb, and_parts, or_parts, ltb-true, lt-leb, false_from_ne_true, true≢false}
use Rattle.bp_trail.specs.declared.entries.Entry.{Entry}
use Rattle.bp_trail.specs.declared.entries.Reply.{Reply}
use Rattle.bp_trail.specs.declared.entries.Reply.TheVariants.{WriteFirst, Fixed}
use Rattle.bp_trail.specs.declared.records.LogRecord.{LogRecord}
use Rattle.bp_trail.specs.Parameters.{Parameters}
use Rattle.bp_trail.specs.Lists.{some, every, after_last, since, least_since}
use Rattle.bp_trail.specs.Event.{discards, loads, writes, lsn_of, lsn_written, begins_of}
use Rattle.bp_trail.specs.Trail.{Trail}
use Rattle.bp_trail.specs.Clock.{durable}
use Rattle.bp_trail.specs.Saved.{began_saving, settles, unsaved}
use Rattle.bp_trail.specs.Images.{written_into}
use Rattle.bp_trail.specs.Legal.{IsLawful, Legal}
use Rattle.bp_trail.specs.Recovery.{records, within, records_from, NeverFall, put, redo, WentOut, MayHave, GaveBack, ReadBeyond, LogHas, IsRedoPoint}
use Rattle.bp_trail.proofs.Lists.{greatest-with, some-append, some-mono}
use Rattle.bp_trail.proofs.Events.{event-of}
use Rattle.bp_trail.proofs.Places.{places, unsaved-ended}
use Rattle.bp_trail.proofs.WriteAhead.{written_lsn, write_ahead}
use Rattle.bp_trail.proofs.Since.{each_before}
use Rattle.bp_trail.proofs.Recovered.{written-put, after_last-front, none-settled, records-skip, records-append, AtLeast, least-parts, durable-grows}
use Rattle.bp_trail.proofs.UsedAgain.{which-newer}
use Rattle.bp_trail.proofs.Redoing.{recovers-plain}
use Rattle.bp_trail.proofs.Stamped.{begin-unsaved, load-away, write-no_load}

-- ---- no image went out

read-no_write : (c : Parameters) (e : Entry) (past : Trail) (p : ℕ) → Legal c (e ∷ past) → loads p e ≡ true → writes p e ≡ false
read-no_write c e past p l h = false_from_ne_true (writes p e) (λ w. (let n = write-no_load c past e.client e.call e.reply (event-of c past e l.here) p w in cc))

read-kept : (c : Parameters) (e : Entry) (past : Trail) (p : ℕ) → Legal c (e ∷ past) → loads p e ≡ true → discards p e ≡ false
read-kept c e past p l h = go e.reply h
  where
    go : (r : Reply) → loads p (record { client = e.client; call = e.call; reply = r }) ≡ true → discards p (record { client = e.client; call = e.call; reply = r }) ≡ false
    go (Fixed n) h = refl
    go _ h = absurd (true≢false (sym h))

-- a page that was just read is saved
read-saved : (c : Parameters) (e : Entry) (past : Trail) (p : ℕ) → Legal c (e ∷ past) → loads p e ≡ true → unsaved (e ∷ past) p ≡ false
read-saved c e past p l h = false_from_ne_true (unsaved (e ∷ past) p) (λ u.
    (let v = rw (read-no_write c e past p l h) at u in
    let s = unsaved-ended past e p (and_parts (not (settles (e ∷ past) p e)) _ v).1 in
    let here = (places c past l.before).dirty p s in
    let away = load-away c past e.client e.call e.reply l.before (event-of c past e l.here) p h in
    cc))

-- where it is unsaved later on, it was written to since
unsaved-since : (p : ℕ) (l rest : Trail) → unsaved rest p ≡ false → unsaved (l ++ rest) p ≡ true → some (writes p) l ≡ true
unsaved-since p [] rest s u = cc
unsaved-since p (e ∷ l) rest s u = go (writes p e) u (unsaved-since p l rest s)
  where
    go : (b : Bool) → (b || (not (settles (e ∷ l ++ rest) p e) && since (writes p) (settles (e ∷ l ++ rest) p) (l ++ rest))) ≡ true → (unsaved (l ++ rest) p ≡ true → some (writes p) l ≡ true) → (b || some (writes p) l) ≡ true
    go true u ih = refl
    go false u ih = ih (unsaved-ended (l ++ rest) e p (and_parts (not (settles (e ∷ l ++ rest) p e)) _ u).1)

abbrev is_beyond : ℕ → ℕ → Entry → Bool
is_beyond end p e = not (writes p e) || nat_lt end (lsn_of e.call)

-- and such a write is not logged
none-logged : (end p : ℕ) (l rest : Trail) → written_lsn p (l ++ rest) ≤ end → every (is_beyond end p) l ≡ true → some (writes p) l ≡ false
none-logged end p [] rest le h = refl
none-logged end p (e ∷ l) rest le h =
    let a = and_parts (is_beyond end p e) _ h in
    go (writes p e) refl a.0 (none-logged end p l rest)
  where
    more : written_lsn p (e ∷ l ++ rest) ≡ max (unwrap_or (lsn_written p e) 0) (written_lsn p (l ++ rest))
    more = greatest-with (lsn_written p) e (l ++ rest)

    go : (b : Bool) → writes p e ≡ b → (not b || nat_lt end (lsn_of e.call)) ≡ true → (written_lsn p (l ++ rest) ≤ end → every (is_beyond end p) l ≡ true → some (writes p) l ≡ false) → (b || some (writes p) l) ≡ false
    go true w k ih =
        let is : lsn_written p e ≡ Some (lsn_of e.call) = ap (λ b. if b then Some (lsn_of e.call) else None) w in
        let m : written_lsn p (e ∷ l ++ rest) ≡ max (lsn_of e.call) (written_lsn p (l ++ rest)) = subst (λ o. written_lsn p (e ∷ l ++ rest) ≡ max (unwrap_or o 0) (written_lsn p (l ++ rest))) is more in
        let lt = ltb-true end (lsn_of e.call) k in
        absurd (omega arith)
    go false w k ih = let m = more in ih (omega arith) (and_parts (is_beyond end p e) _ h).1

none-begun : (c : Parameters) (end p : ℕ) (l rest : Trail) → Legal c (l ++ rest) → some (discards p) l ≡ false → unsaved rest p ≡ false → durable (l ++ rest) ≤ end → every (is_beyond end p) l ≡ true → some (λ d. begins_of p d.reply) l ≡ false
none-begun c end p [] rest legal n s le h = refl
none-begun c end p (e ∷ l) rest legal n s le h =
    let a = and_parts (is_beyond end p e) _ h in
    let g = durable-grows (e ∷ []) (l ++ rest) in
    let older : durable (l ++ rest) ≤ end = omega arith in
    let here : begins_of p e.reply ≡ false = false_from_ne_true (begins_of p e.reply) (go e.reply refl a.1 older) in
    rw here (none-begun c end p l rest legal.before kept s older a.1)
  where
    kept : some (discards p) l ≡ false
    kept = (or_parts (discards p e) (some (discards p) l) n).1

    recent : Trail
    recent = after_last (discards p) rest

    go : (r : Reply) → e.reply ≡ r → every (is_beyond end p) l ≡ true → durable (l ++ rest) ≤ end → begins_of p r ≡ true → ⊥
    go (WriteFirst t q image) is k older b =
        let reply : e.reply ≡ WriteFirst t p image = is ∙ ap (λ n. WriteFirst t n image) (eqb-true q p b) in
        let ahead : written_lsn p (l ++ recent) ≤ durable (l ++ rest) = subst (λ s. written_lsn p s ≤ durable (l ++ rest)) (after_last-front (discards p) l rest kept) (write_ahead c (l ++ rest) e t p image legal reply) in
        let dirty = begin-unsaved c (l ++ rest) e.client e.call e.reply (event-of c (l ++ rest) e legal.here) p (subst (λ x. begins_of p x ≡ true) (sym is) b) in
        let wrote = unsaved-since p l rest s dirty in
        let none = none-logged end p l recent (omega arith) k in
        cc
    go _ is k older b = cc

began-begins : (synced : Trail) (p : ℕ) (r : Reply) → began_saving synced p r ≡ true → begins_of p r ≡ true
began-begins synced p (WriteFirst t q image) h = (and_parts (q == p) _ h).0
began-begins synced p _ h = cc

none-saved : (synced : Trail) (p : ℕ) (l : Trail) → some (λ d. begins_of p d.reply) l ≡ false → some (λ d. began_saving synced p d.reply) l ≡ false
none-saved synced p l h = false_from_ne_true (some (λ d. began_saving synced p d.reply) l)
    (λ k. (let m = some-mono (λ d. began_saving synced p d.reply) (λ d. begins_of p d.reply) l (λ d i. began-begins synced p d.reply i) k in cc))

-- ---- the log, the device and the redo point are as they were

records-beyond : (end p : ℕ) (l : Trail) → every (is_beyond end p) l ≡ true → records p (within end l) ≡ []
records-beyond end p [] h = refl
records-beyond end p (e ∷ l) h =
    let a = and_parts (is_beyond end p e) _ h in
    go (writes p e) refl a.0 (records-beyond end p l a.1)
  where
    go : (b : Bool) → writes p e ≡ b → (not b || nat_lt end (lsn_of e.call)) ≡ true → records p (within end l) ≡ [] → records p (within end (e ∷ l)) ≡ []
    go true w k ih =
        let above : nat_le (lsn_of e.call) end ≡ false = lt-leb (lsn_of e.call) end (ltb-true end (lsn_of e.call) k) in
        ap (λ b. records p (cond b (e ∷ within end l) (within end l))) above ∙ ih
    go false w k ih = records-skip p end e l w ∙ ih

least-rest : (from p : ℕ) (stop : Entry → Bool) (l rest : Trail) → some stop l ≡ false → AtLeast from (least_since (lsn_written p) stop (l ++ rest)) → AtLeast from (least_since (lsn_written p) stop rest)
least-rest from p stop [] rest n h = h
least-rest from p stop (e ∷ l) rest n h =
    let k = or_parts (stop e) (some stop l) n in
    let parts = least-parts from (lsn_written p e) (if stop e then None else least_since (lsn_written p) stop (l ++ rest)) h in
    let older : AtLeast from (least_since (lsn_written p) stop (l ++ rest)) = rw k.0 at parts.1 in
    least-rest from p stop l rest k.1 older

module _ (c : Parameters) (synced past : Trail) (end p : ℕ) (legal : Legal c past) (mark : durable past ≤ end) (r : ReadBeyond end past p) where
  there : Legal c (r.later ++ r.read ∷ r.earlier)
  there = subst (Legal c) r.stands legal

  read_legal : Legal c (r.read ∷ r.earlier)
  read_legal = each_before (IsLawful c) r.later (r.read ∷ r.earlier) there

  abbrev stop : Entry → Bool
  stop d = began_saving synced p d.reply

  begun : some (λ d. begins_of p d.reply) r.later ≡ false
  begun = none-begun c end p r.later (r.read ∷ r.earlier) there r.kept (read-saved c r.read r.earlier p read_legal r.reads_it) (subst (λ s. durable s ≤ end) r.stands mark) r.beyond

  read_stop : begins_of p r.read.reply ≡ false
  read_stop = go r.read.reply refl
    where
      go : (x : Reply) → r.read.reply ≡ x → begins_of p x ≡ false
      go (WriteFirst t q image) is = (let no : loads p r.read ≡ false = rw is refl in let yes = r.reads_it in cc)
      go _ is = refl

  read_saves : some stop (r.read ∷ []) ≡ false
  read_saves = none-saved synced p (r.read ∷ []) (rw read_stop refl)

  pub same-records : records p (within end past) ≡ records p (within end r.earlier)
  same-records =
      ap (λ s. records p (within end s)) r.stands
      ∙ records-append p end r.later (r.read ∷ r.earlier)
      ∙ ap (λ rs. rs ++ records p (within end (r.read ∷ r.earlier))) (records-beyond end p r.later r.beyond)
      ∙ records-skip p end r.read r.earlier (read-no_write c r.read r.earlier p read_legal r.reads_it)

  pub same-plain : (first : ℕ → List ℕ) → written_into first (within end past) p ≡ written_into first (within end r.earlier) p
  same-plain first = written-put first p (within end past) ∙ ap (λ rs. put rs (first p)) same-records ∙ sym (written-put first p (within end r.earlier))

  pub same-point : (from : ℕ) → IsRedoPoint from synced past p → IsRedoPoint from synced r.earlier p
  same-point from point =
      let whole : AtLeast from (least_since (lsn_written p) (settles synced p) (r.later ++ r.read ∷ r.earlier)) = subst (λ s. AtLeast from (least_since (lsn_written p) (settles synced p) s)) r.stands point in
      let since_read = least-rest from p (settles synced p) r.later (r.read ∷ r.earlier) (none-settled synced p r.later r.kept (none-saved synced p r.later begun)) whole in
      least-rest from p (settles synced p) (r.read ∷ []) r.earlier (none-settled synced p (r.read ∷ []) (rw (read-kept c r.read r.earlier p read_legal r.reads_it) refl) read_saves) since_read

  pub same-mark : durable r.earlier ≤ end
  same-mark =
      let a = durable-grows (r.read ∷ []) r.earlier in
      let b = durable-grows r.later (r.read ∷ r.earlier) in
      let d : durable (r.later ++ r.read ∷ r.earlier) ≤ end = subst (λ s. durable s ≤ end) r.stands mark in
      omega arith

  same-out : (out : WentOut synced past p) → (w : WentOut synced r.earlier p) × (out.image ≡ w.image)
  same-out out = elim (which-newer out.later r.later out.earlier r.earlier out.entry r.read (sym out.stands ∙ r.stands)) [
    | inl n ↦ (let k = begun in
        let b : begins_of p out.entry.reply ≡ true = rw out.begins (eq-eqb p p refl) in
        let parts = ap (some (λ d. begins_of p d.reply)) n.front ∙ some-append (λ d. begins_of p d.reply) out.later (out.entry ∷ n.between) in
        let none = or_parts (some (λ d. begins_of p d.reply) out.later) _ (sym parts ∙ k) in
        let here = or_parts (begins_of p out.entry.reply) _ none.1 in
        cc)
    | inr (inl same) ↦ (let b : begins_of p r.read.reply ≡ true = subst (λ (e : Entry). begins_of p e.reply ≡ true) same (rw out.begins (eq-eqb p p refl)) in let n = read_stop in cc)
    | inr (inr n) ↦ (let parts = ap (some stop) n.front ∙ some-append stop r.later (r.read ∷ n.between) in
        let none = or_parts (some stop r.later) _ (sym parts ∙ out.last) in
        (record { later = n.between; entry = out.entry; earlier = out.earlier; ticket = out.ticket; image = out.image; stands = n.rest; begins = out.begins; last = (or_parts (stop r.read) _ none.1).1 }, refl))
  ]

  pub same-device : (first : ℕ → List ℕ) (image : List ℕ) → MayHave first synced past p image → MayHave first synced r.earlier p image
  same-device first image (inl (out, is)) = let w = same-out out in inl (w.0, is ∙ w.1)
  same-device first image (inr (none, is)) =
      let parts = ap (some stop) r.stands ∙ some-append stop r.later (r.read ∷ r.earlier) in
      let a = or_parts (some stop r.later) _ (sym parts ∙ none) in
      inr ((or_parts (stop r.read) _ a.1).1, is)

pub recovers-unlogged : (c : Parameters) (first : ℕ → List ℕ) (synced past : Trail) (log : List LogRecord) (start from end p : ℕ) (image : List ℕ)
    → Legal c past → durable past ≤ end → (r : ReadBeyond end past p) → GaveBack c.size first end r.earlier p → (h : LogHas log start from end past p) → start ≤ from → IsRedoPoint from synced past p
    → NeverFall (records_from start log p) → MayHave first synced past p image → redo from log p image ≡ put h.unwritten (written_into first (within end past) p)
recovers-unlogged c first synced past log start from end p image legal mark r gave_back h le point rises may =
    recovers-plain c first synced r.earlier log start from end p image
    (record {
      legal = (each_before (IsLawful c) r.later (r.read ∷ r.earlier) (subst (Legal c) r.stands legal)).before;
      gave_back = gave_back;
      mark = same-mark c synced past end p legal mark r;
      has = record { unwritten = h.unwritten; stands = h.stands ∙ ap (λ rs. h.unwritten ++ rs) (same-records c synced past end p legal mark r); unwritten_from = h.unwritten_from };
      from_start = le;
      point = same-point c synced past end p legal mark r from point;
    })
    rises (same-device c synced past end p legal mark r first image may)
    ∙ ap (put h.unwritten) (sym (same-plain c synced past end p legal mark r first))
