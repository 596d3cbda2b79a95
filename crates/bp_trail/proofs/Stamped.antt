-- Redo by page LSN: an image has the writes up to its page LSN, and no others.
use Rattle.std.proofs.Common.{◌≡◌, inl, inr, refl, sym, ap, subst, ◌∙◌, ℕ, ◌+◌, max, ◌≤◌, ◌<◌, nat_lt, nat_le, Bool, true, false, not, ◌&&◌, ◌||◌, ◌==◌, if◌then◌else◌, cond, List, [], ◌∷◌, ◌++◌, length, filter, filter_map, append_assoc, append-nil, unwrap_or, Option, Some, None, arith}
use Rattle.std.specs.List.{cons_option}
use Rattle.std.proofs.lemmas.List.Elements.{filter-append}
use Rattle.std.proofs.lemmas.Bool.{eqb-true, eq-eqb, and_parts, and_from, ltb-true, ltb-false, lt-ltb, le-ltb, leb-true, leb-false, le-leb, lt-leb, cases_lt, false_from_ne_true}
use Rattle.bp_page.specs.Patched.{patched}
use Rattle.bp_trail.specs.declared.entries.Entry.{Entry}
use Rattle.bp_trail.specs.declared.entries.Call.{Call}
use Rattle.bp_trail.specs.declared.entries.Reply.{Reply}
use Rattle.bp_trail.specs.declared.records.LogRecord.{LogRecord}
use Rattle.bp_trail.specs.Parameters.{Parameters}
use Rattle.bp_trail.specs.Lists.{greatest, some, every, after_last, since, least_since}
use Rattle.bp_trail.specs.Event.{discards, writes, loads, lsn_of, lsn_written, begins_of}
use Rattle.bp_trail.specs.Trail.{Trail}
use Rattle.bp_trail.specs.Clock.{durable}
use Rattle.bp_trail.specs.Passes.{reads_out}
use Rattle.bp_trail.specs.Places.{resident}
use Rattle.bp_trail.specs.Saved.{began_saving, settles, unsaved, page_lsn}
use Rattle.bp_trail.specs.Legal.{Legal}
use Rattle.bp_trail.specs.Standing.{Content}
use Rattle.bp_trail.specs.Recovery.{record_of, records, within, wanted, records_from, AllFit, Rise, patch, put, apply_newer, apply_all_newer, redo, redo_by_lsn, AppliesAlike, UsedAgain, GaveBack, TellsNew, WentOut, MayHaveStamped, Stopped}
use Rattle.bp_trail.specs.Recovery.GaveBack.{from_opening, since_used_again}
use Rattle.bp_trail.proofs.Lists.{greatest-with}
use Rattle.bp_trail.proofs.Events.{Event, event-of}
use Rattle.bp_trail.proofs.Events.Event.{fix_write, flush_write, read_good, page_written}
use Rattle.bp_trail.proofs.Places.{places, out-of_page, unsaved-ended}
use Rattle.bp_trail.proofs.WriteAhead.{written_lsn}
use Rattle.bp_trail.proofs.Since.{each_before}
use Rattle.bp_trail.proofs.Bytes.{length-patched, patched-whole, full-bytes, filter-fit, from_lsn, none-older}
use Rattle.bp_trail.proofs.Recovered.{record-lsn, records-skip, records-append, every-within, AtLeast, later-from, none-front, none-settled, wanted-split, legal-there, no-write, mark-grows, split}
use Rattle.bp_trail.proofs.Redoing.{HasRecords, Overwritten, has-logged, has-again, records-write, again-cut, again-fit, again-wanted}

abbrev entry : ℕ → Call → Reply → Entry
entry who call reply = record { client = who; call = call; reply = reply }

-- ---- the page LSN of what goes out

-- where the log reaches it, the page LSN is that of a record
pub page_lsn-less : (p end : ℕ) (past : Trail) → page_lsn past p ≤ end → page_lsn past p ≤ written_lsn p (within end past)
page_lsn-less p end [] h = omega arith
page_lsn-less p end (e ∷ past) h = go (loads p e) (nat_le (lsn_of e.call) end) refl (writes p e) refl h (page_lsn-less p end past)
  where
    go : (b k : Bool) → nat_le (lsn_of e.call) end ≡ k → (w : Bool) → writes p e ≡ w → greatest (filter_map (lsn_written p) (if b then [] else e ∷ after_last (loads p) past)) ≤ end
        → (page_lsn past p ≤ end → page_lsn past p ≤ written_lsn p (within end past))
        → greatest (filter_map (lsn_written p) (if b then [] else e ∷ after_last (loads p) past)) ≤ written_lsn p (cond k (e ∷ within end past) (within end past))
    go true k j w i h ih = omega arith
    go false true j w i h ih =
        let top : written_lsn p (e ∷ after_last (loads p) past) ≤ end = h in
        let x : written_lsn p (e ∷ after_last (loads p) past) ≡ max (unwrap_or (lsn_written p e) 0) (page_lsn past p) = greatest-with (lsn_written p) e (after_last (loads p) past) in
        let y : written_lsn p (e ∷ within end past) ≡ max (unwrap_or (lsn_written p e) 0) (written_lsn p (within end past)) = greatest-with (lsn_written p) e (within end past) in
        let older = ih (omega arith) in
        let goal : written_lsn p (e ∷ after_last (loads p) past) ≤ written_lsn p (e ∷ within end past) = omega arith in
        goal
    go false false j true i h ih =
        let top : written_lsn p (e ∷ after_last (loads p) past) ≤ end = h in
        let is : lsn_written p e ≡ Some (lsn_of e.call) = ap (λ b. if b then Some (lsn_of e.call) else None) i in
        let x : written_lsn p (e ∷ after_last (loads p) past) ≡ max (lsn_of e.call) (page_lsn past p) =
        subst (λ o. written_lsn p (e ∷ after_last (loads p) past) ≡ max (unwrap_or o 0) (page_lsn past p)) is (greatest-with (lsn_written p) e (after_last (loads p) past)) in
        let beyond = leb-false (lsn_of e.call) end j in
        absurd (omega arith)
    go false false j false i h ih =
        let top : written_lsn p (e ∷ after_last (loads p) past) ≤ end = h in
        let is : lsn_written p e ≡ None = ap (λ b. if b then Some (lsn_of e.call) else None) i in
        let x : written_lsn p (e ∷ after_last (loads p) past) ≡ max 0 (page_lsn past p) =
        subst (λ o. written_lsn p (e ∷ after_last (loads p) past) ≡ max (unwrap_or o 0) (page_lsn past p)) is (greatest-with (lsn_written p) e (after_last (loads p) past)) in
        let older = ih (omega arith) in
        let goal : written_lsn p (e ∷ after_last (loads p) past) ≤ written_lsn p (within end past) = omega arith in
        goal

-- a bound on the records of p is one on its LSNs
module _ (p n : ℕ) where
  go-bound : (e : Entry) (past : Trail) (b : Bool) → writes p e ≡ b → every (λ o. nat_lt o.lsn n) (cons_option (if b then Some (record_of e.call) else None) (records p past)) ≡ true
      → (every (λ o. nat_lt o.lsn n) (records p past) ≡ true → 0 < n → written_lsn p past < n) → 0 < n → written_lsn p (e ∷ past) < n
  go-bound e past true w h ih pos =
      let a = and_parts (nat_lt (record_of e.call).lsn n) _ h in
      let lt = ltb-true (record_of e.call).lsn n a.0 in
      let same = record-lsn e.call in
      let is : lsn_written p e ≡ Some (lsn_of e.call) = ap (λ b. if b then Some (lsn_of e.call) else None) w in
      let m : written_lsn p (e ∷ past) ≡ max (lsn_of e.call) (written_lsn p past) = subst (λ o. written_lsn p (e ∷ past) ≡ max (unwrap_or o 0) (written_lsn p past)) is (greatest-with (lsn_written p) e past) in
      let older = ih a.1 pos in
      omega arith
  go-bound e past false w h ih pos =
      let is : lsn_written p e ≡ None = ap (λ b. if b then Some (lsn_of e.call) else None) w in
      let m : written_lsn p (e ∷ past) ≡ max 0 (written_lsn p past) = subst (λ o. written_lsn p (e ∷ past) ≡ max (unwrap_or o 0) (written_lsn p past)) is (greatest-with (lsn_written p) e past) in
      let older = ih h pos in
      omega arith

  pub lsn-below : (past : Trail) → every (λ o. nat_lt o.lsn n) (records p past) ≡ true → 0 < n → written_lsn p past < n
  lsn-below [] h pos = omega arith
  lsn-below (e ∷ past) h pos = go-bound e past (writes p e) refl h (lsn-below past) pos

pub below-zero : (rs : List LogRecord) (n : ℕ) → n ≡ 0 → every (λ o. nat_lt o.lsn n) rs ≡ true → rs ≡ []
below-zero [] n z h = refl
below-zero (r ∷ rs) n z h = let lt = ltb-true r.lsn n (and_parts (nat_lt r.lsn n) _ h).0 in absurd (omega arith)

-- and one on its LSNs is one on its records
pub records-below : (p n : ℕ) (past : Trail) → written_lsn p past ≤ n → every (λ r. nat_le r.lsn n) (records p past) ≡ true
records-below p n [] h = refl
records-below p n (e ∷ past) h = go (writes p e) refl (records-below p n past)
  where
    go : (b : Bool) → writes p e ≡ b → (written_lsn p past ≤ n → every (λ r. nat_le r.lsn n) (records p past) ≡ true) → every (λ r. nat_le r.lsn n) (cons_option (if b then Some (record_of e.call) else None) (records p past)) ≡ true
    go true w ih =
        let is : lsn_written p e ≡ Some (lsn_of e.call) = ap (λ b. if b then Some (lsn_of e.call) else None) w in
        let m : written_lsn p (e ∷ past) ≡ max (lsn_of e.call) (written_lsn p past) = subst (λ o. written_lsn p (e ∷ past) ≡ max (unwrap_or o 0) (written_lsn p past)) is (greatest-with (lsn_written p) e past) in
        let same = record-lsn e.call in
        and_from _ _ (le-leb (record_of e.call).lsn n (omega arith)) (ih (omega arith))
    go false w ih =
        let m = greatest-with (lsn_written p) e past in
        ih (omega arith)

pub lsn-none : (p : ℕ) (past : Trail) → records p past ≡ [] → written_lsn p past ≤ 0
lsn-none p [] h = omega arith
lsn-none p (e ∷ past) h = go (writes p e) refl h (lsn-none p past)
  where
    go : (b : Bool) → writes p e ≡ b → cons_option (if b then Some (record_of e.call) else None) (records p past) ≡ [] → (records p past ≡ [] → written_lsn p past ≤ 0) → written_lsn p (e ∷ past) ≤ 0
    go true w h ih = cc
    go false w h ih =
        let is : lsn_written p e ≡ None = ap (λ b. if b then Some (lsn_of e.call) else None) w in
        let m : written_lsn p (e ∷ past) ≡ max 0 (written_lsn p past) = subst (λ o. written_lsn p (e ∷ past) ≡ max (unwrap_or o 0) (written_lsn p past)) is (greatest-with (lsn_written p) e past) in
        let older = ih h in
        omega arith

pub load-away : (c : Parameters) (past : Trail) (who : ℕ) (call : Call) (reply : Reply) → Legal c past → Event c past who call reply → (p : ℕ) → loads p (entry who call reply) ≡ true → resident past p ≡ false
load-away c past who _ _ l (read_good t q image o) p h = subst (λ x. resident past x ≡ false) (eqb-true q p h) ((places c past l).away q (out-of_page who q t (reads_out past) o))
load-away c past who _ _ l _ p h = cc

pub write-no_load : (c : Parameters) (past : Trail) (who : ℕ) (call : Call) (reply : Reply) → Event c past who call reply → (p : ℕ) → writes p (entry who call reply) ≡ true → loads p (entry who call reply) ≡ false
write-no_load c past who _ _ (page_written n q offset bytes lsn o) p h = refl
write-no_load c past who _ _ _ p h = cc

-- an entry that does not write p leaves the greatest LSN
lsn-skip : (p end : ℕ) (e : Entry) (past : Trail) → lsn_written p e ≡ None → written_lsn p (within end (e ∷ past)) ≡ written_lsn p (within end past)
lsn-skip p end e past is = go (nat_le (lsn_of e.call) end)
  where
    go : (k : Bool) → written_lsn p (cond k (e ∷ within end past) (within end past)) ≡ written_lsn p (within end past)
    go true = ap (λ (o : Option ℕ). greatest (cons_option o (filter_map (lsn_written p) (within end past)))) is
    go false = refl

-- the page LSN of an unsaved page is the greatest LSN of its writes in the log, where these rise and the log reaches it
pub lsn-top : (c : Parameters) (p end : ℕ) (past : Trail) → Legal c past → Rise (records p (within end past)) → unsaved past p ≡ true → page_lsn past p ≤ end → page_lsn past p ≡ written_lsn p (within end past)
lsn-top c p end [] l r u le = cc
lsn-top c p end (e ∷ past) l r u le = go (writes p e) refl (lsn-top c p end past l.before) u
  where
    since_load : written_lsn p (e ∷ after_last (loads p) past) ≡ max (unwrap_or (lsn_written p e) 0) (page_lsn past p)
    since_load = greatest-with (lsn_written p) e (after_last (loads p) past)

    page_lsn-is : loads p e ≡ false → page_lsn (e ∷ past) p ≡ written_lsn p (e ∷ after_last (loads p) past)
    page_lsn-is no_load = ap (λ (b : Bool). greatest (filter_map (lsn_written p) (if b then [] else e ∷ after_last (loads p) past))) no_load

    go : (b : Bool) → writes p e ≡ b → (Rise (records p (within end past)) → unsaved past p ≡ true → page_lsn past p ≤ end → page_lsn past p ≡ written_lsn p (within end past))
        → (b || (not (settles (e ∷ past) p e) && since (writes p) (settles (e ∷ past) p) past)) ≡ true
        → page_lsn (e ∷ past) p ≡ written_lsn p (within end (e ∷ past))
    go true w ih u =
        let here = page_lsn-is (write-no_load c past e.client e.call e.reply (event-of c past e l.here) p w) in
        let is : lsn_written p e ≡ Some (lsn_of e.call) = ap (λ b. if b then Some (lsn_of e.call) else None) w in
        let y : written_lsn p (e ∷ after_last (loads p) past) ≡ max (lsn_of e.call) (page_lsn past p) = subst (λ o. written_lsn p (e ∷ after_last (loads p) past) ≡ max (unwrap_or o 0) (page_lsn past p)) is since_load in
        let reached : written_lsn p (e ∷ after_last (loads p) past) ≤ end = subst (λ n. n ≤ end) here le in
        let inside : lsn_of e.call ≤ end = omega arith in
        let older = page_lsn-less p end past (omega arith) in
        let kept : nat_le (lsn_of e.call) end ≡ true = le-leb (lsn_of e.call) end inside in
        let x : written_lsn p (within end (e ∷ past)) ≡ max (lsn_of e.call) (written_lsn p (within end past)) =
        ap (λ (k : Bool). written_lsn p (cond k (e ∷ within end past) (within end past))) kept
        ∙ subst (λ o. written_lsn p (e ∷ within end past) ≡ max (unwrap_or o 0) (written_lsn p (within end past))) is (greatest-with (lsn_written p) e (within end past)) in
        let rise : Rise (record_of e.call ∷ records p (within end past)) = subst Rise (records-write p end e past w inside) r in
        let top : written_lsn p (within end past) ≤ lsn_of e.call = rises (lsn_of e.call) (record-lsn e.call) rise.here in
        let equal : written_lsn p (e ∷ after_last (loads p) past) ≡ max (lsn_of e.call) (written_lsn p (within end past)) = omega arith in
        here ∙ equal ∙ sym x
      where
        rises : (n : ℕ) → (record_of e.call).lsn ≡ n → every (λ o. nat_lt o.lsn (record_of e.call).lsn) (records p (within end past)) ≡ true → written_lsn p (within end past) ≤ n
        rises n same h = elim (cases_lt 0 n) [
          | inl pos ↦ (let lt = lsn-below p n (within end past) (subst (λ k. every (λ o. nat_lt o.lsn k) (records p (within end past)) ≡ true) same h) pos in omega arith)
          | inr none ↦ (let z : (record_of e.call).lsn ≡ 0 = omega arith in let empty = below-zero (records p (within end past)) (record_of e.call).lsn z h in let k = lsn-none p (within end past) empty in omega arith)
        ]
    go false w ih u =
        let s = unsaved-ended past e p (and_parts (not (settles (e ∷ past) p e)) _ u).1 in
        let is : lsn_written p e ≡ None = ap (λ b. if b then Some (lsn_of e.call) else None) w in
        let there = (places c past l.before).dirty p s in
        let no_load : loads p e ≡ false = false_from_ne_true (loads p e) (λ h. (let away = load-away c past e.client e.call e.reply l.before (event-of c past e l.here) p h in cc)) in
        let here = page_lsn-is no_load in
        let y : written_lsn p (e ∷ after_last (loads p) past) ≡ max 0 (page_lsn past p) = subst (λ o. written_lsn p (e ∷ after_last (loads p) past) ≡ max (unwrap_or o 0) (page_lsn past p)) is since_load in
        let reached : written_lsn p (e ∷ after_last (loads p) past) ≤ end = subst (λ n. n ≤ end) here le in
        let same = ih (subst Rise (records-skip p end e past w) r) s (omega arith) in
        let equal : written_lsn p (e ∷ after_last (loads p) past) ≡ written_lsn p (within end past) = omega arith in
        here ∙ equal ∙ sym (lsn-skip p end e past is)

-- ---- redo by page LSN

pub every-append : {X : Type 0} (f : X → Bool) (xs ys : List X) → every f (xs ++ ys) ≡ true → (every f xs ≡ true) × (every f ys ≡ true)
every-append f [] ys h = (refl, h)
every-append f (x ∷ xs) ys h = let a = and_parts (f x) _ h in let b = every-append f xs ys a.1 in (and_from (f x) _ a.0 b.0, b.1)

pub every-filtered : {X : Type 0} (f g : X → Bool) (xs : List X) → every f xs ≡ true → every f (filter g xs) ≡ true
every-filtered f g [] h = refl
every-filtered f g (x ∷ xs) h = let a = and_parts (f x) (every f xs) h in go (g x) a.0 (every-filtered f g xs a.1)
  where
    go : (b : Bool) → f x ≡ true → every f (filter g xs) ≡ true → every f (cond b (x ∷ filter g xs) (filter g xs)) ≡ true
    go true i ih = and_from (f x) _ i ih
    go false i ih = ih

pub rise-front : (newer older : List LogRecord) → Rise (newer ++ older) → Rise newer
rise-front [] older h = tt
rise-front (r ∷ newer) older h = record { here = (every-append (λ o. nat_lt o.lsn r.lsn) newer older h.here).0; before = rise-front newer older h.before }

pub apply_all_newer-append : (apply : LogRecord → List ℕ → List ℕ) (newer older : List LogRecord) (x : Content) → apply_all_newer apply (newer ++ older) x ≡ apply_all_newer apply newer (apply_all_newer apply older x)
apply_all_newer-append apply [] older x = refl
apply_all_newer-append apply (r ∷ newer) older x = ap (apply_newer apply r) (apply_all_newer-append apply newer older x)

-- records that the page has
pub passed-over : (apply : LogRecord → List ℕ → List ℕ) (rs : List LogRecord) (x : Content) → every (λ r. nat_le r.lsn x.page_lsn) rs ≡ true → apply_all_newer apply rs x ≡ x
passed-over apply [] x h = refl
passed-over apply (r ∷ rs) x h =
    let a = and_parts (nat_le r.lsn x.page_lsn) _ h in
    let test = le-ltb x.page_lsn r.lsn (leb-true r.lsn x.page_lsn a.0) in
    ap (apply_newer apply r) (passed-over apply rs x a.1) ∙ ap (λ (b : Bool). if b then record { image = apply r x.image; page_lsn = r.lsn } else x) test

-- and records that it has not
pub record Newer (apply : LogRecord → List ℕ → List ℕ) (rs older : List LogRecord) (image : List ℕ) (x : Content) : Type 0 where
  pub image_is : (apply_all_newer apply rs x).image ≡ put (rs ++ older) image
  below : (n : ℕ) → x.page_lsn < n → every (λ o. nat_lt o.lsn n) rs ≡ true → (apply_all_newer apply rs x).page_lsn < n

pub all-newer : (apply : LogRecord → List ℕ → List ℕ) (rs older : List LogRecord) (image : List ℕ) (x : Content) → x.image ≡ put older image → Rise rs → every (λ r. nat_lt x.page_lsn r.lsn) rs ≡ true → AppliesAlike apply (rs ++ older) image
    → Newer apply rs older image x
all-newer apply [] older image x is rise h alike = record { image_is = is; below = λ n lt e. lt }
all-newer apply (r ∷ rs) older image x is rise h alike =
    let a = and_parts (nat_lt x.page_lsn r.lsn) _ h in
    let before = all-newer apply rs older image x is rise.before a.1 alike.before in
    let test : nat_lt (apply_all_newer apply rs x).page_lsn r.lsn ≡ true = lt-ltb (apply_all_newer apply rs x).page_lsn r.lsn (before.below r.lsn (ltb-true x.page_lsn r.lsn a.0) rise.here) in
    let applied : apply_newer apply r (apply_all_newer apply rs x) ≡ record { image = apply r (apply_all_newer apply rs x).image; page_lsn = r.lsn } =
    ap (λ (b : Bool). if b then record { image = apply r (apply_all_newer apply rs x).image; page_lsn = r.lsn } else apply_all_newer apply rs x) test in
    record {
      image_is = ap (λ (y : Content). y.image) applied ∙ ap (apply r) before.image_is ∙ alike.here;
      below = λ n lt e. subst (λ (y : Content). y.page_lsn < n) (sym applied) (ltb-true r.lsn n (and_parts (nat_lt r.lsn n) _ e).0);
    }

newer-above : (p least : ℕ) (earlier : Trail) (newer : List LogRecord) → Rise (newer ++ records p earlier) → every (λ r. nat_lt least r.lsn) newer ≡ true → every (λ r. nat_lt (written_lsn p earlier) r.lsn) newer ≡ true
newer-above p least earlier [] rise h = refl
newer-above p least earlier (r ∷ newer) rise h =
    let a = and_parts (nat_lt least r.lsn) _ h in
    let above = ltb-true least r.lsn a.0 in
    let older = (every-append (λ o. nat_lt o.lsn r.lsn) newer (records p earlier) rise.here).1 in
    let pos : 0 < r.lsn = omega arith in
    and_from _ _ (lt-ltb (written_lsn p earlier) r.lsn (lsn-below p r.lsn earlier older pos)) (newer-above p least earlier newer rise.before a.1)

-- The first record of a page that is used again makes it anew: over images of its size, on which
-- records were acted that lie within it
abbrev Anew : {size : ℕ} {first : ℕ → List ℕ} {end : ℕ} {past : Trail} {p : ℕ} → (LogRecord → List ℕ → List ℕ) → GaveBack size first end past p → Type 0
Anew apply (GaveBack.from_opening honest kept) = Unit {0}
Anew {size} apply (GaveBack.since_used_again u) =
    (rs : List LogRecord) (x : Content) → AllFit size rs → length x.image ≡ size → apply (record_of u.entry.call) (apply_all_newer apply rs x).image ≡ (record_of u.entry.call).bytes

tells-anew : {size : ℕ} {first : ℕ → List ℕ} {end : ℕ} {past : Trail} {p : ℕ} (apply : LogRecord → List ℕ → List ℕ) (g : GaveBack size first end past p) → TellsNew apply g → Anew apply g
tells-anew apply (from_opening honest kept) t = tt
tells-anew apply (since_used_again u) t = λ rs x f is. t (apply_all_newer apply rs x).image

length-newer : (size : ℕ) (rs : List LogRecord) (x : Content) → AllFit size rs → length x.image ≡ size → length (apply_all_newer patch rs x).image ≡ size
length-newer size [] x f is = is
length-newer size (r ∷ rs) x f is = go (nat_lt (apply_all_newer patch rs x).page_lsn r.lsn) (length-newer size rs x f.1 is)
  where
    go : (b : Bool) → length (apply_all_newer patch rs x).image ≡ size
        → length (if b then record { image = patch r (apply_all_newer patch rs x).image; page_lsn = r.lsn } else apply_all_newer patch rs x).image ≡ size
    go true ih = let g = f.0 in length-patched r.offset r.bytes (apply_all_newer patch rs x).image (omega arith) ∙ ih
    go false ih = ih

patch-anew : {size : ℕ} {first : ℕ → List ℕ} {end : ℕ} {past : Trail} {p : ℕ} (g : GaveBack size first end past p) → Anew patch g
patch-anew (from_opening honest kept) = tt
patch-anew {size} (since_used_again u) = λ rs x f is.
    let w = record_of u.entry.call in
    patched-whole w.offset w.bytes (apply_all_newer patch rs x).image u.offset (u.bytes ∙ sym (length-newer size rs x f is))

-- of the records that redo wants, those that the page has are passed over
stamped-newer : (apply : LogRecord → List ℕ → List ℕ) (log : List LogRecord) (start from p : ℕ) (x : Content) (unwritten newer older : List LogRecord)
    → records_from start log p ≡ unwritten ++ (newer ++ older) → start ≤ from → every (from_lsn from) unwritten ≡ true → every (from_lsn from) newer ≡ true
    → every (λ r. nat_le r.lsn x.page_lsn) older ≡ true → redo_by_lsn apply from log p x ≡ apply_all_newer apply (unwritten ++ newer) x
stamped-newer apply log start from p x unwritten newer older stands le u n below =
    let f = filter (from_lsn from) in
    let wants : records_from from log p ≡ (unwritten ++ newer) ++ f older = wanted-split log start from p unwritten newer older stands le u n ∙ sym (append_assoc unwritten newer (f older)) in
    let over : apply_all_newer apply (f older) x ≡ x = passed-over apply (f older) x (every-filtered (λ r. nat_le r.lsn x.page_lsn) (from_lsn from) older below) in
    ap (λ rs. apply_all_newer apply rs x) wants ∙ apply_all_newer-append apply (unwritten ++ newer) (f older) x ∙ ap (apply_all_newer apply (unwritten ++ newer)) over

stamped-older : (apply : LogRecord → List ℕ → List ℕ) (log : List LogRecord) (start from p : ℕ) (image : List ℕ) (x : Content) (unwritten newer older : List LogRecord)
    → records_from start log p ≡ unwritten ++ (newer ++ older) → start ≤ from → every (from_lsn from) unwritten ≡ true → every (from_lsn from) newer ≡ true
    → x.image ≡ put older image → every (λ r. nat_le r.lsn x.page_lsn) older ≡ true → Rise (unwritten ++ newer) → every (λ r. nat_lt x.page_lsn r.lsn) (unwritten ++ newer) ≡ true
    → AppliesAlike apply (records_from start log p) image → (redo_by_lsn apply from log p x).image ≡ redo start log p image
stamped-older apply log start from p image x unwritten newer older stands le u n is below rise above alike =
    let joined : records_from start log p ≡ (unwritten ++ newer) ++ older = stands ∙ sym (append_assoc unwritten newer older) in
    ap (λ (y : Content). y.image) (stamped-newer apply log start from p x unwritten newer older stands le u n below)
    ∙ (all-newer apply (unwritten ++ newer) older image x is rise above (subst (λ rs. AppliesAlike apply rs image) joined alike)).image_is
    ∙ ap (λ rs. put rs image) (sym joined)

-- ---- over an image that is older than the write by which the page was used again

pub newer-below : (apply : LogRecord → List ℕ → List ℕ) (rs : List LogRecord) (x : Content) (n : ℕ) → x.page_lsn < n → every (λ o. nat_lt o.lsn n) rs ≡ true → (apply_all_newer apply rs x).page_lsn < n
newer-below apply [] x n lt h = lt
newer-below apply (r ∷ rs) x n lt h =
    let a = and_parts (nat_lt r.lsn n) _ h in
    go (nat_lt (apply_all_newer apply rs x).page_lsn r.lsn) (ltb-true r.lsn n a.0) (newer-below apply rs x n lt a.1)
  where
    go : (b : Bool) → r.lsn < n → (apply_all_newer apply rs x).page_lsn < n
        → (if b then record { image = apply r (apply_all_newer apply rs x).image; page_lsn = r.lsn } else apply_all_newer apply rs x).page_lsn < n
    go true i ih = i
    go false i ih = ih

pub rise-above : (newer older : List LogRecord) (r : LogRecord) → Rise (newer ++ r ∷ older) → every (λ o. nat_lt r.lsn o.lsn) newer ≡ true
rise-above [] older r h = refl
rise-above (o ∷ newer) older r h = and_from _ _ (and_parts (nat_lt r.lsn o.lsn) _ (every-append (λ k. nat_lt k.lsn o.lsn) newer (r ∷ older) h.here).1).0 (rise-above newer older r h.before)

stamped-over : (apply : LogRecord → List ℕ → List ℕ) (log : List LogRecord) (start from size p : ℕ) (first : List ℕ) (x : Content) (unwritten newer older : List LogRecord) (w : LogRecord)
    → records_from start log p ≡ unwritten ++ (newer ++ w ∷ older) → start ≤ from → every (from_lsn from) unwritten ≡ true → every (from_lsn from) (newer ++ w ∷ []) ≡ true
    → w.offset ≡ 0 → length w.bytes ≡ size → AllFit size older → length first ≡ size → Rise (records_from start log p) → x.page_lsn < w.lsn
    → AppliesAlike apply (records_from start log p) first → ((rs : List LogRecord) → AllFit size rs → apply w (apply_all_newer apply rs x).image ≡ w.bytes)
    → (redo_by_lsn apply from log p x).image ≡ redo start log p first
stamped-over apply log start from size p first x unwritten newer older w stands le u n offset bytes fit opening rises lt alike new =
    let f = filter (from_lsn from) in
    let front = unwritten ++ newer in
    let joined : records_from start log p ≡ unwritten ++ ((newer ++ w ∷ []) ++ older) = stands ∙ ap (λ rs. unwritten ++ rs) (sym (append_assoc newer (w ∷ []) older)) in
    let wants : records_from from log p ≡ front ++ w ∷ f older =
    wanted-split log start from p unwritten (newer ++ w ∷ []) older joined le u n ∙ ap (λ rs. unwritten ++ rs) (append_assoc newer (w ∷ []) (f older)) ∙ sym (append_assoc unwritten newer (w ∷ f older)) in
    let all : records_from start log p ≡ front ++ w ∷ older = stands ∙ sym (append_assoc unwritten newer (w ∷ older)) in
    let rising : Rise (front ++ w ∷ older) = subst Rise all rises in
    let z = apply_all_newer apply (f older) x in
    let y : Content = record { image = apply w z.image; page_lsn = w.lsn } in
    let older_below = every-filtered (λ o. nat_lt o.lsn w.lsn) (from_lsn from) older (each_before _ front (w ∷ older) rising).here in
    let below = newer-below apply (f older) x w.lsn lt older_below in
    let applied : apply_newer apply w z ≡ y = ap (λ (b : Bool). if b then y else z) (lt-ltb z.page_lsn w.lsn below) in
    let has : y.image ≡ put (w ∷ older) first = new (f older) (filter-fit size (from_lsn from) older fit) ∙ sym (full-bytes w older size first offset bytes fit opening) in
    ap (λ (y : Content). y.image)
    (ap (λ rs. apply_all_newer apply rs x) wants ∙ apply_all_newer-append apply front (w ∷ f older) x ∙ ap (apply_all_newer apply front) applied)
    ∙ (all-newer apply front (w ∷ older) first y has (rise-front front (w ∷ older) rising) (rise-above front older w rising) (subst (λ rs. AppliesAlike apply rs first) all alike)).image_is
    ∙ ap (λ rs. put rs first) (sym all)

pub begin-unsaved : (c : Parameters) (past : Trail) (who : ℕ) (call : Call) (reply : Reply) → Event c past who call reply → (p : ℕ) → begins_of p reply ≡ true → unsaved past p ≡ true
begin-unsaved c past who _ _ (fix_write q v m w g) p h = subst (λ x. unsaved past x ≡ true) (eqb-true v p h) g.unsaved_page
begin-unsaved c past who _ _ (flush_write v r w g) p h = subst (λ x. unsaved past x ≡ true) (eqb-true v p h) g.unsaved_page
begin-unsaved c past who _ _ _ p h = cc

pub begin-logged : (c : Parameters) (past : Trail) (who : ℕ) (call : Call) (reply : Reply) → Event c past who call reply → (p : ℕ) → begins_of p reply ≡ true → page_lsn past p ≤ durable past
begin-logged c past who _ _ (fix_write q v m w g) p h = subst (λ x. page_lsn past x ≤ durable past) (eqb-true v p h) g.logged
begin-logged c past who _ _ (flush_write v r w g) p h = subst (λ x. page_lsn past x ≤ durable past) (eqb-true v p h) g.logged
begin-logged c past who _ _ _ p h = cc

recovers-anew : (apply : LogRecord → List ℕ → List ℕ) (c : Parameters) (first : ℕ → Content) (synced past : Trail) (log : List LogRecord) (start from end p : ℕ) (x : Content)
    → (s : Stopped c (λ q. (first q).image) synced past log start from end p) → Rise (records_from start log p) → every (λ r. nat_lt (first p).page_lsn r.lsn) (records_from start log p) ≡ true
    → AppliesAlike apply (records_from start log p) (first p).image → Anew apply s.gave_back → MayHaveStamped first synced past p x → (redo_by_lsn apply from log p x).image ≡ redo start log p (first p).image
recovers-anew apply c first synced past log start from end p x s rises firsts alike new may = go s.gave_back new may
  where
    m : ℕ → List ℕ
    m q = (first q).image

    u : List LogRecord
    u = s.has.unwritten

    -- an image that went out has the page LSN of the newest record before it
    whole : (out : WentOut synced past p) → records_from start log p ≡ u ++ (records p (within end out.later) ++ records p (within end out.earlier))
    whole out = s.has.stands ∙ ap (λ rs. u ++ rs) (split c m past out.later out.earlier out.entry p out.ticket out.image out.stands out.begins s.legal end)

    joined : (out : WentOut synced past p) → records_from start log p ≡ (u ++ records p (within end out.later)) ++ records p (within end out.earlier)
    joined out = whole out ∙ sym (append_assoc u (records p (within end out.later)) (records p (within end out.earlier)))

    lsn : (out : WentOut synced past p) → x ≡ record { image = out.image; page_lsn = page_lsn out.earlier p } → x.page_lsn ≡ written_lsn p (within end out.earlier)
    lsn out is =
        let there = legal-there c m past out.later out.earlier out.entry p out.ticket out.image out.stands out.begins s.legal in
        let begins : begins_of p out.entry.reply ≡ true = rw out.begins (eq-eqb p p refl) in
        let event = event-of c out.earlier out.entry there.here in
        let dirty = begin-unsaved c out.earlier out.entry.client out.entry.call out.entry.reply event p begins in
        let behind = begin-logged c out.earlier out.entry.client out.entry.call out.entry.reply event p begins in
        let grows = mark-grows c m past out.later out.earlier out.entry p out.ticket out.image out.stands out.begins s.legal in
        let mark = s.mark in
        let rising = each_before _ (u ++ records p (within end out.later)) (records p (within end out.earlier)) (subst Rise (joined out) rises) in
        ap (λ (y : Content). y.page_lsn) is ∙ lsn-top c p end out.earlier there.before rising dirty (omega arith)

    has : (out : WentOut synced past p) → x ≡ record { image = out.image; page_lsn = page_lsn out.earlier p } → HasRecords (m p) (records p (within end out.earlier)) out.image → some (discards p) out.later ≡ false
        → (redo_by_lsn apply from log p x).image ≡ redo start log p (first p).image
    has out is h kept =
        let newer = records p (within end out.later) in
        let older = records p (within end out.earlier) in
        let rising : Rise ((u ++ newer) ++ older) = subst Rise (joined out) rises in
        let point : AtLeast from (least_since (lsn_written p) (settles synced p) (out.later ++ out.entry ∷ out.earlier)) = subst (λ s. AtLeast from (least_since (lsn_written p) (settles synced p) s)) out.stands s.point in
        let all_newer = every-within (from_lsn from) p end out.later (later-from from p (settles synced p) out.later (out.entry ∷ out.earlier) (none-settled synced p out.later kept out.last) point) in
        let same = lsn out is in
        let below = records-below p x.page_lsn (within end out.earlier) (omega arith) in
        let firsts_newer = (every-append (λ r. nat_lt (first p).page_lsn r.lsn) (u ++ newer) older (subst (λ rs. every (λ r. nat_lt (first p).page_lsn r.lsn) rs ≡ true) (joined out) firsts)).0 in
        let above = subst (λ n. every (λ r. nat_lt n r.lsn) (u ++ newer) ≡ true) (sym same) (newer-above p (first p).page_lsn (within end out.earlier) (u ++ newer) rising firsts_newer) in
        stamped-older apply log start from p (first p).image x u newer older (whole out) s.from_start s.has.unwritten_from all_newer (ap (λ (y : Content). y.image) is ∙ h.image_is) below (rise-front (u ++ newer) older rising) above alike

    -- of the write by which the page was used again
    again : (a : UsedAgain c.size m end past p) → records_from start log p ≡ u ++ (records p (within end a.later) ++ record_of a.entry.call ∷ records p (within end a.earlier))
    again a = s.has.stands ∙ ap (λ rs. u ++ rs) (again-cut c m end past p s.legal a)

    first-below : (a : UsedAgain c.size m end past p) → (first p).page_lsn < (record_of a.entry.call).lsn
    first-below a =
        let newer = records p (within end a.later) in
        let w = record_of a.entry.call in
        let rest = w ∷ records p (within end a.earlier) in
        let tail = (every-append (λ r. nat_lt (first p).page_lsn r.lsn) u (newer ++ rest) (subst (λ rs. every (λ r. nat_lt (first p).page_lsn r.lsn) rs ≡ true) (again a) firsts)).1 in
        ltb-true (first p).page_lsn w.lsn (and_parts (nat_lt (first p).page_lsn w.lsn) _ (every-append (λ r. nat_lt (first p).page_lsn r.lsn) newer rest tail).1).0

    older-below : (a : UsedAgain c.size m end past p) (out : WentOut synced past p) → x ≡ record { image = out.image; page_lsn = page_lsn out.earlier p }
        → Overwritten c.size synced p a.later a.earlier out.earlier out.entry out.image → x.page_lsn < (record_of a.entry.call).lsn
    older-below a out is o =
        let newer = records p (within end a.later) in
        let w = record_of a.entry.call in
        let older = records p (within end a.earlier) in
        let below : every (λ r. nat_lt r.lsn w.lsn) older ≡ true = (each_before _ newer (w ∷ older) (each_before _ u (newer ++ w ∷ older) (subst Rise (again a) rises))).here in
        let cut : older ≡ records p (within end o.between) ++ records p (within end out.earlier) =
        ap (λ s. records p (within end s)) o.rest ∙ records-append p end o.between (out.entry ∷ out.earlier)
        ∙ ap (λ rs. records p (within end o.between) ++ rs) (records-skip p end out.entry out.earlier (no-write c m past out.later out.earlier out.entry p out.ticket out.image out.stands out.begins s.legal)) in
        let sent = (every-append (λ r. nat_lt r.lsn w.lsn) (records p (within end o.between)) (records p (within end out.earlier)) (subst (λ rs. every (λ r. nat_lt r.lsn w.lsn) rs ≡ true) cut below)).1 in
        let positive = first-below a in
        let same = lsn out is in
        let lt = lsn-below p w.lsn (within end out.earlier) sent (omega arith) in
        omega arith

    over : (a : UsedAgain c.size m end past p) → ((rs : List LogRecord) → AllFit c.size rs → apply (record_of a.entry.call) (apply_all_newer apply rs x).image ≡ (record_of a.entry.call).bytes)
        → some (λ d. began_saving synced p d.reply) a.later ≡ false → x.page_lsn < (record_of a.entry.call).lsn → (redo_by_lsn apply from log p x).image ≡ redo start log p (first p).image
    over a new last lt =
        stamped-over apply log start from c.size p (first p).image x u (records p (within end a.later)) (records p (within end a.earlier)) (record_of a.entry.call)
        (again a) s.from_start s.has.unwritten_from (again-wanted c m end past p s.legal a synced from s.point last) a.offset a.bytes (again-fit c m end past p s.legal a) a.opening rises lt alike new

    go : (g : GaveBack c.size m end past p) → Anew apply g → MayHaveStamped first synced past p x → (redo_by_lsn apply from log p x).image ≡ redo start log p (first p).image
    go (from_opening honest kept) new (inl (out, is)) = has out is (has-logged c m synced past p out s.legal honest kept end s.mark) (none-front (discards p) past out.later (out.entry ∷ out.earlier) out.stands kept)
    go (from_opening honest kept) new (inr (none, is)) =
        let newer = records p (within end past) in
        let stands : records_from start log p ≡ u ++ (newer ++ []) = s.has.stands ∙ ap (λ rs. u ++ rs) (sym (append-nil newer)) in
        let point : AtLeast from (least_since (lsn_written p) (settles synced p) (past ++ [])) = subst (λ s. AtLeast from (least_since (lsn_written p) (settles synced p) s)) (sym (append-nil past)) s.point in
        stamped-older apply log start from p (first p).image x u newer [] stands s.from_start s.has.unwritten_from
        (every-within (from_lsn from) p end past (later-from from p (settles synced p) past [] (none-settled synced p past kept none) point))
        (ap (λ (y : Content). y.image) is) refl (subst Rise s.has.stands rises)
        (subst (λ (y : Content). every (λ r. nat_lt y.page_lsn r.lsn) (u ++ newer) ≡ true) (sym is) (subst (λ rs. every (λ r. nat_lt (first p).page_lsn r.lsn) rs ≡ true) s.has.stands firsts))
        alike
    go (since_used_again a) new (inl (out, is)) = elim (has-again c m synced end past p out s.legal s.mark a) [
      | inl h ↦ has out is h.has h.kept
      | inr o ↦ over a (λ rs f. new rs x f (ap (λ (y : Content). length y.image) is ∙ o.image_size)) o.last (older-below a out is o)
    ]
    go (since_used_again a) new (inr (none, is)) =
        over a (λ rs f. new rs x f (ap (λ (y : Content). length y.image) is ∙ a.opening)) (none-front (λ d. began_saving synced p d.reply) past a.later (a.entry ∷ a.earlier) a.stands none)
        (subst (λ (y : Content). y.page_lsn < (record_of a.entry.call).lsn) (sym is) (first-below a))

pub recovers-by_lsn : (apply : LogRecord → List ℕ → List ℕ) (c : Parameters) (first : ℕ → Content) (synced past : Trail) (log : List LogRecord) (start from end p : ℕ) (x : Content)
    → (s : Stopped c (λ q. (first q).image) synced past log start from end p) → Rise (records_from start log p) → every (λ r. nat_lt (first p).page_lsn r.lsn) (records_from start log p) ≡ true
    → AppliesAlike apply (records_from start log p) (first p).image → TellsNew apply s.gave_back → MayHaveStamped first synced past p x → (redo_by_lsn apply from log p x).image ≡ redo start log p (first p).image
recovers-by_lsn apply c first synced past log start from end p x s rises firsts alike new = recovers-anew apply c first synced past log start from end p x s rises firsts alike (tells-anew apply s.gave_back new)

-- to put bytes in is to do what the write did
patch-alike : (rs : List LogRecord) (image : List ℕ) → AppliesAlike patch rs image
patch-alike [] image = tt
patch-alike (r ∷ rs) image = record { here = refl; before = patch-alike rs image }

pub recovers-bytes : (c : Parameters) (first : ℕ → Content) (synced past : Trail) (log : List LogRecord) (start from end p : ℕ) (x : Content)
    → Stopped c (λ q. (first q).image) synced past log start from end p → Rise (records_from start log p) → every (λ r. nat_lt (first p).page_lsn r.lsn) (records_from start log p) ≡ true
    → MayHaveStamped first synced past p x → (redo_by_lsn patch from log p x).image ≡ redo start log p (first p).image
recovers-bytes c first synced past log start from end p x s rises firsts = recovers-anew patch c first synced past log start from end p x s rises firsts (patch-alike (records_from start log p) (first p).image) (patch-anew s.gave_back)

-- ---- redo by page LSN that is cut off

has-all : (apply : LogRecord → List ℕ → List ℕ) (rs : List LogRecord) (x : Content) (n : ℕ) → (apply_all_newer apply rs x).page_lsn ≤ n → every (λ r. nat_le r.lsn n) rs ≡ true
has-all apply [] x n le = refl
has-all apply (r ∷ rs) x n le =
    let y = apply_all_newer apply rs x in
    let h = go (nat_lt y.page_lsn r.lsn) refl le in
    and_from _ _ (le-leb r.lsn n h.0) (has-all apply rs x n h.1)
  where
    go : (b : Bool) → nat_lt (apply_all_newer apply rs x).page_lsn r.lsn ≡ b
        → (if b then record { image = apply r (apply_all_newer apply rs x).image; page_lsn = r.lsn } else apply_all_newer apply rs x).page_lsn ≤ n
        → (r.lsn ≤ n) × ((apply_all_newer apply rs x).page_lsn ≤ n)
    go true i k = let lt = ltb-true (apply_all_newer apply rs x).page_lsn r.lsn i in (k, omega arith)
    go false i k = let ge = ltb-false (apply_all_newer apply rs x).page_lsn r.lsn i in (omega arith, k)

pub by_lsn-cut_off : (apply : LogRecord → List ℕ → List ℕ) (newer older : List LogRecord) (from p : ℕ) (x : Content)
    → redo_by_lsn apply from (newer ++ older) p (redo_by_lsn apply from older p x) ≡ redo_by_lsn apply from (newer ++ older) p x
by_lsn-cut_off apply newer older from p x =
    let a = records_from from newer p in
    let b = records_from from older p in
    let y = apply_all_newer apply b x in
    let cut : records_from from (newer ++ older) p ≡ a ++ b = filter-append (wanted from p) newer older in
    let over : apply_all_newer apply b y ≡ y = passed-over apply b y (has-all apply b x y.page_lsn (omega arith)) in
    ap (λ rs. apply_all_newer apply rs y) cut ∙ apply_all_newer-append apply a b y ∙ ap (apply_all_newer apply a) over
    ∙ sym (apply_all_newer-append apply a b x) ∙ ap (λ rs. apply_all_newer apply rs x) (sym cut)

-- ---- what redo by page LSN is

every-less : (m n : ℕ) (rs : List LogRecord) → m ≤ n → every (λ o. nat_lt o.lsn m) rs ≡ true → every (λ o. nat_le o.lsn n) rs ≡ true
every-less m n [] le h = refl
every-less m n (r ∷ rs) le h =
    let a = and_parts (nat_lt r.lsn m) _ h in
    let lt = ltb-true r.lsn m a.0 in
    and_from _ _ (le-leb r.lsn n (omega arith)) (every-less m n rs le a.1)

record NewerOf (rs : List LogRecord) (x : Content) : Type 0 where
  image : (apply_all_newer patch rs x).image ≡ put (filter (from_lsn (x.page_lsn + 1)) rs) x.image
  below : (n : ℕ) → x.page_lsn < n → every (λ o. nat_lt o.lsn n) rs ≡ true → (apply_all_newer patch rs x).page_lsn < n

newer-of : (rs : List LogRecord) (x : Content) → Rise rs → NewerOf rs x
newer-of [] x rise = record { image = refl; below = λ n lt e. lt }
newer-of (r ∷ rs) x rise = go (nat_lt x.page_lsn r.lsn) refl (newer-of rs x rise.before)
  where
    f : List LogRecord → List LogRecord
    f = filter (from_lsn (x.page_lsn + 1))

    go : (b : Bool) → nat_lt x.page_lsn r.lsn ≡ b → NewerOf rs x → NewerOf (r ∷ rs) x
    go true i older =
        let above = ltb-true x.page_lsn r.lsn i in
        let kept : from_lsn (x.page_lsn + 1) r ≡ true = le-leb (x.page_lsn + 1) r.lsn (omega arith) in
        let test : nat_lt (apply_all_newer patch rs x).page_lsn r.lsn ≡ true = lt-ltb (apply_all_newer patch rs x).page_lsn r.lsn (older.below r.lsn above rise.here) in
        let is : apply_newer patch r (apply_all_newer patch rs x) ≡ record { image = patched r.offset r.bytes (apply_all_newer patch rs x).image; page_lsn = r.lsn } =
        ap (λ (b : Bool). if b then record { image = patched r.offset r.bytes (apply_all_newer patch rs x).image; page_lsn = r.lsn } else apply_all_newer patch rs x) test in
        record {
          image = ap (λ (y : Content). y.image) is ∙ ap (patched r.offset r.bytes) older.image
              ∙ ap (λ (b : Bool). put (cond b (r ∷ filter (from_lsn (x.page_lsn + 1)) rs) (filter (from_lsn (x.page_lsn + 1)) rs)) x.image) (sym kept);
          below = λ n lt e. subst (λ (y : Content). y.page_lsn < n) (sym is) (ltb-true r.lsn n (and_parts (nat_lt r.lsn n) _ e).0);
        }
    go false i older =
        let le = ltb-false x.page_lsn r.lsn i in
        let all : every (λ o. nat_le o.lsn x.page_lsn) (r ∷ rs) ≡ true = and_from _ _ (le-leb r.lsn x.page_lsn le) (every-less r.lsn x.page_lsn rs le rise.here) in
        let is : apply_all_newer patch (r ∷ rs) x ≡ x = passed-over patch (r ∷ rs) x all in
        record {
          image = ap (λ (y : Content). y.image) is ∙ ap (λ ys. put ys x.image) (sym (none-older (x.page_lsn + 1) x.page_lsn (r ∷ rs) (omega arith) all));
          below = λ n lt e. subst (λ (y : Content). y.page_lsn < n) (sym is) lt;
        }

max-test : (a b n : ℕ) → nat_le (max a b) n ≡ (nat_le a n && nat_le b n)
max-test a b n = go (nat_le a n) refl (nat_le b n) refl
  where
    go : (s : Bool) → nat_le a n ≡ s → (t : Bool) → nat_le b n ≡ t → nat_le (max a b) n ≡ (s && t)
    go true i true j = let x = leb-true a n i in let y = leb-true b n j in le-leb (max a b) n (omega arith)
    go true i false j = let y = leb-false b n j in lt-leb (max a b) n (omega arith)
    go false i t j = let x = leb-false a n i in lt-leb (max a b) n (omega arith)

both-wanted : (from k p : ℕ) (log : List LogRecord) → filter (from_lsn k) (records_from from log p) ≡ records_from (max from k) log p
both-wanted from k p [] = refl
both-wanted from k p (r ∷ log) = go (r.page == p) (nat_le from r.lsn) (nat_le k r.lsn) refl (nat_le (max from k) r.lsn) (max-test from k r.lsn) (both-wanted from k p log)
  where
    go : (b s t : Bool) → nat_le k r.lsn ≡ t → (m : Bool) → m ≡ (s && t) → filter (from_lsn k) (records_from from log p) ≡ records_from (max from k) log p
        → filter (from_lsn k) (cond (b && s) (r ∷ records_from from log p) (records_from from log p)) ≡ cond (b && m) (r ∷ records_from (max from k) log p) (records_from (max from k) log p)
    go false s t j m i ih = ih
    go true true true j true i ih = rw j (ap (λ ys. r ∷ ys) ih)
    go true true true j false i ih = cc
    go true true false j true i ih = cc
    go true true false j false i ih = rw j ih
    go true false t j true i ih = cc
    go true false t j false i ih = ih

-- it is redo from the LSN after that of the page, or from the redo point where that is later
pub by_lsn-is : (log : List LogRecord) (from p : ℕ) (x : Content) → Rise (records_from from log p) → (redo_by_lsn patch from log p x).image ≡ redo (max from (x.page_lsn + 1)) log p x.image
by_lsn-is log from p x rise = (newer-of (records_from from log p) x rise).image ∙ ap (λ rs. put rs x.image) (both-wanted from (x.page_lsn + 1) p log)
