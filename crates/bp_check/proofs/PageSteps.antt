-- What a lawful entry does to what is asked of each page.
use Rattle.std.proofs.Common.{◌≡◌, ◌≢◌, ℕ, zero, suc, ◌<◌, max, unwrap_or, Bool, true, false, not, ◌&&◌, ◌||◌, ◌==◌, List, [], ◌∷◌, All, length, set, Some, refl, sym, ap, subst, ◌∙◌, arith}
use Rattle.std.specs.Prelude.{if◌then◌else◌, filter_map}
use Rattle.std.proofs.lemmas.Bool.{eqb-true, eqb-false, ne_eqb, ltb-true, and_parts, or_parts, or_right, not-true, false_from_ne_true}
use Rattle.std.proofs.lemmas.List.{get_or-set_same, get_or-set_other}
use Rattle.std.proofs.lemmas.List.Elements.{All-head, All-tail}
use Rattle.bp_trail.specs.declared.entries.Entry.{Entry}
use Rattle.bp_trail.specs.declared.entries.Call.{Call}
use Rattle.bp_trail.specs.declared.entries.Call.TheVariants.{Fix, WriteEnd, Flush}
use Rattle.bp_trail.specs.declared.entries.Reply.{Reply}
use Rattle.bp_trail.specs.declared.entries.Reply.TheVariants.{WriteFirst, Cleaned, StillDirty}
use Rattle.bp_trail.specs.Parameters.{Parameters}
use Rattle.bp_trail.specs.Trail.{Trail}
use Rattle.bp_trail.specs.Lists.{some, greatest, after_last}
use Rattle.bp_trail.specs.Event.{grant, page_of, begins, begins_of, discards, ends_well, loads, writes, lsn_written, is_away_reply, is_discard, is_fixed_reply, is_write}
use Rattle.bp_trail.specs.Passes.{tickets, passes_out, reads_out, writes_out}
use Rattle.bp_trail.specs.Places.{resident}
use Rattle.bp_trail.specs.Saved.{unsaved, page_lsn, written_since}
use Rattle.bp_trail.specs.Images.{held}
use Rattle.bp_trail.specs.Legal.{is_out, allowed, IsLawful, Legal}
use Rattle.bp_trail.proofs.Lists.{greatest-with}
use Rattle.bp_trail.proofs.Victim.{victim-is}
use Rattle.bp_trail.proofs.Places.{places, out-of_page}
use Rattle.bp_trail.proofs.Ranges.{ranges, no_end, stays}
use Rattle.bp_trail.proofs.Flights.{flights, in_flight, in-flight-of, unsaved-ended-well, since-other, begin-writes}
use Rattle.bp_trail.proofs.Events.{Event, event-of}
use Rattle.bp_trail.proofs.Events.Event.{ticked, marked, fix_hit, fix_load, fix_replace, fix_write, fix_busy, fix_none, fix_log, flush_busy, flush_absent, flush_clean, flush_log, flush_write, discard_busy, discard_absent, discard_pinned, discarded, read_good, read_bad, read_wrong, write_bad, write_clean, write_dirty, page_read, page_written, unfixed, purged}
use Rattle.bp_check.specs.Pages.{PageSeen, blank, seen_at, rewritten, seen_of, saves, begun, unsaved_after, seen_after, touches}

abbrev entry : ℕ → Call → Reply → Entry
entry who call reply = record { client = who; call = call; reply = reply }

and-false : (b : Bool) → (b && false) ≡ false
and-false true = refl
and-false false = refl

or-false : (b : Bool) → (b || false) ≡ b
or-false true = refl
or-false false = refl

or-true : (b : Bool) → (b || false) ≡ true → b ≡ true
or-true b h = sym (or-false b) ∙ h

-- ---- tables by pages

pub same-at : (pages : List PageSeen) (at : ℕ) (s : PageSeen) → at < length pages → seen_at (set pages at s) at ≡ s
same-at pages at s below = get_or-set_same pages at s blank below

pub other-at : (pages : List PageSeen) (at p : ℕ) (s : PageSeen) → p ≢ at → seen_at (set pages at s) p ≡ seen_at pages p
other-at pages at p s apart = get_or-set_other pages at p s blank apart

pub blank-at : (pages : List PageSeen) → All (λ s. s ≡ blank) pages → (p : ℕ) → seen_at pages p ≡ blank
blank-at [] all p = refl
blank-at (s ∷ pages) all zero = All-head (λ s. s ≡ blank) s pages all
blank-at (s ∷ pages) all (suc p) = blank-at pages (All-tail (λ s. s ≡ blank) s pages all) p

-- ---- of the write-out in flight, what was written since its begin is what was written since the newest begin

written-is : (c : Parameters) (t p : ℕ) (past : Trail) → Legal c past → in_flight t p past ≡ true → written_since past t p ≡ rewritten past p
written-is c t p [] l f = cc
written-is c t p (e ∷ past) l f = go (begins t e.reply) refl f (written-is c t p past l.before)
  where
    go : (b : Bool) → begins t e.reply ≡ b → (if b then begins_of p e.reply && not (some (λ d. begins t d.reply) past) else not (begins_of p e.reply) && (not (discards p e) && in_flight t p past)) ≡ true
        → (in_flight t p past ≡ true → written_since past t p ≡ rewritten past p)
        → some (writes p) (if b then [] else e ∷ after_last (λ e. begins t e.reply) past) ≡ (writes p e || (not (discards p e || begins_of p e.reply) && rewritten past p))
    go true i k ih = let j = (and_parts (begins_of p e.reply) _ k).0 in rw (begin-writes c past e.client e.call e.reply (event-of c past e l.here) t p i, or_right (discards p e) (begins_of p e.reply) j) refl
    go false i k ih =
        let j = and_parts (not (begins_of p e.reply)) _ k in
        let d = and_parts (not (discards p e)) _ j.1 in
        rw (not-true (discards p e) d.0, not-true (begins_of p e.reply) j.0) (ap (λ b. writes p e || b) (ih d.1))

pub written-since : (c : Parameters) (past : Trail) (who t p : ℕ) → Legal c past → is_out (grant who p t) (writes_out past) ≡ true → written_since past t p ≡ rewritten past p
written-since c past who t p l o = written-is c t p past l (in-flight-of (λ t p. in_flight t p past) who p t (writes_out past) (flights c past l).begun o)

-- ---- one entry more

module _ (c : Parameters) (past : Trail) (who : ℕ) (l : Legal c past) where
  begun-same : (call : Call) (v p : ℕ) → (not ((v == p) && some (λ e. ends_well (tickets past) e.call) past) && unsaved past p) ≡ unsaved past p
  begun-same call v p = ap (λ b. not b && unsaved past p) (ap (λ b. (v == p) && b) (no_end c past l (tickets past) (omega arith)) ∙ and-false (v == p))

  unsaved-with : (call : Call) (reply : Reply) → Event c past who call reply → (p : ℕ) → unsaved (entry who call reply ∷ past) p ≡ unsaved_after p (entry who call reply) (seen_of past p)
  unsaved-with _ _ (fix_write q v m w g) p = begun-same (Fix q) v p
  unsaved-with _ _ (flush_write q r w g) p = begun-same (Flush q) q p
  unsaved-with _ _ (write_clean t q o w) p = go (q == p) refl
    where
      go : (b : Bool) → (q == p) ≡ b → unsaved (entry who (WriteEnd t q true) Cleaned ∷ past) p ≡ (if b then rewritten past p else unsaved past p)
      go true i = subst (λ x. unsaved (entry who (WriteEnd t q true) Cleaned ∷ past) x ≡ rewritten past x) (eqb-true q p i) (unsaved-ended-well c past who t q Cleaned l o ∙ written-since c past who t q l o)
      go false i = since-other c t q p past i past who Cleaned (in-flight-of (λ t p. in_flight t p past) who q t (writes_out past) (flights c past l).begun o)
  unsaved-with _ _ (write_dirty t q o w) p = go (q == p) refl
    where
      go : (b : Bool) → (q == p) ≡ b → unsaved (entry who (WriteEnd t q true) StillDirty ∷ past) p ≡ (if b then rewritten past p else unsaved past p)
      go true i = subst (λ x. unsaved (entry who (WriteEnd t q true) StillDirty ∷ past) x ≡ rewritten past x) (eqb-true q p i) (unsaved-ended-well c past who t q StillDirty l o ∙ written-since c past who t q l o)
      go false i = since-other c t q p past i past who StillDirty (in-flight-of (λ t p. in_flight t p past) who q t (writes_out past) (flights c past l).begun o)
  unsaved-with _ _ (discard_absent q x) p = ap (λ b. not b && unsaved past p) (or-false (q == p))
  unsaved-with _ _ (discarded q x) p = ap (λ b. not b && unsaved past p) (or-false (q == p))
  unsaved-with _ _ (write_bad t q o) p = refl
  unsaved-with _ _ (fix_load q m f) p = refl
  unsaved-with _ _ (fix_replace q v m w u) p = refl
  unsaved-with _ _ (fix_hit q x r) p = refl
  unsaved-with _ _ (read_good t q image o) p = refl
  unsaved-with _ _ (read_bad t q o) p = refl
  unsaved-with _ _ (read_wrong t q o) p = refl
  unsaved-with _ _ (unfixed n q o) p = refl
  unsaved-with _ _ (ticked n) p = refl
  unsaved-with _ _ (marked lsn) p = refl
  unsaved-with _ _ (fix_busy q x) p = refl
  unsaved-with _ _ (fix_none q m w) p = refl
  unsaved-with _ _ (fix_log q v m w) p = refl
  unsaved-with _ _ (flush_busy q) p = refl
  unsaved-with _ _ (flush_absent q r) p = refl
  unsaved-with _ _ (flush_clean q r u) p = refl
  unsaved-with _ _ (flush_log q) p = refl
  unsaved-with _ _ (discard_busy q) p = refl
  unsaved-with _ _ (discard_pinned q) p = refl
  unsaved-with _ _ (page_read n q o) p = refl
  unsaved-with _ _ (page_written n q offset bytes lsn o) p = refl
  unsaved-with _ _ purged p = refl

  -- what an entry may change is a page of the file
  here : (p q : ℕ) → resident past q ≡ true → ((q == p) || false) ≡ true → p < c.pages
  here p q r t = subst (λ x. x < c.pages) (eqb-true q p (or-true (q == p) t)) (ltb-true q c.pages ((ranges c past l).pages q r))

  touched : (call : Call) (reply : Reply) → Event c past who call reply → allowed c past who call ≡ true → (p : ℕ) → touches p (entry who call reply) ≡ true → p < c.pages
  touched _ _ (fix_write q v m w g) a p t = here p v (and_parts (resident past v) _ (victim-is c past v w).eligible).0 (or-false (v == p) ∙ t)
  touched _ _ (flush_write q r w g) a p t = here p q r (or-false (q == p) ∙ t)
  touched _ _ (write_clean s q o w) a p t = here p q (stays c past l q (out-of_page who q s (writes_out past) o)) t
  touched _ _ (write_dirty s q o w) a p t = here p q (stays c past l q (out-of_page who q s (writes_out past) o)) t
  touched _ _ (discard_absent q x) a p t = subst (λ x. x < c.pages) (eqb-true q p (or-true (q == p) t)) (ltb-true q c.pages a)
  touched _ _ (discarded q x) a p t = subst (λ x. x < c.pages) (eqb-true q p (or-true (q == p) t)) (ltb-true q c.pages a)
  touched _ _ (read_good s q image o) a p t = subst (λ x. x < c.pages) (eqb-true q p (or-true (q == p) t)) (ltb-true q c.pages ((ranges c past l).reads q (out-of_page who q s (reads_out past) o)))
  touched _ _ (page_written n q offset bytes lsn o) a p t = here p q ((places c past l).pinned q (out-of_page who q n (passes_out past) o)) t
  touched _ _ _ a p t = cc

lsn-with : (past : Trail) (e : Entry) (p : ℕ) → page_lsn (e ∷ past) p ≡ (if loads p e then 0 else max (unwrap_or (lsn_written p e) 0) (page_lsn past p))
lsn-with past e p = go (loads p e)
  where
    go : (b : Bool) → greatest (filter_map (lsn_written p) (if b then [] else e ∷ after_last (loads p) past)) ≡ (if b then 0 else max (unwrap_or (lsn_written p e) 0) (page_lsn past p))
    go true = refl
    go false = greatest-with (lsn_written p) e (after_last (loads p) past)

pub seen-with : (c : Parameters) (past : Trail) (e : Entry) → Legal c past → IsLawful c past e → (p : ℕ) → seen_of (e ∷ past) p ≡ seen_after p e (seen_of past p)
seen-with c past e l lawful p =
    let image = held (e ∷ past) p in
    let written_again = rewritten (e ∷ past) p in
    ap (λ n. record { image = image; page_lsn = n; is_unsaved = unsaved (e ∷ past) p; is_rewritten = written_again }) (lsn-with past e p)
    ∙ ap (λ u. record { image = image; page_lsn = (if loads p e then 0 else max (unwrap_or (lsn_written p e) 0) (page_lsn past p)); is_unsaved = u; is_rewritten = written_again })
    (unsaved-with c past e.client l e.call e.reply (event-of c past e lawful) p)

pub touched-below : (c : Parameters) (past : Trail) (e : Entry) → Legal c past → IsLawful c past e → (p : ℕ) → touches p e ≡ true → p < c.pages
touched-below c past e l lawful = touched c past e.client l e.call e.reply (event-of c past e lawful) lawful.allowed

-- ---- what an entry leaves as it is

max-zero : (n : ℕ) → max 0 n ≡ n
max-zero n = omega arith

pub untouched : (p : ℕ) (e : Entry) (s : PageSeen) → touches p e ≡ false → seen_after p e s ≡ s
untouched p e s h =
    let l = or_parts (loads p e) _ h in
    let w = or_parts (writes p e) _ l.1 in
    let d = or_parts (discards p e) _ w.1 in
    let o = or_parts (saves p e.call) _ d.1 in
    rw (l.0, w.0, d.0, o.0, o.1) (ap (λ n. record { image = s.image; page_lsn = n; is_unsaved = s.is_unsaved; is_rewritten = s.is_rewritten }) (max-zero s.page_lsn))

saves-other : (p : ℕ) (call : Call) → (page_of call == p) ≡ false → saves p call ≡ false
saves-other p (WriteEnd t q good) i = ap (λ b. good && b) i ∙ and-false good
saves-other p _ i = refl

begins-other : (p : ℕ) (reply : Reply) → ((v : ℕ) → begun reply ≡ Some v → p ≢ v) → begins_of p reply ≡ false
begins-other p (WriteFirst t v image) other = ne_eqb v p (λ i. other v refl (sym i))
begins-other p _ other = refl

pub untouched-elsewhere : (p page : ℕ) (e : Entry) → page ≡ page_of e.call → p ≢ page → ((v : ℕ) → begun e.reply ≡ Some v → p ≢ v) → touches p e ≡ false
untouched-elsewhere p page e is apart other =
    let n : (page_of e.call == p) ≡ false = ne_eqb (page_of e.call) p (λ i. apart (sym (is ∙ i))) in
    rw (saves-other p e.call n, begins-other p e.reply other, n, and-false (is_discard e.call), and-false (is_fixed_reply e.reply), and-false (is_write e.call), and-false (is_away_reply e.reply)) refl

pub not-there : (p n : ℕ) (e : Entry) → (touches p e ≡ true → p < n) → (p < n → ⊥) → touches p e ≡ false
not-there p n e there beyond = false_from_ne_true (touches p e) (λ t. beyond (there t))

-- ---- an entry is noted of the page that its call names, and of that of which a write-out begins

module _ (e : Entry) (page : ℕ) (old first : List PageSeen) (is : page ≡ page_of e.call) (own : seen_at first page ≡ seen_after page e (seen_at old page)) (others : (q : ℕ) → q ≢ page → seen_at first q ≡ seen_at old q) where
  pub noted-one : ((v : ℕ) → begun e.reply ≡ Some v → v ≡ page) → (p : ℕ) → seen_at first p ≡ seen_after p e (seen_at old p)
  noted-one only p = go (p == page) refl
    where
      go : (b : Bool) → (p == page) ≡ b → seen_at first p ≡ seen_after p e (seen_at old p)
      go true i = subst (λ x. seen_at first x ≡ seen_after x e (seen_at old x)) (sym (eqb-true p page i)) own
      go false i =
          let apart = eqb-false p page i in
          others p apart ∙ sym (untouched p e (seen_at old p) (untouched-elsewhere p page e is apart (λ v b same. apart (same ∙ only v b))))

  pub noted-two : (w : ℕ) (new : List PageSeen) → begun e.reply ≡ Some w → w ≢ page → seen_at new w ≡ seen_after w e (seen_at first w) → ((q : ℕ) → q ≢ w → seen_at new q ≡ seen_at first q)
      → (p : ℕ) → seen_at new p ≡ seen_after p e (seen_at old p)
  noted-two w new out apart own_too others_too p = go (p == page) refl (p == w) refl
    where
      one-page : (v : ℕ) → Some v ≡ Some w → v ≡ w
      one-page v k = cc

      go : (b : Bool) → (p == page) ≡ b → (d : Bool) → (p == w) ≡ d → seen_at new p ≡ seen_after p e (seen_at old p)
      go true i d j = subst (λ x. seen_at new x ≡ seen_after x e (seen_at old x)) (sym (eqb-true p page i)) (others_too page (λ k. apart (sym k)) ∙ own)
      go false i true j = subst (λ x. seen_at new x ≡ seen_after x e (seen_at old x)) (sym (eqb-true p w j)) (own_too ∙ ap (seen_after w e) (others w apart))
      go false i false j =
          let a = eqb-false p page i in
          let b = eqb-false p w j in
          others_too p b ∙ others p a ∙ sym (untouched p e (seen_at old p) (untouched-elsewhere p page e is a (λ v begins same. b (same ∙ one-page v (sym begins ∙ out)))))
