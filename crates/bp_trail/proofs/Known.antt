-- Each read that ends well finds what the device is due to give.
use Rattle.std.proofs.Common.{inl, inr, ◌⊎◌, subst, ◌≡◌, refl, sym, ◌∙◌, ℕ, suc, ◌≤◌, Bool, true, false, not, ◌&&◌, ◌||◌, ◌==◌, if◌then◌else◌, List, [], ◌∷◌, filter, arith}
use Rattle.std.proofs.lemmas.Bool.{eqb-true, eq-eqb, ne_eqb, and_parts, and_from, or_parts, or_cases, or_left, or_right, or_from, not-true, not_from_false, false_from_ne_true, true≢false}
use Rattle.bp_trail.specs.declared.entries.Entry.{Entry}
use Rattle.bp_trail.specs.declared.entries.Call.{Call}
use Rattle.bp_trail.specs.declared.entries.Call.TheVariants.{Fix, Flush, WriteEnd}
use Rattle.bp_trail.specs.declared.entries.Reply.{Reply}
use Rattle.bp_trail.specs.declared.entries.Reply.TheVariants.{WriteFirst, Cleaned, StillDirty}
use Rattle.bp_trail.specs.Parameters.{Parameters}
use Rattle.bp_trail.specs.Lists.{some, since, after_last}
use Rattle.bp_trail.specs.Event.{Grant, grant, begins, begins_of, discards, ends_well, loads, writes}
use Rattle.bp_trail.specs.Trail.{Trail}
use Rattle.bp_trail.specs.Passes.{tickets, reads_out, writes_out, is_of, pins}
use Rattle.bp_trail.specs.Places.{resident, writing}
use Rattle.bp_trail.specs.Saved.{settles, unsaved}
use Rattle.bp_trail.specs.Images.{held}
use Rattle.bp_trail.specs.Legal.{is_out, Legal}
use Rattle.bp_trail.specs.Device.{discarded_since_sent}
use Rattle.bp_trail.proofs.Lists.{some-filter}
use Rattle.bp_trail.proofs.Victim.{victim-is}
use Rattle.bp_trail.proofs.Events.{Event, event-of}
use Rattle.bp_trail.proofs.Events.Event.{ticked, marked, fix_hit, fix_load, fix_replace, fix_write, fix_busy, fix_none, fix_log, flush_busy, flush_absent, flush_clean, flush_log, flush_write, discard_busy, discard_absent, discard_pinned, discarded, read_good, read_bad, read_wrong, write_bad, write_clean, write_dirty, page_read, page_written, unfixed, purged}
use Rattle.bp_trail.proofs.Places.{OnePage, OnePage-filter, one-gone, out-of_page, places}
use Rattle.bp_trail.proofs.Ranges.{stays}
use Rattle.bp_trail.proofs.Serials.{AllBelow, numbered, out-serial, has_serial, rest}
use Rattle.bp_trail.proofs.Flights.{in_flight, flights, since-other, in-flight-of}

abbrev entry : ℕ → Call → Reply → Entry
entry who call reply = record { client = who; call = call; reply = reply }

-- a page with a write-out in flight is unsaved
abbrev pub Airborne : Trail → Type 0
Airborne past = record {
  once : OnePage (writes_out past);
  ended_below : (t : ℕ) → tickets past ≤ t → some (λ e. ends_well t e.call) past ≡ false;
  flying : (p : ℕ) → writing past p ≡ true → unsaved past p ≡ true;
}

-- what is in flight is of another page than one that is discarded
still-unsaved : (past : Trail) (p q : ℕ) → writing past p ≡ false → writing past q ≡ true → unsaved past q ≡ true → (not ((p == q) || false) && unsaved past q) ≡ true
still-unsaved past p q n w u = and_from (not ((p == q) || false)) _ (not_from_false ((p == q) || false) (or_from (p == q) false (ne_eqb p q (λ e. true≢false (sym w ∙ subst (λ x. writing past x ≡ false) e n))) refl)) u

pub serial-below : (t n : ℕ) (gs : List Grant) → AllBelow n gs → some (has_serial t) gs ≡ true → suc t ≤ n
serial-below t n [] b m = cc
serial-below t n (g ∷ gs) b m = elim (or_cases (g.serial == t) _ m) as (λ _. suc t ≤ n)
    [ inl e ↦ subst (λ x. suc x ≤ n) (eqb-true g.serial t e) b.0 | inr k ↦ serial-below t n gs b.1 k ]

module _ (c : Parameters) (past : Trail) (who : ℕ) (l : Legal c past) (h : Airborne past) where
  -- a write-out begins of v, which is unsaved
  flying-begun : (v : ℕ) (image : List ℕ) → unsaved past v ≡ true → (q : ℕ) → (v == q || writing past q) ≡ true
      → (not ((v == q) && some (λ e. ends_well (tickets past) e.call) past) && unsaved past q) ≡ true
  flying-begun v image u q m = rw (h.ended_below (tickets past) (omega arith)) (both (v == q) (wanted (or_cases (v == q) (writing past q) m)))
    where
      both : (b : Bool) → unsaved past q ≡ true → (not (b && false) && unsaved past q) ≡ true
      both true k = k
      both false k = k

      wanted : ((v == q) ≡ true) ⊎ (writing past q ≡ true) → unsaved past q ≡ true
      wanted (inl e) = subst (λ x. unsaved past x ≡ true) (eqb-true v q e) u
      wanted (inr w) = h.flying q w

  ended-later : (t u : ℕ) → suc t ≤ tickets past → tickets past ≤ u → (u == t || some (λ e. ends_well u e.call) past) ≡ false
  ended-later t u a b = rw (ne_eqb u t (λ e. absurd (omega arith))) (h.ended_below u b)

  flight : (t p : ℕ) → is_out (grant who p t) (writes_out past) ≡ true → in_flight t p past ≡ true
  flight t p o = in-flight-of (λ t p. in_flight t p past) who p t (writes_out past) (flights c past l).begun o

  still-flying : (t p : ℕ) (r : Reply) → is_out (grant who p t) (writes_out past) ≡ true → (q : ℕ) → some (is_of q) (rest t (writes_out past)) ≡ true
      → since (writes q) (settles (entry who (WriteEnd t p true) r ∷ past) q) past ≡ true
  still-flying t p r o q m =
      let n : (p == q) ≡ false = ne_eqb p q (λ e. let k : some (is_of q) (rest t (writes_out past)) ≡ false = subst (λ x. some (is_of x) (rest t (writes_out past)) ≡ false) e (one-gone who p t (writes_out past) h.once o) in cc) in
      since-other c t p q past n past who r (flight t p o) ∙ h.flying q (some-filter (is_of q) (λ g. not (g.serial == t)) (writes_out past) m)

  below : (t p : ℕ) → is_out (grant who p t) (writes_out past) ≡ true → suc t ≤ tickets past
  below t p o = serial-below t (tickets past) (writes_out past) (numbered c past l).writes_below (out-serial who p t (writes_out past) o)

  airborne-with : (call : Call) (reply : Reply) → Event c past who call reply → Airborne (entry who call reply ∷ past)
  airborne-with _ _ (fix_write p v m w g) = record {
    once = (not-true (writing past v) (and_parts (not (writing past v)) _ (and_parts (pins past v == 0) _ (and_parts (resident past v) _ (victim-is c past v w).eligible).1).1).0, h.once);
    ended_below = λ t k. h.ended_below t (omega arith);
    flying = flying-begun v (held past v) g.unsaved_page;
  }
  airborne-with _ _ (flush_write p r w g) = record { once = (w, h.once); ended_below = λ t k. h.ended_below t (omega arith); flying = flying-begun p (held past p) g.unsaved_page }
  airborne-with _ _ (write_bad t p o) = record {
    once = OnePage-filter (λ g. not (g.serial == t)) (writes_out past) h.once;
    ended_below = h.ended_below;
    flying = λ q m. h.flying q (some-filter (is_of q) (λ g. not (g.serial == t)) (writes_out past) m);
  }
  airborne-with _ _ (write_clean t p o w) = record {
    once = OnePage-filter (λ g. not (g.serial == t)) (writes_out past) h.once;
    ended_below = λ u k. ended-later t u (below t p o) k;
    flying = still-flying t p Cleaned o;
  }
  airborne-with _ _ (write_dirty t p o w) = record {
    once = OnePage-filter (λ g. not (g.serial == t)) (writes_out past) h.once;
    ended_below = λ u k. ended-later t u (below t p o) k;
    flying = still-flying t p StillDirty o;
  }
  airborne-with _ _ (fix_load p m f) = record { once = h.once; ended_below = λ t k. h.ended_below t (omega arith); flying = h.flying }
  airborne-with _ _ (fix_replace p v m w u) = record { once = h.once; ended_below = λ t k. h.ended_below t (omega arith); flying = h.flying }
  airborne-with _ _ (page_written n p offset bytes lsn o) = record { once = h.once; ended_below = h.ended_below; flying = λ q m. or_right (p == q) (unsaved past q) (h.flying q m) }
  airborne-with _ _ (fix_hit p l r) = h
  airborne-with _ _ (read_good t p image o) = h
  airborne-with _ _ (read_bad t p o) = h
  airborne-with _ _ (read_wrong t p o) = h
  airborne-with _ _ (unfixed n p o) = h
  airborne-with _ _ (ticked n) = h
  airborne-with _ _ (marked lsn) = h
  airborne-with _ _ (fix_busy p l) = h
  airborne-with _ _ (fix_none p m w) = h
  airborne-with _ _ (fix_log p v m w) = h
  airborne-with _ _ (flush_busy p) = h
  airborne-with _ _ (flush_absent p r) = h
  airborne-with _ _ (flush_clean p r u) = h
  airborne-with _ _ (flush_log p) = h
  airborne-with _ _ (discard_busy p) = h
  airborne-with _ _ (discard_absent p x) = record {
    once = h.once;
    ended_below = h.ended_below;
    flying = λ q m. still-unsaved past p q (false_from_ne_true (writing past p) (λ w. true≢false (sym ((places c past l).dirty p (h.flying p w)) ∙ x.not_resident))) m (h.flying q m);
  }
  airborne-with _ _ (discard_pinned p) = h
  airborne-with _ _ (discarded p x) = record { once = h.once; ended_below = h.ended_below; flying = λ q m. still-unsaved past p q x.not_writing m (h.flying q m) }
  airborne-with _ _ (page_read n p o) = h
  airborne-with _ _ purged = h

pub airborne : (c : Parameters) (past : Trail) → Legal c past → Airborne past
airborne c [] l = record { once = tt; ended_below = λ t k. refl; flying = λ p m. m }
airborne c (e ∷ past) l = airborne-with c past e.client l.before (airborne c past l.before) e.call e.reply (event-of c past e l.here)

-- whether the device is due to give a known image of p: its last write-out ended well, or there was none
abbrev pub is_known_with : Trail → ℕ → Reply → Bool → Bool
is_known_with whole p (WriteFirst t q image) older = if q == p then some (λ e. ends_well t e.call) whole else older
is_known_with whole p _ older = older

abbrev pub is_known : Trail → ℕ → Trail → Bool
is_known whole p [] = true
is_known whole p (e ∷ past) = is_known_with whole p e.reply (is_known whole p past)

known-ended : (whole : Trail) (e : Entry) (p : ℕ) (past : Trail) → is_known whole p past ≡ true → is_known (e ∷ whole) p past ≡ true
known-ended whole e p [] k = refl
known-ended whole e p (d ∷ past) k = go d.reply (is_known whole p past) (is_known (e ∷ whole) p past) (known-ended whole e p past) k
  where
    go : (r : Reply) (a b : Bool) → (a ≡ true → b ≡ true) → is_known_with whole p r a ≡ true → is_known_with (e ∷ whole) p r b ≡ true
    go (WriteFirst t q image) a b f k = at (q == p) k
      where
        at : (x : Bool) → (if x then some (λ e. ends_well t e.call) whole else a) ≡ true → (if x then some (λ e. ends_well t e.call) (e ∷ whole) else b) ≡ true
        at true k = or_right (ends_well t e.call) _ k
        at false k = f k
    go _ a b f k = f k

known-flight : (whole : Trail) (t p : ℕ) (past : Trail) → in_flight t p past ≡ true → some (λ e. ends_well t e.call) whole ≡ true → is_known whole p past ≡ true
known-flight whole t p [] f w = refl
known-flight whole t p (e ∷ past) f w = go e.reply f (known-flight whole t p past)
  where
    go : (r : Reply) → (if begins t r then begins_of p r && not (some (λ d. begins t d.reply) past) else not (begins_of p r) && (not (discards p e) && in_flight t p past)) ≡ true
        → (in_flight t p past ≡ true → some (λ e. ends_well t e.call) whole ≡ true → is_known whole p past ≡ true) → is_known_with whole p r (is_known whole p past) ≡ true
    go (WriteFirst u q image) f ih = at (u == t) refl f
      where
        at : (b : Bool) → (u == t) ≡ b → (if b then (q == p) && not (some (λ d. begins t d.reply) past) else not (q == p) && (not (discards p e) && in_flight t p past)) ≡ true
            → (if q == p then some (λ e. ends_well u e.call) whole else is_known whole p past) ≡ true
        at true i f = rw ((and_parts (q == p) _ f).0, eqb-true u t i) w
        at false i f = let j = and_parts (not (q == p)) _ f in rw (not-true (q == p) j.0) (ih (and_parts (not (discards p e)) _ j.1).1 w)
    go _ f ih = ih (and_parts (not (discards p e)) _ f).1 w

module _ (c : Parameters) (past : Trail) (who : ℕ) (l : Legal c past) (h : (p : ℕ) → unsaved past p ≡ false → discarded_since_sent past p ≡ false → is_known past p past ≡ true) where
  abbrev pub KnownAfter : Call → Reply → Type 0
  KnownAfter call reply = (q : ℕ) → unsaved (entry who call reply ∷ past) q ≡ false → discarded_since_sent (entry who call reply ∷ past) q ≡ false → is_known (entry who call reply ∷ past) q (entry who call reply ∷ past) ≡ true

  known-begun : (v : ℕ) (image : List ℕ) → unsaved past v ≡ true → (q : ℕ) → (not ((v == q) && some (λ e. ends_well (tickets past) e.call) past) && unsaved past q) ≡ false
      → some (discards q) (if v == q then [] else after_last (λ e. begins_of q e.reply) past) ≡ false
      → (if v == q then some (λ e. ends_well (tickets past) e.call) past else is_known past q past) ≡ true
  known-begun v image u q m d = at (v == q) refl m d
    where
      at : (b : Bool) → (v == q) ≡ b → (not (b && some (λ e. ends_well (tickets past) e.call) past) && unsaved past q) ≡ false → some (discards q) (if b then [] else after_last (λ e. begins_of q e.reply) past) ≡ false
          → (if b then some (λ e. ends_well (tickets past) e.call) past else is_known past q past) ≡ true
      at true e m d =
          let k : unsaved past q ≡ true = subst (λ x. unsaved past x ≡ true) (eqb-true v q e) u in
          let n = rw ((airborne c past l).ended_below (tickets past) (omega arith), k) at m in
          cc
      at false e m d = h q m d

  -- what an entry leaves of that, which is no discard
  undropped : (v q : ℕ) (e : Entry) → discards q e ≡ false → some (discards q) (if v == q then [] else e ∷ after_last (λ d. begins_of q d.reply) past) ≡ false
      → some (discards q) (if v == q then [] else after_last (λ d. begins_of q d.reply) past) ≡ false
  undropped v q e n d = at (v == q) d
    where
      at : (b : Bool) → some (discards q) (if b then [] else e ∷ after_last (λ d. begins_of q d.reply) past) ≡ false → some (discards q) (if b then [] else after_last (λ d. begins_of q d.reply) past) ≡ false
      at true d = d
      at false d = (or_parts (discards q e) _ d).1

  known-saved : (t p : ℕ) (r : Reply) → is_out (grant who p t) (writes_out past) ≡ true → (q : ℕ)
      → since (writes q) (settles (entry who (WriteEnd t p true) r ∷ past) q) past ≡ false → discarded_since_sent past q ≡ false → is_known (entry who (WriteEnd t p true) r ∷ past) q past ≡ true
  known-saved t p r o q m d = at (p == q) refl
    where
      f : in_flight t p past ≡ true
      f = flight c past who l (airborne c past l) t p o

      at : (b : Bool) → (p == q) ≡ b → is_known (entry who (WriteEnd t p true) r ∷ past) q past ≡ true
      at true e = subst (λ x. is_known (entry who (WriteEnd t p true) r ∷ past) x past ≡ true) (eqb-true p q e)
          (known-flight (entry who (WriteEnd t p true) r ∷ past) t p past f (or_left (t == t) (some (λ e. ends_well t e.call) past) (eq-eqb t t refl)))
      at false e = known-ended past (entry who (WriteEnd t p true) r) q past (h q (sym (since-other c t p q past e past who r f) ∙ m) d)

  -- a page is discarded
  known-dropped : (p q : ℕ) → (not ((p == q) || false) && unsaved past q) ≡ false → (p == q || discarded_since_sent past q) ≡ false → is_known past q past ≡ true
  known-dropped p q m d = let k = or_parts (p == q) (discarded_since_sent past q) d in h q (rw k.0 at m) k.1

  known-with : (call : Call) (reply : Reply) → Event c past who call reply → KnownAfter call reply
  known-with _ _ (fix_write p v m w g) = λ q m d. known-begun v (held past v) g.unsaved_page q m (undropped v q (entry who (Fix p) (WriteFirst (tickets past) v (held past v))) refl d)
  known-with _ _ (flush_write p r w g) = λ q m d. known-begun p (held past p) g.unsaved_page q m (undropped p q (entry who (Flush p) (WriteFirst (tickets past) p (held past p))) refl d)
  known-with _ _ (write_clean t p o w) = known-saved t p Cleaned o
  known-with _ _ (write_dirty t p o w) = known-saved t p StillDirty o
  known-with _ _ (page_written n p offset bytes lsn o) = λ q m d. h q (or_parts (p == q) (unsaved past q) m).1 d
  known-with _ _ (write_bad t p o) = h
  known-with _ _ (fix_load p m f) = h
  known-with _ _ (fix_replace p v m w u) = h
  known-with _ _ (fix_hit p l r) = h
  known-with _ _ (read_good t p image o) = h
  known-with _ _ (read_bad t p o) = h
  known-with _ _ (read_wrong t p o) = h
  known-with _ _ (unfixed n p o) = h
  known-with _ _ (ticked n) = h
  known-with _ _ (marked lsn) = h
  known-with _ _ (fix_busy p l) = h
  known-with _ _ (fix_none p m w) = h
  known-with _ _ (fix_log p v m w) = h
  known-with _ _ (flush_busy p) = h
  known-with _ _ (flush_absent p r) = h
  known-with _ _ (flush_clean p r u) = h
  known-with _ _ (flush_log p) = h
  known-with _ _ (discard_busy p) = h
  known-with _ _ (discard_absent p x) = known-dropped p
  known-with _ _ (discard_pinned p) = h
  known-with _ _ (discarded p x) = known-dropped p
  known-with _ _ (page_read n p o) = h
  known-with _ _ purged = h

pub known : (c : Parameters) (past : Trail) → Legal c past → (p : ℕ) → unsaved past p ≡ false → discarded_since_sent past p ≡ false → is_known past p past ≡ true
known c [] l p m d = refl
known c (e ∷ past) l p m d = known-with c past e.client l.before (known c past l.before) e.call e.reply (event-of c past e l.here) p m d

-- discarded or read since it was last sent
abbrev pub changed_since_sent : Trail → ℕ → Bool
changed_since_sent past p = some (λ e. discards p e || loads p e) (after_last (λ e. begins_of p e.reply) past)

-- a page with a write-out in flight was neither
abbrev Grounded : Trail → Type 0
Grounded past = (p : ℕ) → writing past p ≡ true → changed_since_sent past p ≡ false

module _ (c : Parameters) (past : Trail) (who : ℕ) (l : Legal c past) (h : Grounded past) where
  grounded-begun : (v q : ℕ) (e : Entry) → (discards q e || loads q e) ≡ false → (v == q || writing past q) ≡ true → some (λ d. discards q d || loads q d) (if v == q then [] else e ∷ after_last (λ d. begins_of q d.reply) past) ≡ false
  grounded-begun v q e n = at (v == q)
    where
      at : (b : Bool) → (b || writing past q) ≡ true → some (λ d. discards q d || loads q d) (if b then [] else e ∷ after_last (λ d. begins_of q d.reply) past) ≡ false
      at true w = refl
      at false w = rw n (h q w)

  grounded-ended : (t q : ℕ) → some (is_of q) (filter (λ g. not (g.serial == t)) (writes_out past)) ≡ true → changed_since_sent past q ≡ false
  grounded-ended t q w = h q (some-filter (is_of q) (λ g. not (g.serial == t)) (writes_out past) w)

  other : (p q : ℕ) → writing past p ≡ false → writing past q ≡ true → (p == q || changed_since_sent past q) ≡ false
  other p q n w = or_from (p == q) _ (ne_eqb p q (λ e. true≢false (sym w ∙ subst (λ x. writing past x ≡ false) e n))) (h q w)

  other-dropped : (p q : ℕ) → writing past p ≡ false → writing past q ≡ true → ((p == q || false) || changed_since_sent past q) ≡ false
  other-dropped p q n w = rw (or_parts (p == q) (changed_since_sent past q) (other p q n w)).0 (h q w)

  away-lands : (p : ℕ) → resident past p ≡ false → writing past p ≡ false
  away-lands p n = false_from_ne_true (writing past p) (λ w. true≢false (sym (stays c past l p w) ∙ n))

  grounded-with : (call : Call) (reply : Reply) → Event c past who call reply → Grounded (entry who call reply ∷ past)
  grounded-with _ _ (fix_write p v m w g) = λ q. grounded-begun v q (entry who (Fix p) (WriteFirst (tickets past) v (held past v))) refl
  grounded-with _ _ (flush_write p r w g) = λ q. grounded-begun p q (entry who (Flush p) (WriteFirst (tickets past) p (held past p))) refl
  grounded-with _ _ (write_bad t p o) = grounded-ended t
  grounded-with _ _ (write_clean t p o w) = grounded-ended t
  grounded-with _ _ (write_dirty t p o w) = grounded-ended t
  grounded-with _ _ (read_good t p image o) = λ q. other p q (away-lands p ((places c past l).away p (out-of_page who p t (reads_out past) o)))
  grounded-with _ _ (discard_absent p x) = λ q. other-dropped p q (away-lands p x.not_resident)
  grounded-with _ _ (discarded p x) = λ q. other-dropped p q x.not_writing
  grounded-with _ _ _ = h

pub grounded : (c : Parameters) (past : Trail) → Legal c past → Grounded past
grounded c [] l = λ p w. refl
grounded c (e ∷ past) l = grounded-with c past e.client l.before (grounded c past l.before) e.call e.reply (event-of c past e l.here)
