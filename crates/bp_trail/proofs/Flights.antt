-- Write-outs in flight: what their good end saves.
use Rattle.std.proofs.Common.{subst, ◌≡◌, refl, sym, ap, ℕ, suc, ◌≤◌, Bool, true, false, not, ◌&&◌, ◌||◌, ◌==◌, cond, if◌then◌else◌, List, [], ◌∷◌, filter, arith}
use Rattle.std.proofs.lemmas.Bool.{eqb-true, eq-eqb, ne_eqb, eqb-false, and_parts, or_parts, and_from, or_left, or_right, not-true, false_from_ne_true}
use Rattle.bp_trail.specs.declared.entries.Entry.{Entry}
use Rattle.bp_trail.specs.declared.entries.Call.{Call}
use Rattle.bp_trail.specs.declared.entries.Call.TheVariants.{Fix, WriteEnd, Flush, Discard}
use Rattle.bp_trail.specs.declared.entries.Reply.{Reply}
use Rattle.bp_trail.specs.declared.entries.Reply.TheVariants.{WriteFirst, Cleaned, StillDirty, Absent, Discarded}
use Rattle.bp_trail.specs.Parameters.{Parameters}
use Rattle.bp_trail.specs.Lists.{some, every, since, after_last}
use Rattle.bp_trail.specs.Event.{Grant, grant, same_grant, begins, begins_of, discards, ends_well, writes}
use Rattle.bp_trail.specs.Trail.{Trail}
use Rattle.bp_trail.specs.Passes.{tickets, writes_out, is_of, pins}
use Rattle.bp_trail.specs.Places.{resident, writing}
use Rattle.bp_trail.specs.Saved.{began_saving, settles, unsaved, written_since}
use Rattle.bp_trail.specs.Images.{held}
use Rattle.bp_trail.specs.Legal.{is_out, Legal}
use Rattle.bp_trail.proofs.Victim.{victim-is}
use Rattle.bp_trail.proofs.Events.{Event, event-of}
use Rattle.bp_trail.proofs.Events.Event.{ticked, marked, fix_hit, fix_load, fix_replace, fix_write, fix_busy, fix_none, fix_log, flush_busy, flush_absent, flush_clean, flush_log, flush_write, discard_busy, discard_absent, discard_pinned, discarded, read_good, read_bad, read_wrong, write_bad, write_clean, write_dirty, page_read, page_written, unfixed, purged}
use Rattle.bp_trail.proofs.Serials.{AllBelow, numbered}
use Rattle.bp_trail.proofs.Ranges.{Stays, stays}

-- the write-out of p with this ticket began once, no write-out of p began later, and p was not discarded since
abbrev pub in_flight : ℕ → ℕ → Trail → Bool
in_flight t p [] = false
in_flight t p (e ∷ past) =
    if begins t e.reply then begins_of p e.reply && not (some (λ d. begins t d.reply) past)
    else not (begins_of p e.reply) && (not (discards p e) && in_flight t p past)

abbrev pub Flights : Trail → Type 0
Flights past = record {
  begun : every (λ g. in_flight g.serial g.page past) (writes_out past) ≡ true;
  below : (t : ℕ) → tickets past ≤ t → some (λ e. begins t e.reply) past ≡ false;
}

every-kept : {X : Type 0} (p q : X → Bool) (xs : List X) → every p xs ≡ true → every p (filter q xs) ≡ true
every-kept p q [] h = refl
every-kept p q (x ∷ xs) h = go (q x) (and_parts (p x) (every p xs) h).0 (every-kept p q xs (and_parts (p x) (every p xs) h).1)
  where
    go : (b : Bool) → p x ≡ true → every p (filter q xs) ≡ true → every p (cond b (x ∷ filter q xs) (filter q xs)) ≡ true
    go true h ih = and_from (p x) _ h ih
    go false h ih = ih

abbrev entry : ℕ → Call → Reply → Entry
entry who call reply = record { client = who; call = call; reply = reply }

-- a reply that begins no write-out
abbrev begins_nothing : Reply → Bool
begins_nothing (WriteFirst t p image) = false
begins_nothing _ = true

quiet : (r : Reply) → begins_nothing r ≡ true → (t : ℕ) → begins t r ≡ false
quiet (WriteFirst u q image) n t = cc
quiet _ n t = refl

quiet-of : (r : Reply) → begins_nothing r ≡ true → (p : ℕ) → begins_of p r ≡ false
quiet-of (WriteFirst u q image) n p = cc
quiet-of _ n p = refl

-- a write-out of another page begins
begun-more : (past : Trail) (e : Entry) (n v : ℕ) (image : List ℕ) (gs : List Grant) → e.reply ≡ WriteFirst n v image → AllBelow n gs → some (is_of v) gs ≡ false
    → every (λ g. in_flight g.serial g.page past) gs ≡ true → every (λ g. in_flight g.serial g.page (e ∷ past)) gs ≡ true
begun-more past e n v image [] r b w h = refl
begun-more past e n v image (g ∷ gs) r b w h =
    let a = and_parts (in_flight g.serial g.page past) _ h in
    let d = or_parts (g.page == v) _ w in
    let i : (n == g.serial) ≡ false = ne_eqb n g.serial (λ x. let k = b.0 in absurd (omega arith)) in
    let j : (v == g.page) ≡ false = ne_eqb v g.page (λ x. eqb-false g.page v d.0 (sym x)) in
    let f : in_flight g.serial g.page (e ∷ past) ≡ true = rw (r, i, j) a.0 in
    and_from _ _ f (begun-more past e n v image gs r b.1 d.1 a.1)

-- another page is discarded
dropped-more : (past : Trail) (e : Entry) (p : ℕ) (gs : List Grant) → begins_nothing e.reply ≡ true → ((q : ℕ) → discards q e ≡ (p == q)) → some (is_of p) gs ≡ false
    → every (λ g. in_flight g.serial g.page past) gs ≡ true → every (λ g. in_flight g.serial g.page (e ∷ past)) gs ≡ true
dropped-more past e p [] n d w h = refl
dropped-more past e p (g ∷ gs) n d w h =
    let a = and_parts (in_flight g.serial g.page past) _ h in
    let k = or_parts (g.page == p) _ w in
    let other : (p == g.page) ≡ false = ne_eqb p g.page (λ i. eqb-false g.page p k.0 (sym i)) in
    let f : in_flight g.serial g.page (e ∷ past) ≡ true = rw (quiet e.reply n g.serial, quiet-of e.reply n g.page, d g.page, other) a.0 in
    and_from _ _ f (dropped-more past e p gs n d k.1 a.1)

module _ (c : Parameters) (past : Trail) (who : ℕ) (b : AllBelow (tickets past) (writes_out past)) (s : Stays past) (h : Flights past) where
  all-kept : (p : ℕ) (reply : Reply) → begins_nothing reply ≡ true → ((q : ℕ) → discards q (entry who (Discard p) reply) ≡ (p == q)) → writing past p ≡ false
      → every (λ g. in_flight g.serial g.page (entry who (Discard p) reply ∷ past)) (writes_out past) ≡ true
  all-kept p reply n d w = dropped-more past (entry who (Discard p) reply) p (writes_out past) n d w h.begun

  not-begun : (t : ℕ) → suc (tickets past) ≤ t → (tickets past == t || some (λ e. begins t e.reply) past) ≡ false
  not-begun t k = rw (ne_eqb (tickets past) t (λ e. absurd (omega arith))) (h.below t (omega arith))

  all-begun : (call : Call) (v : ℕ) (image : List ℕ) → writing past v ≡ false
      → every (λ g. in_flight g.serial g.page (entry who call (WriteFirst (tickets past) v image) ∷ past)) (grant who v (tickets past) ∷ writes_out past) ≡ true
  all-begun call v image w =
      let own : in_flight (tickets past) v (entry who call (WriteFirst (tickets past) v image) ∷ past) ≡ true = rw (eq-eqb (tickets past) (tickets past) refl, eq-eqb v v refl, h.below (tickets past) (omega arith)) refl in
      and_from _ _ own (begun-more past (entry who call (WriteFirst (tickets past) v image)) (tickets past) v image (writes_out past) refl b w h.begun)

  flights-with : (call : Call) (reply : Reply) → Event c past who call reply → Flights (entry who call reply ∷ past)
  flights-with _ _ (fix_write p v m w g) = record { begun = all-begun (Fix p) v (held past v) (not-true (writing past v) (and_parts (not (writing past v)) _ (and_parts (pins past v == 0) _ (and_parts (resident past v) _ (victim-is c past v w).eligible).1).1).0); below = not-begun }
  flights-with _ _ (flush_write p r w g) = record { begun = all-begun (Flush p) p (held past p) w; below = not-begun }
  flights-with _ _ (write_bad t p o) = record { begun = every-kept _ _ (writes_out past) h.begun; below = h.below }
  flights-with _ _ (write_clean t p o w) = record { begun = every-kept _ _ (writes_out past) h.begun; below = h.below }
  flights-with _ _ (write_dirty t p o w) = record { begun = every-kept _ _ (writes_out past) h.begun; below = h.below }
  flights-with _ _ (fix_load p m f) = record { begun = h.begun; below = λ t k. h.below t (omega arith) }
  flights-with _ _ (fix_replace p v m w u) = record { begun = h.begun; below = λ t k. h.below t (omega arith) }
  flights-with _ _ (fix_hit p l r) = h
  flights-with _ _ (read_good t p image o) = h
  flights-with _ _ (read_bad t p o) = h
  flights-with _ _ (read_wrong t p o) = h
  flights-with _ _ (unfixed n p o) = h
  flights-with _ _ (ticked n) = h
  flights-with _ _ (marked lsn) = h
  flights-with _ _ (fix_busy p l) = h
  flights-with _ _ (fix_none p m w) = h
  flights-with _ _ (fix_log p v m w) = h
  flights-with _ _ (flush_busy p) = h
  flights-with _ _ (flush_absent p r) = h
  flights-with _ _ (flush_clean p r u) = h
  flights-with _ _ (flush_log p) = h
  flights-with _ _ (discard_busy p) = h
  flights-with _ _ (discard_absent p x) = record { begun = all-kept p Absent refl (λ q. refl) (false_from_ne_true (writing past p) (λ w. let k = s p w in let n = x.not_resident in cc)); below = h.below }
  flights-with _ _ (discard_pinned p) = h
  flights-with _ _ (discarded p x) = record { begun = all-kept p Discarded refl (λ q. refl) x.not_writing; below = h.below }
  flights-with _ _ (page_read n p o) = h
  flights-with _ _ (page_written n p offset bytes lsn o) = h
  flights-with _ _ purged = h

pub flights : (c : Parameters) (past : Trail) → Legal c past → Flights past
flights c [] l = record { begun = refl; below = λ t k. refl }
flights c (e ∷ past) l = flights-with c past e.client (numbered c past l.before).writes_below (stays c past l.before) (flights c past l.before) e.call e.reply (event-of c past e l.here)

-- an entry that begins a write-out writes nothing
pub begin-writes : (c : Parameters) (past : Trail) (who : ℕ) (call : Call) (reply : Reply) → Event c past who call reply → (t q : ℕ) → begins t reply ≡ true → writes q (entry who call reply) ≡ false
begin-writes c past who _ _ (fix_write p v m w g) t q k = refl
begin-writes c past who _ _ (flush_write p r w g) t q k = refl
begin-writes c past who _ _ _ t q k = cc

-- the entries by which a good end of the write-out t of p saves
module _ (c : Parameters) (t p : ℕ) (whole : Trail) (well : some (λ e. ends_well t e.call) whole ≡ true) where
  saved-at : (r : Reply) → begins t r ≡ true → begins_of p r ≡ true → began_saving whole p r ≡ true
  saved-at (WriteFirst u q image) i j = and_from (q == p) _ j (rw (eqb-true u t i) well)
  saved-at _ i j = cc

  not-saved-at : (r : Reply) → begins_of p r ≡ false → began_saving whole p r ≡ false
  not-saved-at (WriteFirst u q image) j = rw j refl
  not-saved-at _ j = refl

  -- the writes of p that are left unsaved are those since the begin
  since-begin : (past : Trail) → Legal c past → in_flight t p past ≡ true → since (writes p) (settles whole p) past ≡ written_since past t p
  since-begin [] l f = cc
  since-begin (e ∷ past) l f = go (begins t e.reply) refl f (since-begin past l.before)
    where
      go : (b : Bool) → begins t e.reply ≡ b → (if b then begins_of p e.reply && not (some (λ d. begins t d.reply) past) else not (begins_of p e.reply) && (not (discards p e) && in_flight t p past)) ≡ true
          → (in_flight t p past ≡ true → since (writes p) (settles whole p) past ≡ written_since past t p)
          → (writes p e || (not (settles whole p e) && since (writes p) (settles whole p) past)) ≡ some (writes p) (if b then [] else e ∷ after_last (λ e. begins t e.reply) past)
      go true i k ih =
          let j = (and_parts (begins_of p e.reply) _ k).0 in
          rw (begin-writes c past e.client e.call e.reply (event-of c past e l.here) t p i, or_right (discards p e) (began_saving whole p e.reply) (saved-at e.reply i j)) refl
      go false i k ih =
          let j = and_parts (not (begins_of p e.reply)) _ k in
          let d = and_parts (not (discards p e)) _ j.1 in
          rw (not-true (discards p e) d.0, not-saved-at e.reply (not-true (begins_of p e.reply) j.0)) (ap (λ x. writes p e || x) (ih d.1))

-- what is in flight, of a ticket that is out
pub in-flight-of : (f : ℕ → ℕ → Bool) (who p t : ℕ) (gs : List Grant) → every (λ g. f g.serial g.page) gs ≡ true → is_out (grant who p t) gs ≡ true → f t p ≡ true
in-flight-of f who p t [] h o = cc
in-flight-of f who p t (g ∷ gs) h o = go (same_grant (grant who p t) g) refl o (and_parts (f g.serial g.page) _ h) (in-flight-of f who p t gs)
  where
    go : (b : Bool) → same_grant (grant who p t) g ≡ b → (b || is_out (grant who p t) gs) ≡ true → (f g.serial g.page ≡ true) × (every (λ g. f g.serial g.page) gs ≡ true)
        → (every (λ g. f g.serial g.page) gs ≡ true → is_out (grant who p t) gs ≡ true → f t p ≡ true) → f t p ≡ true
    go true e o h ih =
        let k = and_parts (p == g.page) (t == g.serial) (and_parts (who == g.client) _ e).1 in
        rw (eqb-true t g.serial k.1, eqb-true p g.page k.0) h.0
    go false e o h ih = ih h.1 o

-- A write-out of p ends well: p is unsaved as far as it was written since the begin.
pub unsaved-ended-well : (c : Parameters) (past : Trail) (who t p : ℕ) (r : Reply) → Legal c past → is_out (grant who p t) (writes_out past) ≡ true
    → unsaved (entry who (WriteEnd t p true) r ∷ past) p ≡ (not (settles (entry who (WriteEnd t p true) r ∷ past) p (entry who (WriteEnd t p true) r)) && written_since past t p)
unsaved-ended-well c past who t p r l o =
    let f = in-flight-of (λ t p. in_flight t p past) who p t (writes_out past) (flights c past l).begun o in
    ap (λ x. not (settles (entry who (WriteEnd t p true) r ∷ past) p (entry who (WriteEnd t p true) r)) && x) (since-begin c t p (entry who (WriteEnd t p true) r ∷ past) (or_left (t == t) (some (λ e. ends_well t e.call) past) (eq-eqb t t refl)) past l f)

pub unsaved-cleaned : (c : Parameters) (past : Trail) (who t p : ℕ) → Legal c past → is_out (grant who p t) (writes_out past) ≡ true
    → unsaved (entry who (WriteEnd t p true) Cleaned ∷ past) p ≡ written_since past t p
unsaved-cleaned c past who t p l o = unsaved-ended-well c past who t p Cleaned l o

pub unsaved-still_dirty : (c : Parameters) (past : Trail) (who t p : ℕ) → Legal c past → is_out (grant who p t) (writes_out past) ≡ true
    → unsaved (entry who (WriteEnd t p true) StillDirty ∷ past) p ≡ written_since past t p
unsaved-still_dirty c past who t p l o = unsaved-ended-well c past who t p StillDirty l o

-- A good end saves no other page.
module _ (c : Parameters) (t p q : ℕ) (whole : Trail) (other : (p == q) ≡ false) where
  none-since : (e : Entry) (past : Trail) (who : ℕ) (r : Reply) → some (λ d. begins t d.reply) past ≡ false
      → since (writes q) (settles (entry who (WriteEnd t p true) r ∷ whole) q) past ≡ since (writes q) (settles whole q) past
  none-since e [] who r h = refl
  none-since e (d ∷ past) who r h =
      let k = or_parts (begins t d.reply) _ h in
      rw (same d.reply k.0) (ap (λ x. writes q d || (not (settles whole q d) && x)) (none-since e past who r k.1))
    where
      same : (a : Reply) → begins t a ≡ false → began_saving (entry who (WriteEnd t p true) r ∷ whole) q a ≡ began_saving whole q a
      same (WriteFirst u v image) h = rw (ne_eqb u t (eqb-false u t h)) refl
      same _ h = refl

  pub since-other : (past : Trail) (who : ℕ) (r : Reply) → in_flight t p past ≡ true
      → since (writes q) (settles (entry who (WriteEnd t p true) r ∷ whole) q) past ≡ since (writes q) (settles whole q) past
  since-other [] who r f = refl
  since-other (d ∷ past) who r f = go (begins t d.reply) refl f (since-other past who r)
    where
      at-begin : (a : Reply) → begins_of p a ≡ true → (w : Trail) → began_saving w q a ≡ false
      at-begin (WriteFirst u v image) h w = let e : (v == q) ≡ false = subst (λ x. (x == q) ≡ false) (sym (eqb-true v p h)) other in rw e refl
      at-begin _ h w = cc

      at-later : (a : Reply) → begins t a ≡ false → began_saving (entry who (WriteEnd t p true) r ∷ whole) q a ≡ began_saving whole q a
      at-later (WriteFirst u v image) h = rw (ne_eqb u t (eqb-false u t h)) refl
      at-later _ h = refl

      go : (b : Bool) → begins t d.reply ≡ b → (if b then begins_of p d.reply && not (some (λ x. begins t x.reply) past) else not (begins_of p d.reply) && (not (discards p d) && in_flight t p past)) ≡ true
          → (in_flight t p past ≡ true → since (writes q) (settles (entry who (WriteEnd t p true) r ∷ whole) q) past ≡ since (writes q) (settles whole q) past)
          → since (writes q) (settles (entry who (WriteEnd t p true) r ∷ whole) q) (d ∷ past) ≡ since (writes q) (settles whole q) (d ∷ past)
      go true i k ih =
          let j = and_parts (begins_of p d.reply) _ k in
          rw (at-begin d.reply j.0 (entry who (WriteEnd t p true) r ∷ whole), at-begin d.reply j.0 whole) (ap (λ x. writes q d || (not (discards q d || false) && x)) (none-since d past who r (not-true _ j.1)))
      go false i k ih = rw (at-later d.reply i) (ap (λ x. writes q d || (not (settles whole q d) && x)) (ih (and_parts (not (discards p d)) _ (and_parts (not (begins_of p d.reply)) _ k).1).1))

pub unsaved-other : (c : Parameters) (past : Trail) (who t p q : ℕ) → Legal c past → is_out (grant who p t) (writes_out past) ≡ true → (p == q) ≡ false
    → unsaved (entry who (WriteEnd t p true) Cleaned ∷ past) q ≡ unsaved past q
unsaved-other c past who t p q l o n =
    since-other c t p q past n past who Cleaned (in-flight-of (λ t p. in_flight t p past) who p t (writes_out past) (flights c past l).begun o)
