-- Where the pages of a legal trail are: one that is loading is away, and one that is pinned or unsaved is resident.
use Rattle.std.proofs.Common.{inl, inr, subst, ◌≡◌, refl, sym, ℕ, Bool, true, false, not, ◌&&◌, ◌||◌, ◌==◌, cond, List, [], ◌∷◌, filter, Some}
use Rattle.std.proofs.lemmas.Bool.{eqb-true, eqb-false, eq-eqb, ne_eqb, and_parts, and_from, or_parts, or_left, or_right, or_cases, not-true, not_from_false, false_from_ne_true}
use Rattle.bp_trail.specs.declared.entries.Entry.{Entry}
use Rattle.bp_trail.specs.declared.entries.Call.{Call}
use Rattle.bp_trail.specs.declared.entries.Call.TheVariants.{WriteEnd}
use Rattle.bp_trail.specs.declared.entries.Reply.{Reply}
use Rattle.bp_trail.specs.declared.entries.Reply.TheVariants.{WriteFirst, Cleaned, StillDirty}
use Rattle.bp_trail.specs.Parameters.{Parameters}
use Rattle.bp_trail.specs.Lists.{some, without, since}
use Rattle.bp_trail.specs.Event.{Grant, grant, same_grant, discards, ends_well, writes}
use Rattle.bp_trail.specs.Trail.{Trail}
use Rattle.bp_trail.specs.Passes.{passes_out, reads_out, is_of, pins}
use Rattle.bp_trail.specs.Places.{residents, resident, loading}
use Rattle.bp_trail.specs.Saved.{began_saving, settles, unsaved}
use Rattle.bp_trail.specs.Victim.{victim}
use Rattle.bp_trail.specs.Legal.{is_out, Legal}
use Rattle.bp_trail.proofs.Lists.{some-filter, some-without, some-mono, since-mono, count-none, member-filter}
use Rattle.bp_trail.proofs.Victim.{victim-is}
use Rattle.bp_trail.proofs.Events.{Event, event-of}
use Rattle.bp_trail.proofs.Events.Event.{ticked, marked, fix_hit, fix_load, fix_replace, fix_write, fix_busy, fix_none, fix_log, flush_busy, flush_absent, flush_clean, flush_log, flush_write, discard_busy, discard_absent, discard_pinned, discarded, read_good, read_bad, read_wrong, write_bad, write_clean, write_dirty, page_read, page_written, unfixed, purged}

-- no two of the grants are of one page
abbrev pub OnePage : List Grant → Type 0
OnePage [] = Unit {0}
OnePage (g ∷ gs) = (some (is_of g.page) gs ≡ false) × OnePage gs

abbrev pub Places : Trail → Type 0
Places past = record {
  away : (p : ℕ) → loading past p ≡ true → resident past p ≡ false;
  once : OnePage (reads_out past);
  pinned : (p : ℕ) → some (is_of p) (passes_out past) ≡ true → resident past p ≡ true;
  dirty : (p : ℕ) → unsaved past p ≡ true → resident past p ≡ true;
}

pub OnePage-filter : (q : Grant → Bool) (gs : List Grant) → OnePage gs → OnePage (filter q gs)
OnePage-filter q [] h = tt
OnePage-filter q (g ∷ gs) h = go (q g) (OnePage-filter q gs h.1)
  where
    go : (b : Bool) → OnePage (filter q gs) → OnePage (cond b (g ∷ filter q gs) (filter q gs))
    go true ih = (false_from_ne_true (some (is_of g.page) (filter q gs)) (λ m. let n = some-filter (is_of g.page) q gs m in let k = h.0 in cc), ih)
    go false ih = ih

pub out-of_page : (who p t : ℕ) (gs : List Grant) → is_out (grant who p t) gs ≡ true → some (is_of p) gs ≡ true
out-of_page who p t gs m = some-mono (same_grant (grant who p t)) (is_of p) gs
    (λ g h. eq-eqb g.page p (sym (eqb-true p g.page (and_parts (p == g.page) _ (and_parts (who == g.client) _ h).1).0))) m

-- once the one grant of p is gone, none is left
pub one-gone : (who p t : ℕ) (gs : List Grant) → OnePage gs → is_out (grant who p t) gs ≡ true → some (is_of p) (without (λ g. g.serial) (Some t) gs) ≡ false
one-gone who p t [] h m = refl
one-gone who p t (g ∷ gs) h m = go (one-gone who p t gs h.1) (same_grant (grant who p t) g) refl m
  where
    later : is_out (grant who p t) gs ≡ true → (g.page == p) ≡ false
    later m = ne_eqb g.page p (λ e. let k = rw e at h.0 in let n = out-of_page who p t gs m in cc)

    none : (g.page == p) ≡ true → some (is_of p) (filter (λ y. not (y.serial == t)) gs) ≡ false
    none e = false_from_ne_true _ (λ m. let n = some-filter (is_of p) (λ y. not (y.serial == t)) gs m in let k = rw (eqb-true g.page p e) at h.0 in cc)

    cases : (b d : Bool) → (g.serial == t) ≡ b → (g.page == p) ≡ d → (d ≡ true → b ≡ true → some (is_of p) (filter (λ y. not (y.serial == t)) gs) ≡ false) → (d ≡ false → some (is_of p) (filter (λ y. not (y.serial == t)) gs) ≡ false) → (d ≡ true → b ≡ true)
        → some (is_of p) (cond (not b) (g ∷ filter (λ y. not (y.serial == t)) gs) (filter (λ y. not (y.serial == t)) gs)) ≡ false
    cases true true i j f k l = f refl refl
    cases true false i j f k l = k refl
    cases false true i j f k l = let x = l refl in cc
    cases false false i j f k l = rw j (k refl)

    go : (is_out (grant who p t) gs ≡ true → some (is_of p) (without (λ g. g.serial) (Some t) gs) ≡ false) → (b : Bool) → same_grant (grant who p t) g ≡ b → (b || is_out (grant who p t) gs) ≡ true
        → some (is_of p) (without (λ g. g.serial) (Some t) (g ∷ gs)) ≡ false
    go ih true e m =
        let a = and_parts (p == g.page) (t == g.serial) (and_parts (who == g.client) _ e).1 in
        let page : (g.page == p) ≡ true = eq-eqb g.page p (sym (eqb-true p g.page a.0)) in
        let serial : (g.serial == t) ≡ true = eq-eqb g.serial t (sym (eqb-true t g.serial a.1)) in
        rw serial (none page)
    go ih false e m = cases (g.serial == t) (g.page == p) refl refl (λ d b. none d) (λ d. ih m) (λ d. let x = later m in let y : (g.page == p) ≡ true = d in cc)

abbrev entry : ℕ → Call → Reply → Entry
entry who call reply = record { client = who; call = call; reply = reply }

-- one more good end saves no fewer pages
began-ended : (past : Trail) (e : Entry) (p : ℕ) (r : Reply) → began_saving past p r ≡ true → began_saving (e ∷ past) p r ≡ true
began-ended past e p (WriteFirst t q image) k = let a = and_parts (q == p) _ k in and_from (q == p) _ a.0 (or_right (ends_well t e.call) _ a.1)
began-ended past e p _ k = cc

settles-ended : (past : Trail) (e : Entry) (p : ℕ) (d : Entry) → settles past p d ≡ true → settles (e ∷ past) p d ≡ true
settles-ended past e p d k = elim (or_cases (discards p d) (began_saving past p d.reply) k) as (λ _. settles (e ∷ past) p d ≡ true)
    [ inl i ↦ or_left (discards p d) (began_saving (e ∷ past) p d.reply) i | inr j ↦ or_right (discards p d) (began_saving (e ∷ past) p d.reply) (began-ended past e p d.reply j) ]

pub unsaved-ended : (past : Trail) (e : Entry) (p : ℕ) → since (writes p) (settles (e ∷ past) p) past ≡ true → unsaved past p ≡ true
unsaved-ended past e p m = since-mono (writes p) (settles past p) (settles (e ∷ past) p) past (settles-ended past e p) m

-- a discard leaves no page unsaved but others that were
pub unsaved-dropped : (past : Trail) (p q : ℕ) → (not ((p == q) || false) && unsaved past q) ≡ true → ((p == q) ≡ false) × (unsaved past q ≡ true)
unsaved-dropped past p q h = let a = and_parts (not ((p == q) || false)) _ h in ((or_parts (p == q) false (not-true ((p == q) || false) a.0)).0, a.1)

-- the pages that an idle page is none of
pub other-way : (p q : ℕ) → (p == q) ≡ false → (q == p) ≡ false
other-way p q h = ne_eqb q p (λ i. eqb-false p q h (sym i))

pub not-idle : (past : Trail) (p q : ℕ) → pins past p ≡ 0 → some (is_of q) (passes_out past) ≡ true → (q == p) ≡ false
not-idle past p q n m = ne_eqb q p (λ e. let k = count-none (is_of p) (passes_out past) n in let i = rw e at m in cc)

not-victim : (c : Parameters) (past : Trail) (v p : ℕ) → victim c past ≡ Some v → some (is_of p) (passes_out past) ≡ true → (p == v) ≡ false
not-victim c past v p h m =
    let w = victim-is c past v h in
    ne_eqb p v (λ e. let k = count-none (is_of v) (passes_out past) (eqb-true (pins past v) 0 (and_parts (pins past v == 0) _ (and_parts (resident past v) _ w.eligible).1).0) in let n = rw e at m in cc)

stays : (past : Trail) (v p : ℕ) → (p == v) ≡ false → resident past p ≡ true → some (λ q. q == p) (without (λ q. q) (Some v) (residents past)) ≡ true
stays past v p e m = member-filter (λ y. not (y == v)) (residents past) p (not_from_false (p == v) e) m

-- a page that is asked for while it is away
asked : (past : Trail) (p q : ℕ) → (p == q) ≡ true → resident past p ≡ false → resident past q ≡ false
asked past p q e h = rw (eqb-true p q e) at h

-- the page of a read that is out
module _ (c : Parameters) (past : Trail) (who : ℕ) (h : Places past) where
  missed : (p q t : ℕ) → resident past p ≡ false → (p == q || loading past q) ≡ true → resident past q ≡ false
  missed p q t n m = elim (or_cases (p == q) (loading past q) m) as (λ _. resident past q ≡ false) [ inl e ↦ asked past p q e n | inr l ↦ h.away q l ]

  pinned-after : (p n : ℕ) (q : ℕ) → resident past p ≡ true → (p == q || some (is_of q) (passes_out past)) ≡ true → resident past q ≡ true
  pinned-after p n q r m = elim (or_cases (p == q) (some (is_of q) (passes_out past)) m) as (λ _. resident past q ≡ true) [ inl e ↦ rw (eqb-true p q e) at r | inr l ↦ h.pinned q l ]

  places-with : (call : Call) (reply : Reply) → Event c past who call reply → Places (entry who call reply ∷ past)
  places-with _ _ (ticked n) = h
  places-with _ _ (marked lsn) = h
  places-with _ _ (fix_hit p l r) = record { away = h.away; once = h.once; pinned = λ q m. pinned-after p 0 q r m; dirty = h.dirty }
  places-with _ _ (fix_load p m f) = record {
    away = λ q l. missed p q 0 m.not_resident l;
    once = (m.not_loading, h.once);
    pinned = h.pinned;
    dirty = h.dirty;
  }
  places-with _ _ (fix_replace p v m w u) = record {
    away = λ q l. false_from_ne_true _ (λ k. let a = missed p q 0 m.not_resident l in let b = some-without (λ y. y == q) (λ y. y) (Some v) (residents past) k in cc);
    once = (m.not_loading, h.once);
    pinned = λ q l. stays past v q (not-victim c past v q w l) (h.pinned q l);
    dirty = λ q l. stays past v q (ne_eqb q v (λ e. let k : unsaved past v ≡ true = subst (λ x. unsaved past x ≡ true) e l in cc)) (h.dirty q l);
  }
  places-with _ _ (fix_write p v m w g) = record { away = h.away; once = h.once; pinned = h.pinned; dirty = λ q l. h.dirty q (and_parts _ _ l).1 }
  places-with _ _ (fix_busy p l) = h
  places-with _ _ (fix_none p m w) = h
  places-with _ _ (fix_log p v m w) = h
  places-with _ _ (flush_busy p) = h
  places-with _ _ (flush_absent p r) = h
  places-with _ _ (flush_clean p r u) = h
  places-with _ _ (flush_log p) = h
  places-with _ _ (discard_busy p) = h
  places-with _ _ (discard_absent p x) = record { away = h.away; once = h.once; pinned = h.pinned; dirty = λ q l. h.dirty q (unsaved-dropped past p q l).1 }
  places-with _ _ (discard_pinned p) = h
  places-with _ _ (discarded p x) = record {
    away = λ q l. false_from_ne_true _ (λ k. let a = h.away q l in let b = some-without (λ y. y == q) (λ y. y) (Some p) (residents past) k in cc);
    once = h.once;
    pinned = λ q l. stays past p q (not-idle past p q x.unpinned l) (h.pinned q l);
    dirty = λ q l. let u = unsaved-dropped past p q l in stays past p q (other-way p q u.0) (h.dirty q u.1);
  }
  places-with _ _ (flush_write p r w g) = record { away = h.away; once = h.once; pinned = h.pinned; dirty = λ q l. h.dirty q (and_parts _ _ l).1 }
  places-with _ _ (read_good t p image o) = record {
    away = λ q l. false_from_ne_true _ (λ k. elim (or_cases (p == q) (resident past q) k) as (λ _. ⊥) [
      | inl e ↦ (let a = rw (eqb-true p q e) at (one-gone who p t (reads_out past) h.once o) in cc)
      | inr r ↦ (let a = h.away q (some-without (is_of q) (λ g. g.serial) (Some t) (reads_out past) l) in cc)
    ]);
    once = OnePage-filter (λ g. not (g.serial == t)) (reads_out past) h.once;
    pinned = λ q m. elim (or_cases (p == q) (some (is_of q) (passes_out past)) m) as (λ _. (p == q || resident past q) ≡ true) [ inl e ↦ or_left (p == q) (resident past q) e | inr l ↦ or_right (p == q) (resident past q) (h.pinned q l) ];
    dirty = λ q l. or_right (p == q) (resident past q) (h.dirty q l);
  }
  places-with _ _ (read_bad t p o) = record {
    away = λ q l. h.away q (some-without (is_of q) (λ g. g.serial) (Some t) (reads_out past) l);
    once = OnePage-filter (λ g. not (g.serial == t)) (reads_out past) h.once;
    pinned = h.pinned;
    dirty = h.dirty;
  }
  places-with _ _ (read_wrong t p o) = record {
    away = λ q l. h.away q (some-without (is_of q) (λ g. g.serial) (Some t) (reads_out past) l);
    once = OnePage-filter (λ g. not (g.serial == t)) (reads_out past) h.once;
    pinned = h.pinned;
    dirty = h.dirty;
  }
  places-with _ _ (write_bad t p o) = h
  places-with _ _ (write_clean t p o w) = record { away = h.away; once = h.once; pinned = h.pinned; dirty = λ q l. h.dirty q (unsaved-ended past (entry who (WriteEnd t p true) Cleaned) q l) }
  places-with _ _ (write_dirty t p o w) = record { away = h.away; once = h.once; pinned = h.pinned; dirty = λ q l. h.dirty q (unsaved-ended past (entry who (WriteEnd t p true) StillDirty) q l) }
  places-with _ _ (page_read n p o) = h
  places-with _ _ (page_written n p offset bytes lsn o) = record {
    away = h.away;
    once = h.once;
    pinned = h.pinned;
    dirty = λ q l. elim (or_cases (p == q) (unsaved past q) l) as (λ _. resident past q ≡ true)
        [ inl e ↦ rw (eqb-true p q e) at (h.pinned p (out-of_page who p n (passes_out past) o)) | inr k ↦ h.dirty q k ];
  }
  places-with _ _ (unfixed n p o) = record { away = h.away; once = h.once; pinned = λ q m. h.pinned q (some-without (is_of q) (λ g. g.serial) (Some n) (passes_out past) m); dirty = h.dirty }
  places-with _ _ purged = h

pub places : (c : Parameters) (past : Trail) → Legal c past → Places past
places c [] l = record { away = λ p h. refl; once = tt; pinned = λ p h. h; dirty = λ p h. h }
places c (e ∷ past) l = places-with c past e.client (places c past l.before) e.call e.reply (event-of c past e l.here)
