-- No image goes out beyond the durable log: where a write-out of a page begins, each earlier write of the page since its last discard has an LSN that is durable.
use Rattle.std.proofs.Common.{subst, ◌≡◌, refl, ap, ℕ, ◌≤◌, max, Bool, true, false, not, ◌&&◌, if◌then◌else◌, List, [], ◌∷◌, filter_map, unwrap_or, Some, None, arith}
use Rattle.std.proofs.lemmas.Bool.{eqb-true, eq-eqb, or_parts, false_from_ne_true}
use Rattle.bp_trail.specs.declared.entries.Entry.{Entry}
use Rattle.bp_trail.specs.declared.entries.Call.{Call}
use Rattle.bp_trail.specs.declared.entries.Reply.{Reply}
use Rattle.bp_trail.specs.declared.entries.Reply.TheVariants.{WriteFirst}
use Rattle.bp_trail.specs.Parameters.{Parameters}
use Rattle.bp_trail.specs.Lists.{greatest, after_last, since}
use Rattle.bp_trail.specs.Event.{begins_of, discards, writes, loads, lsn_written, lsn_of, marked}
use Rattle.bp_trail.specs.Trail.{Trail}
use Rattle.bp_trail.specs.Clock.{durable}
use Rattle.bp_trail.specs.Passes.{reads_out}
use Rattle.bp_trail.specs.Places.{resident}
use Rattle.bp_trail.specs.Saved.{unsaved, page_lsn, began_saving, settles}
use Rattle.bp_trail.specs.Legal.{IsLawful, Legal}
use Rattle.bp_trail.proofs.Events.{Event, event-of}
use Rattle.bp_trail.proofs.Events.Event.{fix_write, flush_write, read_good}
use Rattle.bp_trail.proofs.Lists.{greatest-with}
use Rattle.bp_trail.proofs.Places.{Places, places, out-of_page}

-- the entries since p was last discarded
abbrev pub recent : ℕ → Trail → Trail
recent p past = after_last (discards p) past

-- the greatest LSN of the writes of p in a list
abbrev pub written_lsn : ℕ → Trail → ℕ
written_lsn p past = greatest (filter_map (lsn_written p) past)

-- each write of p since its last discard is counted by its page_lsn or durable, and so is each that no write-out has begun after
abbrev pub Logged : Trail → Type 0
Logged past = record {
  by_top : (p : ℕ) → written_lsn p (recent p past) ≤ max (page_lsn past p) (durable past);
  by_begin : (p : ℕ) → written_lsn p (recent p past) ≤ max (written_lsn p (after_last (λ e. begins_of p e.reply) (recent p past))) (durable past);
}

no-lsn : (p : ℕ) (e : Entry) → writes p e ≡ false → lsn_written p e ≡ None
no-lsn p e h = ap (λ b. if b then Some (lsn_of e.call) else None) h

pub not-begun : (whole : Trail) (p : ℕ) (r : Reply) → begins_of p r ≡ false → began_saving whole p r ≡ false
not-begun whole p (WriteFirst t q image) h = rw h refl
not-begun whole p _ h = refl

-- a page that is saved has no write since its last discard and since its last write-out began
saved-none : (whole : Trail) (p : ℕ) (past : Trail) → since (writes p) (settles whole p) past ≡ false → written_lsn p (after_last (λ e. begins_of p e.reply) (recent p past)) ≡ 0
saved-none whole p [] h = refl
saved-none whole p (e ∷ past) h = go (discards p e) refl (begins_of p e.reply) refl (saved-none whole p past) (or_parts (writes p e) _ h)
  where
    go : (d : Bool) → discards p e ≡ d → (b : Bool) → begins_of p e.reply ≡ b → (since (writes p) (settles whole p) past ≡ false → written_lsn p (after_last (λ e. begins_of p e.reply) (recent p past)) ≡ 0)
        → (writes p e ≡ false) × ((not (settles whole p e) && since (writes p) (settles whole p) past) ≡ false)
        → written_lsn p (after_last (λ e. begins_of p e.reply) (if d then [] else e ∷ recent p past)) ≡ 0
    go true d b i ih h = refl
    go false d true i ih h = rw i refl
    go false d false i ih h =
        let k : (not (settles whole p e) && since (writes p) (settles whole p) past) ≡ false = h.1 in
        let n : since (writes p) (settles whole p) past ≡ false = rw (d, not-begun whole p e.reply i) at k in
        let z = no-lsn p e h.0 in
        rw (i, z) (ih n)

saved-durable : (past : Trail) (p : ℕ) → Logged past → unsaved past p ≡ false → written_lsn p (recent p past) ≤ durable past
saved-durable past p h u =
    let z = saved-none past p past u in
    let b = h.by_begin p in
    omega arith

pub record Arrives (past : Trail) (p : ℕ) (e : Entry) : Type 0 where
  pub no_write : writes p e ≡ false
  pub was_away : resident past p ≡ false

pub record Goes (past : Trail) (p : ℕ) (e : Entry) : Type 0 where
  pub no_write : writes p e ≡ false
  pub logged : page_lsn past p ≤ durable past

abbrev entry : ℕ → Call → Reply → Entry
entry who call reply = record { client = who; call = call; reply = reply }

module _ (c : Parameters) (past : Trail) (who : ℕ) (h : Places past) where
  arrives : (call : Call) (reply : Reply) → Event c past who call reply → (p : ℕ) → loads p (entry who call reply) ≡ true → Arrives past p (entry who call reply)
  arrives _ _ (read_good t q image o) p m = record { no_write = refl; was_away = rw (eqb-true q p m) at (h.away q (out-of_page who q t (reads_out past) o)) }
  arrives _ _ _ p m = cc

  goes : (call : Call) (reply : Reply) → Event c past who call reply → (p : ℕ) → begins_of p reply ≡ true → Goes past p (entry who call reply)
  goes _ _ (fix_write q v m w g) p k = record { no_write = refl; logged = subst (λ x. page_lsn past x ≤ durable past) (eqb-true v p k) g.logged }
  goes _ _ (flush_write v r w g) p k = record { no_write = refl; logged = subst (λ x. page_lsn past x ≤ durable past) (eqb-true v p k) g.logged }
  goes _ _ _ p k = cc

away-saved : (past : Trail) (p : ℕ) → Places past → resident past p ≡ false → unsaved past p ≡ false
away-saved past p h r = false_from_ne_true (unsaved past p) (λ u. let k = h.dirty p u in cc)

logged-with : (c : Parameters) (past : Trail) (e : Entry) → Places past → IsLawful c past e → Logged past → Logged (e ∷ past)
logged-with c past e h l g = record {
  by_top = λ p. page_lsn-at p (discards p e) (loads p e) refl;
  by_begin = λ p. begin-at p (discards p e) (begins_of p e.reply) refl;
}
  where
    event : Event c past e.client e.call e.reply
    event = event-of c past e l

    marks : durable (e ∷ past) ≡ max (unwrap_or (marked e.call) 0) (durable past)
    marks = greatest-with (λ e. marked e.call) e past

    writes-lsn : (p : ℕ) → written_lsn p (e ∷ recent p past) ≡ max (unwrap_or (lsn_written p e) 0) (written_lsn p (recent p past))
    writes-lsn p = greatest-with (lsn_written p) e (recent p past)

    page_lsn-at : (p : ℕ) (d b : Bool) → loads p e ≡ b → written_lsn p (if d then [] else e ∷ recent p past) ≤ max (greatest (filter_map (lsn_written p) (if b then [] else e ∷ after_last (loads p) past))) (durable (e ∷ past))
    page_lsn-at p true b m = omega arith
    page_lsn-at p false true m =
        let a = arrives c past e.client h e.call e.reply event p m in
        let z = no-lsn p e a.no_write in
        let d = saved-durable past p g (away-saved past p h a.was_away) in
        let m = marks in
        let w : written_lsn p (e ∷ recent p past) ≡ written_lsn p (recent p past) = rw z refl in
        omega arith
    page_lsn-at p false false m =
        let t : written_lsn p (recent p past) ≤ max (page_lsn past p) (durable past) = g.by_top p in
        let m = marks in
        let w = writes-lsn p in
        let x : written_lsn p (e ∷ after_last (loads p) past) ≡ max (unwrap_or (lsn_written p e) 0) (page_lsn past p) = greatest-with (lsn_written p) e (after_last (loads p) past) in
        let goal : written_lsn p (e ∷ recent p past) ≤ max (written_lsn p (e ∷ after_last (loads p) past)) (durable (e ∷ past)) = omega arith in
        goal

    begin-at : (p : ℕ) (d b : Bool) → begins_of p e.reply ≡ b → written_lsn p (if d then [] else e ∷ recent p past) ≤ max (written_lsn p (after_last (λ e. begins_of p e.reply) (if d then [] else e ∷ recent p past))) (durable (e ∷ past))
    begin-at p true b m = omega arith
    begin-at p false true m =
        let a = goes c past e.client h e.call e.reply event p m in
        let z = no-lsn p e a.no_write in
        let d = a.logged in
        let t : written_lsn p (recent p past) ≤ max (page_lsn past p) (durable past) = g.by_top p in
        let m = marks in
        let w : written_lsn p (e ∷ recent p past) ≡ written_lsn p (recent p past) = rw z refl in
        omega arith
    begin-at p false false m =
        let t = g.by_begin p in
        let n = marks in
        let w = writes-lsn p in
        let x = greatest-with (lsn_written p) e (after_last (λ e. begins_of p e.reply) (recent p past)) in
        let goal : written_lsn p (e ∷ recent p past) ≤ max (written_lsn p (e ∷ after_last (λ e. begins_of p e.reply) (recent p past))) (durable (e ∷ past)) = omega arith in
        rw m goal

pub logged : (c : Parameters) (past : Trail) → Legal c past → Logged past
logged c [] l = record { by_top = λ p. omega arith; by_begin = λ p. omega arith }
logged c (e ∷ past) l = logged-with c past e (places c past l.before) l.here (logged c past l.before)

-- At each begin of a write-out, every earlier write of the page since its last discard has an LSN that is durable.
pub write_ahead : (c : Parameters) (past : Trail) (e : Entry) (t p : ℕ) (image : List ℕ) → Legal c (e ∷ past) → e.reply ≡ WriteFirst t p image → written_lsn p (recent p past) ≤ durable past
write_ahead c past e t p image l r =
    let m : begins_of p e.reply ≡ true = rw r (eq-eqb p p refl) in
    let a = goes c past e.client (places c past l.before) e.call e.reply (event-of c past e l.here) p m in
    let g : written_lsn p (recent p past) ≤ max (page_lsn past p) (durable past) = (logged c past l.before).by_top p in
    let d = a.logged in
    omega arith
