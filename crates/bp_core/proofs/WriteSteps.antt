-- The begin and the end of a write-out keep what the core holds in agreement with the trail.
use Rattle.std.proofs.Common.{inl, ◌≡◌, ℕ, suc, ◌+◌, nat_lt, Bool, true, false, not, if◌then◌else◌, ◌||◌, ◌&&◌, ◌==◌, [], ◌∷◌, length, filter, None, refl, sym, ◌∙◌, ap, subst, arith}
use Rattle.std.proofs.lemmas.Bool.{and_parts, or_right, eqb-true}
use Rattle.bp_trail.specs.declared.entries.Call.{Call}
use Rattle.bp_trail.specs.declared.entries.Call.TheVariants.{Fix, WriteEnd, Flush}
use Rattle.bp_trail.specs.declared.entries.Reply.TheVariants.{WriteFirst, Cleaned, StillDirty, WriteFailed}
use Rattle.bp_trail.specs.Parameters.{Parameters}
use Rattle.bp_trail.specs.Lists.{some, since}
use Rattle.bp_trail.specs.Event.{grant, begins_of, discards, writes}
use Rattle.bp_trail.specs.Trail.{Trail}
use Rattle.bp_trail.specs.Passes.{tickets, writes_out, pins, is_of}
use Rattle.bp_trail.specs.Places.{writing}
use Rattle.bp_trail.specs.Saved.{unsaved, page_lsn, first_lsn}
use Rattle.bp_trail.specs.Images.{held}
use Rattle.bp_trail.specs.PageMap.{reply_of}
use Rattle.bp_trail.specs.Legal.{is_out, allowed, Legal}
use Rattle.bp_frames.specs.Frames.{saving, saved, not_saved, changed_at}
use Rattle.bp_core.specs.Agreement.{Parts, Agrees, frame_of, parts_writes, rewritten, rewritten_lsn}
use Rattle.bp_trail.proofs.Serials.{numbered, rest}
use Rattle.bp_trail.proofs.Residents.{reads-rest}
use Rattle.bp_trail.proofs.Ranges.{owned, owner}
use Rattle.bp_core.specs.Outcomes.{IsBegin}
use Rattle.bp_core.specs.Outcomes.IsBegin.{by_fix, by_flush}
use Rattle.bp_core.proofs.Steps.{by}
use Rattle.bp_core.proofs.PassSteps.{eqb-sym, frames-changed, others-stay}
use Rattle.bp_trail.proofs.Places.{one-gone}
use Rattle.bp_trail.proofs.Known.{airborne}
use Rattle.bp_trail.proofs.Flights.{flights, in_flight, in-flight-of, unsaved-ended-well, since-other, begin-writes}
use Rattle.bp_trail.proofs.Redo.{first-ended-well, first-other}
use Rattle.bp_trail.proofs.Events.{event-of}
use Rattle.bp_trail.proofs.Ranges.{no_end}
use Rattle.bp_trail.specs.Saved.{written_since}
use Rattle.bp_trail.specs.Lists.{after_last}
use Rattle.bp_trail.specs.Event.{begins, ends_well}
use Rattle.std.proofs.lemmas.Bool.{not-true}

and-false : (b : Bool) → (b && false) ≡ false
and-false true = refl
and-false false = refl

-- of the write-out in flight, what was written since its begin is what was written since the newest begin
written-is : (c : Parameters) (t p : ℕ) (past : Trail) → Legal c past → in_flight t p past ≡ true → written_since past t p ≡ rewritten past p
written-is c t p [] l f = cc
written-is c t p (e ∷ past) l f = go (begins t e.reply) refl f (written-is c t p past l.before)
  where
    go : (b : Bool) → begins t e.reply ≡ b → (if b then begins_of p e.reply && not (some (λ d. begins t d.reply) past) else not (begins_of p e.reply) && (not (discards p e) && in_flight t p past)) ≡ true
        → (in_flight t p past ≡ true → written_since past t p ≡ rewritten past p)
        → some (writes p) (if b then [] else e ∷ after_last (λ e. begins t e.reply) past) ≡ (writes p e || (not (parts_writes p e) && rewritten past p))
    go true i k ih = let j = (and_parts (begins_of p e.reply) _ k).0 in rw (begin-writes c past e.client e.call e.reply (event-of c past e l.here) t p i, or_right (discards p e) (begins_of p e.reply) j) refl
    go false i k ih =
        let j = and_parts (not (begins_of p e.reply)) _ k in
        let d = and_parts (not (discards p e)) _ j.1 in
        rw (not-true (discards p e) d.0, not-true (begins_of p e.reply) j.0) (ap (λ b. writes p e || b) (ih d.1))

module _ (c : Parameters) (past : Trail) (x : Parts) (a : Agrees c past x) (who : ℕ) where
  pub agrees-begin-fix : (p v : ℕ) → nat_lt who c.clients ≡ true → allowed c past who (Fix p) ≡ true → WriteFirst (tickets past) v (held past v) ≡ reply_of c past (Fix p)
      → Agrees c (by who (Fix p) (WriteFirst x.begun v (held past v)) ∷ past) (record x { begun = x.begun + 1; writes = grant who v x.begun ∷ x.writes; frames = changed_at v saving x.frames })
  agrees-begin-fix p v client may is = record {
    legal = record { here = record { client = client; allowed = may; reply = inl (ap (λ t. WriteFirst t v (held past v)) a.observed.tickets_is ∙ is) }; before = a.legal };
    observed = record {
      clock_is = a.observed.clock_is;
      durable_is = a.observed.durable_is;
      passes_is = a.observed.passes_is;
      tickets_is = omega (arith, a.observed.tickets_is, one-more);
      out_is = a.observed.out_is;
      reads_is = a.observed.reads_is;
      writes_is = ap (λ gs. grant who v x.begun ∷ gs) a.observed.writes_is;
      frames_is = frames-changed c past x a v saving (by who (Fix p) (WriteFirst x.begun v (held past v)) ∷ past) (λ q. one q (q == v) refl);
      stamps_are = a.observed.stamps_are;
      held_is = a.observed.held_is;
    };
    k_is = a.k_is;
    correlated_is = a.correlated_is;
    retained_is = a.retained_is;
    in_time = a.in_time;
    by_now = a.by_now;
  }
    where
      one-more : tickets (by who (Fix p) (WriteFirst x.begun v (held past v)) ∷ past) ≡ suc (tickets past)
      one-more = refl

      none : some (λ e. ends_well x.begun e.call) past ≡ false
      none = no_end c past a.legal x.begun (omega (arith, a.observed.tickets_is))

      unsaved-same : (q : ℕ) → unsaved (by who (Fix p) (WriteFirst x.begun v (held past v)) ∷ past) q ≡ unsaved past q
      unsaved-same q = ap (λ b. not b && unsaved past q) (ap (λ b. (v == q) && b) none ∙ and-false (v == q))

      first-same : (q : ℕ) → first_lsn (by who (Fix p) (WriteFirst x.begun v (held past v)) ∷ past) q ≡ first_lsn past q
      first-same q = ap (λ (b : Bool). if b then None else first_lsn past q) (ap (λ b. (v == q) && b) none ∙ and-false (v == q))

      one : (q : ℕ) (b : Bool) → (q == v) ≡ b → frame_of (by who (Fix p) (WriteFirst x.begun v (held past v)) ∷ past) q (x.places q) ≡ (if b then saving (frame_of past q (x.places q)) else frame_of past q (x.places q))
      one q true e =
          let w : rewritten (by who (Fix p) (WriteFirst x.begun v (held past v)) ∷ past) q ≡ false = ap (λ b. not b && rewritten past q) (eqb-sym v q ∙ e) in
          let u = unsaved-same q in
          let f = first-same q in
          let r : rewritten_lsn (by who (Fix p) (WriteFirst x.begun v (held past v)) ∷ past) q ≡ None = ap (λ (b : Bool). if b then None else rewritten_lsn past q) (eqb-sym v q ∙ e) in
          let o : writing (by who (Fix p) (WriteFirst x.begun v (held past v)) ∷ past) q ≡ true = ap (λ b. b || writing past q) (eqb-sym v q ∙ e) in
          λ i. record { page = q; block = x.places q; pins = pins past q; is_unsaved = u i; is_rewritten = w i; is_writing = o i; first_lsn = f i; rewritten_lsn = r i; page_lsn = page_lsn past q; image = held past q }
      one q false e =
          let w : rewritten (by who (Fix p) (WriteFirst x.begun v (held past v)) ∷ past) q ≡ rewritten past q = ap (λ b. not b && rewritten past q) (eqb-sym v q ∙ e) in
          let u = unsaved-same q in
          let f = first-same q in
          let r : rewritten_lsn (by who (Fix p) (WriteFirst x.begun v (held past v)) ∷ past) q ≡ rewritten_lsn past q = ap (λ (b : Bool). if b then None else rewritten_lsn past q) (eqb-sym v q ∙ e) in
          let o : writing (by who (Fix p) (WriteFirst x.begun v (held past v)) ∷ past) q ≡ writing past q = ap (λ b. b || writing past q) (eqb-sym v q ∙ e) in
          λ i. record { page = q; block = x.places q; pins = pins past q; is_unsaved = u i; is_rewritten = w i; is_writing = o i; first_lsn = f i; rewritten_lsn = r i; page_lsn = page_lsn past q; image = held past q }

  pub agrees-begin-flush : (p v : ℕ) → nat_lt who c.clients ≡ true → allowed c past who (Flush p) ≡ true → WriteFirst (tickets past) v (held past v) ≡ reply_of c past (Flush p)
      → Agrees c (by who (Flush p) (WriteFirst x.begun v (held past v)) ∷ past) (record x { begun = x.begun + 1; writes = grant who v x.begun ∷ x.writes; frames = changed_at v saving x.frames })
  agrees-begin-flush p v client may is = record {
    legal = record { here = record { client = client; allowed = may; reply = inl (ap (λ t. WriteFirst t v (held past v)) a.observed.tickets_is ∙ is) }; before = a.legal };
    observed = record {
      clock_is = a.observed.clock_is;
      durable_is = a.observed.durable_is;
      passes_is = a.observed.passes_is;
      tickets_is = omega (arith, a.observed.tickets_is, one-more);
      out_is = a.observed.out_is;
      reads_is = a.observed.reads_is;
      writes_is = ap (λ gs. grant who v x.begun ∷ gs) a.observed.writes_is;
      frames_is = frames-changed c past x a v saving (by who (Flush p) (WriteFirst x.begun v (held past v)) ∷ past) (λ q. one q (q == v) refl);
      stamps_are = a.observed.stamps_are;
      held_is = a.observed.held_is;
    };
    k_is = a.k_is;
    correlated_is = a.correlated_is;
    retained_is = a.retained_is;
    in_time = a.in_time;
    by_now = a.by_now;
  }
    where
      one-more : tickets (by who (Flush p) (WriteFirst x.begun v (held past v)) ∷ past) ≡ suc (tickets past)
      one-more = refl

      none : some (λ e. ends_well x.begun e.call) past ≡ false
      none = no_end c past a.legal x.begun (omega (arith, a.observed.tickets_is))

      unsaved-same : (q : ℕ) → unsaved (by who (Flush p) (WriteFirst x.begun v (held past v)) ∷ past) q ≡ unsaved past q
      unsaved-same q = ap (λ b. not b && unsaved past q) (ap (λ b. (v == q) && b) none ∙ and-false (v == q))

      first-same : (q : ℕ) → first_lsn (by who (Flush p) (WriteFirst x.begun v (held past v)) ∷ past) q ≡ first_lsn past q
      first-same q = ap (λ (b : Bool). if b then None else first_lsn past q) (ap (λ b. (v == q) && b) none ∙ and-false (v == q))

      one : (q : ℕ) (b : Bool) → (q == v) ≡ b → frame_of (by who (Flush p) (WriteFirst x.begun v (held past v)) ∷ past) q (x.places q) ≡ (if b then saving (frame_of past q (x.places q)) else frame_of past q (x.places q))
      one q true e =
          let w : rewritten (by who (Flush p) (WriteFirst x.begun v (held past v)) ∷ past) q ≡ false = ap (λ b. not b && rewritten past q) (eqb-sym v q ∙ e) in
          let u = unsaved-same q in
          let f = first-same q in
          let r : rewritten_lsn (by who (Flush p) (WriteFirst x.begun v (held past v)) ∷ past) q ≡ None = ap (λ (b : Bool). if b then None else rewritten_lsn past q) (eqb-sym v q ∙ e) in
          let o : writing (by who (Flush p) (WriteFirst x.begun v (held past v)) ∷ past) q ≡ true = ap (λ b. b || writing past q) (eqb-sym v q ∙ e) in
          λ i. record { page = q; block = x.places q; pins = pins past q; is_unsaved = u i; is_rewritten = w i; is_writing = o i; first_lsn = f i; rewritten_lsn = r i; page_lsn = page_lsn past q; image = held past q }
      one q false e =
          let w : rewritten (by who (Flush p) (WriteFirst x.begun v (held past v)) ∷ past) q ≡ rewritten past q = ap (λ b. not b && rewritten past q) (eqb-sym v q ∙ e) in
          let u = unsaved-same q in
          let f = first-same q in
          let r : rewritten_lsn (by who (Flush p) (WriteFirst x.begun v (held past v)) ∷ past) q ≡ rewritten_lsn past q = ap (λ (b : Bool). if b then None else rewritten_lsn past q) (eqb-sym v q ∙ e) in
          let o : writing (by who (Flush p) (WriteFirst x.begun v (held past v)) ∷ past) q ≡ writing past q = ap (λ b. b || writing past q) (eqb-sym v q ∙ e) in
          λ i. record { page = q; block = x.places q; pins = pins past q; is_unsaved = u i; is_rewritten = w i; is_writing = o i; first_lsn = f i; rewritten_lsn = r i; page_lsn = page_lsn past q; image = held past q }

  module _ (t p : ℕ) (out : is_out (grant who p t) (writes_out past) ≡ true) where
    flies : in_flight t p past ≡ true
    flies = in-flight-of (λ t p. in_flight t p past) who p t (writes_out past) (flights c past a.legal).begun out

    pub written-seen : rewritten past p ≡ written_since past t p
    written-seen = sym (written-is c t p past a.legal flies)

    fewer : length (writes_out past) ≡ suc (length (rest t (writes_out past)))
    fewer = reads-rest who p t (writes_out past) (numbered c past a.legal).writes_once out

    clients : nat_lt who c.clients ≡ true
    clients = owner c who p t (writes_out past) (owned c past a.legal).writes out

    -- no write-out of the page is under way any longer, and those of other pages go on
    pub landed : (q : ℕ) → (q == p) ≡ true → some (is_of q) (rest t (writes_out past)) ≡ false
    landed q e = subst (λ y. some (is_of y) (rest t (writes_out past)) ≡ false) (sym (eqb-true q p e)) (one-gone who p t (writes_out past) (airborne c past a.legal).once out)

    pub still : (q : ℕ) → (q == p) ≡ false → some (is_of q) (rest t (writes_out past)) ≡ writing past q
    still q e = others-stay who p t q (writes_out past) (numbered c past a.legal).writes_once out (eqb-sym p q ∙ e)

    pub agrees-write_failed : Agrees c (by who (WriteEnd t p false) WriteFailed ∷ past) (record x { writes = filter (λ g. not (g.serial == t)) x.writes; frames = changed_at p not_saved x.frames })
    agrees-write_failed = record {
      legal = record { here = record { client = clients; allowed = out; reply = inl refl }; before = a.legal };
      observed = record {
        clock_is = a.observed.clock_is;
        durable_is = a.observed.durable_is;
        passes_is = a.observed.passes_is;
        tickets_is = a.observed.tickets_is;
        out_is = a.observed.out_is;
        reads_is = a.observed.reads_is;
        writes_is = ap (filter (λ g. not (g.serial == t))) a.observed.writes_is;
        frames_is = frames-changed c past x a p not_saved (by who (WriteEnd t p false) WriteFailed ∷ past) (λ q. one q (q == p) refl);
        stamps_are = a.observed.stamps_are;
        held_is = a.observed.held_is;
      };
      k_is = a.k_is;
      correlated_is = a.correlated_is;
      retained_is = a.retained_is;
      in_time = a.in_time;
      by_now = a.by_now;
    }
      where
        one : (q : ℕ) (b : Bool) → (q == p) ≡ b → frame_of (by who (WriteEnd t p false) WriteFailed ∷ past) q (x.places q) ≡ (if b then not_saved (frame_of past q (x.places q)) else frame_of past q (x.places q))
        one q true e = ap (λ o. record (frame_of past q (x.places q)) { is_writing = o }) (landed q e)
        one q false e = ap (λ o. record (frame_of past q (x.places q)) { is_writing = o }) (still q e)

    pub agrees-cleaned : written_since past t p ≡ false → Agrees c (by who (WriteEnd t p true) Cleaned ∷ past) (record x { writes = filter (λ g. not (g.serial == t)) x.writes; frames = changed_at p saved x.frames })
    agrees-cleaned since = record {
      legal = record { here = record { client = clients; allowed = out; reply = inl (sym (ap (λ b. if b then StillDirty else Cleaned) since)) }; before = a.legal };
      observed = record {
        clock_is = a.observed.clock_is;
        durable_is = a.observed.durable_is;
        passes_is = a.observed.passes_is;
        tickets_is = a.observed.tickets_is;
        out_is = a.observed.out_is;
        reads_is = a.observed.reads_is;
        writes_is = ap (filter (λ g. not (g.serial == t))) a.observed.writes_is;
        frames_is = frames-changed c past x a p saved (by who (WriteEnd t p true) Cleaned ∷ past) (λ q. one q (q == p) refl);
        stamps_are = a.observed.stamps_are;
        held_is = a.observed.held_is;
      };
      k_is = a.k_is;
      correlated_is = a.correlated_is;
      retained_is = a.retained_is;
      in_time = a.in_time;
      by_now = a.by_now;
    }
      where
        own : unsaved (by who (WriteEnd t p true) Cleaned ∷ past) p ≡ rewritten past p
        own = unsaved-ended-well c past who t p Cleaned a.legal out ∙ sym written-seen

        own-first : first_lsn (by who (WriteEnd t p true) Cleaned ∷ past) p ≡ rewritten_lsn past p
        own-first = first-ended-well c past who t p Cleaned a.legal out refl

        one : (q : ℕ) (b : Bool) → (q == p) ≡ b → frame_of (by who (WriteEnd t p true) Cleaned ∷ past) q (x.places q) ≡ (if b then saved (frame_of past q (x.places q)) else frame_of past q (x.places q))
        one q true e =
            let u : unsaved (by who (WriteEnd t p true) Cleaned ∷ past) q ≡ rewritten past q = subst (λ y. unsaved (by who (WriteEnd t p true) Cleaned ∷ past) y ≡ rewritten past y) (sym (eqb-true q p e)) own in
            let f : first_lsn (by who (WriteEnd t p true) Cleaned ∷ past) q ≡ rewritten_lsn past q = subst (λ y. first_lsn (by who (WriteEnd t p true) Cleaned ∷ past) y ≡ rewritten_lsn past y) (sym (eqb-true q p e)) own-first in
            let o = landed q e in
            λ i. record { page = q; block = x.places q; pins = pins past q; is_unsaved = u i; is_rewritten = rewritten past q; is_writing = o i; first_lsn = f i; rewritten_lsn = rewritten_lsn past q; page_lsn = page_lsn past q; image = held past q }
        one q false e =
            let u : unsaved (by who (WriteEnd t p true) Cleaned ∷ past) q ≡ unsaved past q = since-other c t p q past (eqb-sym p q ∙ e) past who Cleaned flies in
            let f : first_lsn (by who (WriteEnd t p true) Cleaned ∷ past) q ≡ first_lsn past q = first-other t p q past (eqb-sym p q ∙ e) who Cleaned past flies in
            let o = still q e in
            λ i. record { page = q; block = x.places q; pins = pins past q; is_unsaved = u i; is_rewritten = rewritten past q; is_writing = o i; first_lsn = f i; rewritten_lsn = rewritten_lsn past q; page_lsn = page_lsn past q; image = held past q }

    pub agrees-still_dirty : written_since past t p ≡ true → Agrees c (by who (WriteEnd t p true) StillDirty ∷ past) (record x { writes = filter (λ g. not (g.serial == t)) x.writes; frames = changed_at p saved x.frames })
    agrees-still_dirty since = record {
      legal = record { here = record { client = clients; allowed = out; reply = inl (sym (ap (λ b. if b then StillDirty else Cleaned) since)) }; before = a.legal };
      observed = record {
        clock_is = a.observed.clock_is;
        durable_is = a.observed.durable_is;
        passes_is = a.observed.passes_is;
        tickets_is = a.observed.tickets_is;
        out_is = a.observed.out_is;
        reads_is = a.observed.reads_is;
        writes_is = ap (filter (λ g. not (g.serial == t))) a.observed.writes_is;
        frames_is = frames-changed c past x a p saved (by who (WriteEnd t p true) StillDirty ∷ past) (λ q. one q (q == p) refl);
        stamps_are = a.observed.stamps_are;
        held_is = a.observed.held_is;
      };
      k_is = a.k_is;
      correlated_is = a.correlated_is;
      retained_is = a.retained_is;
      in_time = a.in_time;
      by_now = a.by_now;
    }
      where
        own : unsaved (by who (WriteEnd t p true) StillDirty ∷ past) p ≡ rewritten past p
        own = unsaved-ended-well c past who t p StillDirty a.legal out ∙ sym written-seen

        own-first : first_lsn (by who (WriteEnd t p true) StillDirty ∷ past) p ≡ rewritten_lsn past p
        own-first = first-ended-well c past who t p StillDirty a.legal out refl

        one : (q : ℕ) (b : Bool) → (q == p) ≡ b → frame_of (by who (WriteEnd t p true) StillDirty ∷ past) q (x.places q) ≡ (if b then saved (frame_of past q (x.places q)) else frame_of past q (x.places q))
        one q true e =
            let u : unsaved (by who (WriteEnd t p true) StillDirty ∷ past) q ≡ rewritten past q = subst (λ y. unsaved (by who (WriteEnd t p true) StillDirty ∷ past) y ≡ rewritten past y) (sym (eqb-true q p e)) own in
            let f : first_lsn (by who (WriteEnd t p true) StillDirty ∷ past) q ≡ rewritten_lsn past q = subst (λ y. first_lsn (by who (WriteEnd t p true) StillDirty ∷ past) y ≡ rewritten_lsn past y) (sym (eqb-true q p e)) own-first in
            let o = landed q e in
            λ i. record { page = q; block = x.places q; pins = pins past q; is_unsaved = u i; is_rewritten = rewritten past q; is_writing = o i; first_lsn = f i; rewritten_lsn = rewritten_lsn past q; page_lsn = page_lsn past q; image = held past q }
        one q false e =
            let u : unsaved (by who (WriteEnd t p true) StillDirty ∷ past) q ≡ unsaved past q = since-other c t p q past (eqb-sym p q ∙ e) past who StillDirty flies in
            let f : first_lsn (by who (WriteEnd t p true) StillDirty ∷ past) q ≡ first_lsn past q = first-other t p q past (eqb-sym p q ∙ e) who StillDirty past flies in
            let o = still q e in
            λ i. record { page = q; block = x.places q; pins = pins past q; is_unsaved = u i; is_rewritten = rewritten past q; is_writing = o i; first_lsn = f i; rewritten_lsn = rewritten_lsn past q; page_lsn = page_lsn past q; image = held past q }

module _ (c : Parameters) (past : Trail) (x : Parts) (a : Agrees c past x) (who v : ℕ) (client : nat_lt who c.clients ≡ true) where
  pub agrees-begin : (call : Call) → IsBegin call → allowed c past who call ≡ true → WriteFirst (tickets past) v (held past v) ≡ reply_of c past call
      → Agrees c (by who call (WriteFirst x.begun v (held past v)) ∷ past) (record x { begun = x.begun + 1; writes = grant who v x.begun ∷ x.writes; frames = changed_at v saving x.frames })
  agrees-begin _ (by_fix p) may is = agrees-begin-fix c past x a who p v client may is
  agrees-begin _ (by_flush p) may is = agrees-begin-flush c past x a who p v client may is
