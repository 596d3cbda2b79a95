-- Over a device that gives back what was written to a page, the page holds the plain map's image: since any opening h.
use Rattle.std.proofs.Common.{subst, ◌≡◌, refl, sym, ◌∙◌, ap, ℕ, Bool, true, false, not, ◌&&◌, ◌||◌, ◌==◌, if◌then◌else◌, List, [], ◌∷◌, ◌++◌, filter, Option, Some, None, IsSome, inl, inr}
use Rattle.std.proofs.lemmas.Bool.{eqb-true, eq-eqb, and_parts, or_parts, or_left, or_right, or_cases, not-true, false_from_ne_true, true≢false}
use Rattle.std.proofs.lemmas.List.{append-nil}
use Rattle.std.proofs.lemmas.Option.{none-some, same_Some}
use Rattle.bp_page.specs.Patched.{patched}
use Rattle.bp_trail.specs.declared.entries.Entry.{Entry}
use Rattle.bp_trail.specs.declared.entries.Call.{Call}
use Rattle.bp_trail.specs.declared.entries.Call.TheVariants.{Fix, Flush, WriteEnd}
use Rattle.bp_trail.specs.declared.entries.Reply.{Reply}
use Rattle.bp_trail.specs.declared.entries.Reply.TheVariants.{WriteFirst, Cleaned, StillDirty}
use Rattle.bp_trail.specs.Parameters.{Parameters}
use Rattle.bp_trail.specs.Lists.{some, since, after_last}
use Rattle.bp_trail.specs.Event.{grant, page_of, begins, begins_of, discards, ends_well, loads, writes}
use Rattle.bp_trail.specs.Trail.{Trail}
use Rattle.bp_trail.specs.Passes.{tickets, reads_out, writes_out, is_of}
use Rattle.bp_trail.specs.Places.{residents, resident}
use Rattle.bp_trail.specs.Saved.{began_saving, settles, unsaved}
use Rattle.bp_trail.specs.Images.{held, plain_since, plain_map, after_discard, after_read}
use Rattle.bp_trail.specs.Legal.{is_out, Legal}
use Rattle.bp_trail.specs.Device.{due, due_since, due_among, due_with, due_after, all_known, discarded_since_sent, BringsDueSince, BringsDue, HonestSince, HonestOfSince, HonestOf}
use Rattle.bp_trail.proofs.Lists.{member, some-append, some-without}
use Rattle.bp_trail.proofs.Residents.{left-none}
use Rattle.bp_trail.proofs.Victim.{victim-is, candidate-resident}
use Rattle.bp_trail.proofs.Events.{Event, event-of}
use Rattle.bp_trail.proofs.Events.Event.{fix_replace, fix_write, flush_write, discard_absent, discarded, read_good, write_clean, write_dirty, page_written}
use Rattle.bp_trail.proofs.Places.{places, out-of_page}
use Rattle.bp_trail.proofs.Flights.{in_flight, flights, in-flight-of, since-other}
use Rattle.bp_trail.proofs.Known.{is_known, is_known_with, known as known-saved, changed_since_sent, grounded}

-- the image of the last write-out of p that was begun, or what was known at the opening
abbrev pub sent_with : ℕ → Reply → Option (List ℕ) → Option (List ℕ)
sent_with p (WriteFirst t q image) older = if q == p then Some image else older
sent_with p _ older = older

abbrev pub sent : (ℕ → Option (List ℕ)) → Trail → ℕ → Option (List ℕ)
sent known [] p = known p
sent known (e ∷ past) p = sent_with p e.reply (sent known past p)

-- what is due is the image last sent
pub due-sent : (whole : Trail) (known : ℕ → Option (List ℕ)) (p : ℕ) (past : Trail) (image : List ℕ) → due_among whole known past p ≡ Some image → sent known past p ≡ Some image
due-sent whole known p [] image k = k
due-sent whole known p (e ∷ past) image k = go e.reply (due-sent whole known p past image) k
  where
    go : (r : Reply) → (due_among whole known past p ≡ Some image → sent known past p ≡ Some image) → due_with whole p r (due_among whole known past p) ≡ Some image → sent_with p r (sent known past p) ≡ Some image
    go (WriteFirst t q i) f k = at (q == p) (some (λ e. ends_well t e.call) whole) k
      where
        at : (b w : Bool) → (if b then due_after w i else due_among whole known past p) ≡ Some image → (if b then Some i else sent known past p) ≡ Some image
        at true true k = k
        at true false k = absurd (none-some image k)
        at false w k = f k
    go _ f k = f k

-- written since it was last sent
abbrev pub written_since_sent : Trail → ℕ → Bool
written_since_sent past p = some (writes p) (after_last (λ e. begins_of p e.reply) past)

not-begun : (whole : Trail) (p : ℕ) (r : Reply) → begins_of p r ≡ false → began_saving whole p r ≡ false
not-begun whole p (WriteFirst t q image) h = rw h refl
not-begun whole p _ h = refl

-- a saved page was not written since it was last sent, if nothing else happened to it
pub saved-sent : (whole h : Trail) (p : ℕ) (s : Trail) → since (writes p) (settles whole p) (s ++ h) ≡ false → changed_since_sent s p ≡ false → written_since_sent s p ≡ false
saved-sent whole h p [] u k = refl
saved-sent whole h p (e ∷ s) u k = go (begins_of p e.reply) refl (saved-sent whole h p s) (or_parts (writes p e) _ u) k
  where
    go : (b : Bool) → begins_of p e.reply ≡ b → (since (writes p) (settles whole p) (s ++ h) ≡ false → changed_since_sent s p ≡ false → written_since_sent s p ≡ false)
        → (writes p e ≡ false) × ((not (settles whole p e) && since (writes p) (settles whole p) (s ++ h)) ≡ false)
        → some (λ d. discards p d || loads p d) (if b then [] else e ∷ after_last (λ d. begins_of p d.reply) s) ≡ false
        → some (writes p) (if b then [] else e ∷ after_last (λ d. begins_of p d.reply) s) ≡ false
    go true i ih u k = refl
    go false i ih u k =
        let x = or_parts (discards p e || loads p e) _ k in
        let d = (or_parts (discards p e) (loads p e) x.0).0 in
        let rest : since (writes p) (settles whole p) (s ++ h) ≡ false = rw (d, not-begun whole p e.reply i) at u.1 in
        rw u.0 (ih rest x.1)

-- what was changed since it was sent in s was so in s after h
changed-since : (p : ℕ) (s h : Trail) → changed_since_sent s p ≡ true → changed_since_sent (s ++ h) p ≡ true
changed-since p [] h k = absurd (true≢false (sym k))
changed-since p (e ∷ s) h k = go (begins_of p e.reply) k (changed-since p s h)
  where
    go : (b : Bool) → some (λ d. discards p d || loads p d) (if b then [] else e ∷ after_last (λ d. begins_of p d.reply) s) ≡ true → (changed_since_sent s p ≡ true → changed_since_sent (s ++ h) p ≡ true)
        → some (λ d. discards p d || loads p d) (if b then [] else e ∷ after_last (λ d. begins_of p d.reply) (s ++ h)) ≡ true
    go true k ih = k
    go false k ih = elim (or_cases (discards p e || loads p e) _ k) as (λ _. some (λ d. discards p d || loads p d) (e ∷ after_last (λ d. begins_of p d.reply) (s ++ h)) ≡ true)
        [ inl i ↦ or_left (discards p e || loads p e) _ i | inr j ↦ or_right (discards p e || loads p e) _ (ih j) ]

abbrev entry : ℕ → Call → Reply → Entry
entry who call reply = record { client = who; call = call; reply = reply }

-- the end of a write-out of another page makes nothing known
module _ (t p q : ℕ) (other : (p == q) ≡ false) (who : ℕ) (r : Reply) (whole : Trail) (known : ℕ → Option (List ℕ)) where
  unsent : (s : Trail) → some (λ d. begins t d.reply) s ≡ false → due_among (entry who (WriteEnd t p true) r ∷ whole) known s q ≡ due_among whole known s q
  unsent [] f = refl
  unsent (d ∷ s) f = let k = or_parts (begins t d.reply) _ f in go d.reply k.0 (unsent s k.1)
    where
      go : (a : Reply) → begins t a ≡ false → due_among (entry who (WriteEnd t p true) r ∷ whole) known s q ≡ due_among whole known s q
          → due_with (entry who (WriteEnd t p true) r ∷ whole) q a (due_among (entry who (WriteEnd t p true) r ∷ whole) known s q) ≡ due_with whole q a (due_among whole known s q)
      go (WriteFirst u v image) i ih = ap (λ (b : Bool). if v == q then due_after (b || some (λ e. ends_well u e.call) whole) image else due_among (entry who (WriteEnd t p true) r ∷ whole) known s q) i ∙ ap (λ (x : Option (List ℕ)). if v == q then due_after (some (λ e. ends_well u e.call) whole) image else x) ih
      go _ i ih = ih

  pub unended : (s h : Trail) → in_flight t p (s ++ h) ≡ true → due_among (entry who (WriteEnd t p true) r ∷ whole) known s q ≡ due_among whole known s q
  unended [] h f = refl
  unended (d ∷ s) h f = go d.reply f (unended s h)
    where
      go : (a : Reply) → (if begins t a then begins_of p a && not (some (λ x. begins t x.reply) (s ++ h)) else not (begins_of p a) && (not (discards p d) && in_flight t p (s ++ h))) ≡ true
          → (in_flight t p (s ++ h) ≡ true → due_among (entry who (WriteEnd t p true) r ∷ whole) known s q ≡ due_among whole known s q)
          → due_with (entry who (WriteEnd t p true) r ∷ whole) q a (due_among (entry who (WriteEnd t p true) r ∷ whole) known s q) ≡ due_with whole q a (due_among whole known s q)
      go (WriteFirst u v image) f ih = at (u == t) refl f
        where
          at : (b : Bool) → (u == t) ≡ b → (if b then (v == p) && not (some (λ x. begins t x.reply) (s ++ h)) else not (v == p) && (not (discards p d) && in_flight t p (s ++ h))) ≡ true
              → (if v == q then due_after ((u == t) || some (λ e. ends_well u e.call) whole) image else due_among (entry who (WriteEnd t p true) r ∷ whole) known s q)
              ≡ (if v == q then due_after (some (λ e. ends_well u e.call) whole) image else due_among whole known s q)
          at true i f =
              let j = and_parts (v == p) _ f in
              let n : (v == q) ≡ false = subst (λ x. (x == q) ≡ false) (sym (eqb-true v p j.0)) other in
              let none = (or_parts (some (λ x. begins t x.reply) s) _ (sym (some-append (λ x. begins t x.reply) s h) ∙ not-true _ j.1)).0 in
              rw n (unsent s none)
          at false i f =
              ap (λ (b : Bool). if v == q then due_after (b || some (λ e. ends_well u e.call) whole) image else due_among (entry who (WriteEnd t p true) r ∷ whole) known s q) i
              ∙ ap (λ (x : Option (List ℕ)). if v == q then due_after (some (λ e. ends_well u e.call) whole) image else x) (ih (and_parts (not (discards p d)) _ (and_parts (not (v == p)) _ f).1).1)
      go _ f ih = ih (and_parts (not (discards p d)) _ f).1

-- of page q, after all entries w, of which s came since an opening
abbrev pub Faithful : (ℕ → List ℕ) → (ℕ → Option (List ℕ)) → ℕ → Trail → Trail → Type 0
Faithful m known q w s = record {
  holds : resident w q ≡ true → held w q ≡ plain_since m known s q;
  sends : written_since_sent s q ≡ false → changed_since_sent s q ≡ false → (image : List ℕ) → sent known s q ≡ Some image → image ≡ plain_since m known s q;
  changes : changed_since_sent s q ≡ true → unsaved w q ≡ false → (image : List ℕ) → due_since known s q ≡ Some image → image ≡ plain_since m known s q;
}

module _ (c : Parameters) (m : ℕ → List ℕ) (known : ℕ → Option (List ℕ)) (h : Trail) (q : ℕ) (s w : Trail) (is : w ≡ s ++ h) (who : ℕ) (l : Legal c w) (f : Faithful m known q w s) where
  -- what is due of a saved page is its image
  saved-due : unsaved w q ≡ false → (image : List ℕ) → due_since known s q ≡ Some image → image ≡ plain_since m known s q
  saved-due u image k = at (changed_since_sent s q) refl
    where
      at : (b : Bool) → changed_since_sent s q ≡ b → image ≡ plain_since m known s q
      at true i = f.changes i u image k
      at false i = f.sends (saved-sent w h q s (subst (λ x. since (writes q) (settles w q) x ≡ false) is u) i) i image (due-sent s known q s image k)

  -- a write-out of v, which is resident, begins
  begun : (v : ℕ) (e : Entry) → resident w v ≡ true → writes q e ≡ false → (discards q e || loads q e) ≡ false
      → some (writes q) (if v == q then [] else e ∷ after_last (λ d. begins_of q d.reply) s) ≡ false
      → some (λ d. discards q d || loads q d) (if v == q then [] else e ∷ after_last (λ d. begins_of q d.reply) s) ≡ false
      → (image : List ℕ) → (if v == q then Some (held w v) else sent known s q) ≡ Some image → image ≡ plain_since m known s q
  begun v e r n d = at (v == q) refl
    where
      at : (b : Bool) → (v == q) ≡ b → some (writes q) (if b then [] else e ∷ after_last (λ d. begins_of q d.reply) s) ≡ false
          → some (λ d. discards q d || loads q d) (if b then [] else e ∷ after_last (λ d. begins_of q d.reply) s) ≡ false
          → (image : List ℕ) → (if b then Some (held w v) else sent known s q) ≡ Some image → image ≡ plain_since m known s q
      at true i j k image g =
          let same = eqb-true v q i in
          sym (same_Some (held w v) image g) ∙ ap (held w) same ∙ f.holds (subst (λ x. resident w x ≡ true) same r)
      at false i j k image g = f.sends (or_parts (writes q e) _ j).1 (or_parts (discards q e || loads q e) _ k).1 image g

  begun-changed : (v : ℕ) (e : Entry) → (discards q e || loads q e) ≡ false → some (λ d. discards q d || loads q d) (if v == q then [] else e ∷ after_last (λ d. begins_of q d.reply) s) ≡ true
      → (not ((v == q) && some (λ d. ends_well (tickets w) d.call) w) && unsaved w q) ≡ false
      → (image : List ℕ) → (if v == q then due_after (some (λ d. ends_well (tickets w) d.call) s) (held w v) else due_since known s q) ≡ Some image → image ≡ plain_since m known s q
  begun-changed v e d = at (v == q)
    where
      at : (b : Bool) → some (λ d. discards q d || loads q d) (if b then [] else e ∷ after_last (λ d. begins_of q d.reply) s) ≡ true
          → (not (b && some (λ d. ends_well (tickets w) d.call) w) && unsaved w q) ≡ false
          → (image : List ℕ) → (if b then due_after (some (λ d. ends_well (tickets w) d.call) s) (held w v) else due_since known s q) ≡ Some image → image ≡ plain_since m known s q
      at true k u image g = absurd (true≢false (sym k))
      at false k u image g = f.changes (rw d at k) u image g

  -- a write-out of p ends well
  ended : (t p : ℕ) (r : Reply) → is_out (grant who p t) (writes_out w) ≡ true → changed_since_sent s q ≡ true
      → since (writes q) (settles (entry who (WriteEnd t p true) r ∷ w) q) w ≡ false
      → (image : List ℕ) → due_among (entry who (WriteEnd t p true) r ∷ s) known s q ≡ Some image → image ≡ plain_since m known s q
  ended t p r o k u image g = at (p == q) refl
    where
      fly : in_flight t p w ≡ true
      fly = in-flight-of (λ t p. in_flight t p w) who p t (writes_out w) (flights c w l).begun o

      at : (b : Bool) → (p == q) ≡ b → image ≡ plain_since m known s q
      at true i = absurd (true≢false (sym (subst (λ x. changed_since_sent x q ≡ true) (sym is) (changed-since q s h k)) ∙ grounded c w l q (subst (λ x. some (is_of x) (writes_out w) ≡ true) (eqb-true p q i) (out-of_page who p t (writes_out w) o))))
      at false i = f.changes k (sym (since-other c t p q w i w who r fly) ∙ u) image (sym (unended t p q i who r s known s h (subst (λ x. in_flight t p x ≡ true) is fly)) ∙ g)

  -- p is discarded
  dropped : (p : ℕ) → ((p == q || false) || changed_since_sent s q) ≡ true → (not ((p == q) || false) && unsaved w q) ≡ false → (image : List ℕ) → due_since known s q ≡ Some image
      → image ≡ (if p == q then after_discard (due_since known s q) (plain_since m known s q) else plain_since m known s q)
  dropped p k u image g = at (p == q) k u
    where
      at : (b : Bool) → ((b || false) || changed_since_sent s q) ≡ true → (not (b || false) && unsaved w q) ≡ false
          → image ≡ (if b then after_discard (due_since known s q) (plain_since m known s q) else plain_since m known s q)
      at true k u = ap (λ o. after_discard o (plain_since m known s q)) (sym g)
      at false k u = f.changes k u image g

  kept : (p : ℕ) → written_since_sent s q ≡ false → ((p == q || false) || changed_since_sent s q) ≡ false → (image : List ℕ) → sent known s q ≡ Some image
      → image ≡ (if p == q then after_discard (due_since known s q) (plain_since m known s q) else plain_since m known s q)
  kept p n k image g = let x = or_parts (p == q || false) (changed_since_sent s q) k in rw (or_parts (p == q) false x.0).0 (f.sends n x.1 image g)

  pub faithful-with : (call : Call) (reply : Reply) → Event c w who call reply
      → (page_of call ≡ q → BringsDueSince known s (entry who call reply))
      → Faithful m known q (entry who call reply ∷ w) (entry who call reply ∷ s)
  faithful-with _ _ (fix_write p v x n g) d = record {
    holds = f.holds;
    sends = begun v (entry who (Fix p) (WriteFirst (tickets w) v (held w v))) (candidate-resident c w v (victim-is c w v n).eligible) refl refl;
    changes = begun-changed v (entry who (Fix p) (WriteFirst (tickets w) v (held w v))) refl;
  }
  faithful-with _ _ (flush_write p r n g) d = record {
    holds = f.holds;
    sends = begun p (entry who (Flush p) (WriteFirst (tickets w) p (held w p))) r refl refl;
    changes = begun-changed p (entry who (Flush p) (WriteFirst (tickets w) p (held w p))) refl;
  }
  faithful-with _ _ (fix_replace p v x n u) d = record { holds = λ r. f.holds (some-without (λ y. y == q) (λ y. y) (Some v) (residents w) r); sends = f.sends; changes = f.changes }
  faithful-with _ _ (discard_absent p x) d = record { holds = at (p == q) refl; sends = kept p; changes = dropped p }
    where
      at : (b : Bool) → (p == q) ≡ b → resident w q ≡ true → held w q ≡ (if b then after_discard (due_since known s q) (plain_since m known s q) else plain_since m known s q)
      at true i r = absurd (true≢false (sym r ∙ subst (λ y. resident w y ≡ false) (eqb-true p q i) x.not_resident))
      at false i r = f.holds r
  faithful-with _ _ (discarded p x) d = record { holds = at (p == q) refl; sends = kept p; changes = dropped p }
    where
      at : (b : Bool) → (p == q) ≡ b → member q (filter (λ y. not (y == p)) (residents w)) ≡ true
          → held w q ≡ (if b then after_discard (due_since known s q) (plain_since m known s q) else plain_since m known s q)
      at true i r = absurd (true≢false (sym r ∙ subst (λ y. member q (filter (λ z. not (z == y)) (residents w)) ≡ false) (sym (eqb-true p q i)) (left-none q (residents w))))
      at false i r = f.holds (some-without (λ y. y == q) (λ y. y) (Some p) (residents w) r)
  faithful-with _ _ (read_good t p image o) d = record {
    holds = λ r. holds-at (p == q) refl (due_since known s q) refl r;
    sends = λ n k. let x = or_parts (p == q) (changed_since_sent s q) k in rw x.0 (f.sends n x.1);
    changes = λ k u i g. changes-at (p == q) k u i g;
  }
    where
      away : p ≡ q → unsaved w q ≡ false
      away same = subst (λ y. unsaved w y ≡ false) same (false_from_ne_true (unsaved w p) (λ u. true≢false (sym ((places c w l).dirty p u) ∙ (places c w l).away p (out-of_page who p t (reads_out w) o))))

      holds-at : (b : Bool) → (p == q) ≡ b → (o : Option (List ℕ)) → due_since known s q ≡ o → (b || resident w q) ≡ true
          → (if b then image else held w q) ≡ (if b then after_read o image (plain_since m known s q) else plain_since m known s q)
      holds-at true i None g r = refl
      holds-at true i (Some known_image) g r =
          let same = eqb-true p q i in
          d same known_image (eq-eqb p p refl) (subst (λ y. due_since known s y ≡ Some known_image) (sym same) g) ∙ saved-due (away same) known_image g
      holds-at false i o g r = f.holds r

      changes-at : (b : Bool) → (b || changed_since_sent s q) ≡ true → unsaved w q ≡ false → (i : List ℕ) → due_since known s q ≡ Some i
          → i ≡ (if b then after_read (due_since known s q) image (plain_since m known s q) else plain_since m known s q)
      changes-at true k u i g = saved-due u i g ∙ ap (λ o. after_read o image (plain_since m known s q)) (sym g)
      changes-at false k u i g = f.changes k u i g
  faithful-with _ _ (write_clean t p o n) d = record { holds = f.holds; sends = f.sends; changes = ended t p Cleaned o }
  faithful-with _ _ (write_dirty t p o n) d = record { holds = f.holds; sends = f.sends; changes = ended t p StillDirty o }
  faithful-with _ _ (page_written n p offset bytes lsn o) d = record {
    holds = holds-at (p == q);
    sends = λ n k. let x = or_parts (p == q) (written_since_sent s q) n in rw x.0 (f.sends x.1 k);
    changes = λ k u. let x = or_parts (p == q) (unsaved w q) u in rw x.0 (f.changes k x.1);
  }
    where
      holds-at : (b : Bool) → resident w q ≡ true → (if b then patched offset bytes (held w q) else held w q) ≡ (if b then patched offset bytes (plain_since m known s q) else plain_since m known s q)
      holds-at true r = ap (patched offset bytes) (f.holds r)
      holds-at false r = f.holds r
  faithful-with _ _ _ d = f

-- the images held at the opening, and what is known of the device
pub faithful-since : (c : Parameters) (m : ℕ → List ℕ) (known : ℕ → Option (List ℕ)) (h : Trail) (q : ℕ) (s : Trail) → Legal c (s ++ h) → (resident h q ≡ true → m q ≡ held h q)
    → ((image : List ℕ) → known q ≡ Some image → image ≡ m q) → HonestOfSince known q s → Faithful m known q (s ++ h) s
faithful-since c m known h q [] l o k d = record { holds = λ r. sym (o r); sends = λ w n. k; changes = λ n. absurd (true≢false (sym n)) }
faithful-since c m known h q (e ∷ s) l o k d = faithful-with c m known h q s (s ++ h) refl e.client l.before (faithful-since c m known h q s l.before o k d.before) e.call e.reply (event-of c (s ++ h) e l.here) d.here

pub held-plain-since : (c : Parameters) (m : ℕ → List ℕ) (known : ℕ → Option (List ℕ)) (h s : Trail) (q : ℕ) → Legal c (s ++ h) → (resident h q ≡ true → m q ≡ held h q)
    → ((image : List ℕ) → known q ≡ Some image → image ≡ m q) → HonestOfSince known q s → resident (s ++ h) q ≡ true → held (s ++ h) q ≡ plain_since m known s q
held-plain-since c m known h s q l o k d r = (faithful-since c m known h q s l o k d).holds r

-- ---- since no entries

abbrev pub FaithfulOf : (ℕ → List ℕ) → ℕ → Trail → Type 0
FaithfulOf m q past = Faithful m (all_known m) q past past

module _ (c : Parameters) (m : ℕ → List ℕ) (q : ℕ) (past : Trail) (who : ℕ) (l : Legal c past) (f : FaithfulOf m q past) where
  pub faithful-of-with : (call : Call) (reply : Reply) → Event c past who call reply → (page_of call ≡ q → BringsDue m past (entry who call reply)) → FaithfulOf m q (entry who call reply ∷ past)
  faithful-of-with = faithful-with c m (all_known m) [] q past past (sym (append-nil past)) who l f

  -- what goes out
  pub sends-with : (call : Call) (reply : Reply) → Event c past who call reply → (t : ℕ) (image : List ℕ) → reply ≡ WriteFirst t q image → image ≡ plain_map m past q
  sends-with _ _ (fix_write p v x n g) t image i =
      let same : v ≡ q = cc in
      let went : held past v ≡ image = cc in
      sym went ∙ ap (held past) same ∙ f.holds (subst (λ y. resident past y ≡ true) same (candidate-resident c past v (victim-is c past v n).eligible))
  sends-with _ _ (flush_write v r n g) t image i =
      let same : v ≡ q = cc in
      let went : held past v ≡ image = cc in
      sym went ∙ ap (held past) same ∙ f.holds (subst (λ y. resident past y ≡ true) same r)
  sends-with _ _ _ t image i = cc

faithful-of : (c : Parameters) (m : ℕ → List ℕ) (q : ℕ) (past : Trail) → Legal c past → HonestOf m q past → FaithfulOf m q past
faithful-of c m q [] l d = record { holds = λ r. cc; sends = λ w n image k. sym (same_Some (m q) image k); changes = λ n. absurd (true≢false (sym n)) }
faithful-of c m q (e ∷ past) l d = faithful-of-with c m q past e.client l.before (faithful-of c m q past l.before d.before) e.call e.reply (event-of c past e l.here) d.here

-- While the page is resident it holds the plain map's image.
pub held-plain : (c : Parameters) (m : ℕ → List ℕ) (past : Trail) (q : ℕ) → Legal c past → HonestOf m q past → resident past q ≡ true → held past q ≡ plain_map m past q
held-plain c m past q l d r = (faithful-of c m q past l d).holds r

-- And so does what goes out of it.
pub sends-plain : (c : Parameters) (m : ℕ → List ℕ) (past : Trail) (q : ℕ) (e : Entry) (t : ℕ) (image : List ℕ) → Legal c (e ∷ past) → HonestOf m q past → e.reply ≡ WriteFirst t q image → image ≡ plain_map m past q
sends-plain c m past q e t image l d i = sends-with c m q past e.client l.before (faithful-of c m q past l.before d) e.call e.reply (event-of c past e l.here) t image i

-- a device that is honest is so of each page
pub honest-of : (known : ℕ → Option (List ℕ)) (q : ℕ) (past : Trail) → HonestSince known past → HonestOfSince known q past
honest-of known q [] d = tt
honest-of known q (e ∷ past) d = record { here = λ same. d.here; before = honest-of known q past d.before }

-- what is known is due
pub known-due : (whole : Trail) (m : ℕ → List ℕ) (p : ℕ) (past : Trail) → is_known whole p past ≡ true → IsSome (due_among whole (all_known m) past p)
known-due whole m p [] k = refl
known-due whole m p (e ∷ past) k = go e.reply (is_known whole p past) (known-due whole m p past) k
  where
    go : (r : Reply) (b : Bool) → (b ≡ true → IsSome (due_among whole (all_known m) past p)) → is_known_with whole p r b ≡ true → IsSome (due_with whole p r (due_among whole (all_known m) past p))
    go (WriteFirst t q image) b f k = at (q == p) k
      where
        at : (d : Bool) → (if d then some (λ e. ends_well t e.call) whole else b) ≡ true → IsSome (if d then due_after (some (λ e. ends_well t e.call) whole) image else due_among whole (all_known m) past p)
        at true k = rw k refl
        at false k = f k
    go _ b f k = f k

-- Each read end finds `due` known.
pub read_end_known : (c : Parameters) (m : ℕ → List ℕ) (past : Trail) (who p t : ℕ) → Legal c past → is_out (grant who p t) (reads_out past) ≡ true → discarded_since_sent past p ≡ false → IsSome (due m past p)
read_end_known c m past who p t l o d =
    let u = false_from_ne_true (unsaved past p) (λ u. true≢false (sym ((places c past l).dirty p u) ∙ (places c past l).away p (out-of_page who p t (reads_out past) o))) in
    known-due past m p past (known-saved c past l p u d)
