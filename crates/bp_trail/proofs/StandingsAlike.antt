-- Trails of the same standing have the same standing after the same further entries, and the one goes on lawfully wherever the other does.
use Rattle.std.proofs.Common.{◌≡◌, refl, sym, ◌∙◌, ap, subst, ℕ, suc, max, Bool, true, false, not, ◌&&◌, ◌||◌, ◌==◌, if◌then◌else◌, List, [], ◌∷◌, ◌++◌, filter, filter_map, length, unwrap_or, Option, Some, None, arith}
use Rattle.std.proofs.lemmas.Bool.{eqb-true, ne_eqb, eqb-false}
use Rattle.bp_references.specs.Burst.Reference.{hit, fault}
use Rattle.bp_references.specs.Alike.{Alike}
use Rattle.bp_references.proofs.Alike.{alike-hit, alike-fault}
use Rattle.bp_trail.specs.declared.entries.Entry.{Entry}
use Rattle.bp_trail.specs.declared.entries.Call.{Call}
use Rattle.bp_trail.specs.declared.entries.Call.TheVariants.{WriteEnd, Write, Discard}
use Rattle.bp_trail.specs.declared.entries.Reply.{Reply}
use Rattle.bp_trail.specs.declared.entries.Reply.TheVariants.{WriteFirst, Fixed, Cleaned, StillDirty}
use Rattle.bp_trail.specs.Parameters.{Parameters}
use Rattle.bp_trail.specs.Lists.{greatest, some, after_last, and_given, without}
use Rattle.bp_trail.specs.Event.{Grant, grant, same_grant, page_of, ticks, marked, ticket_given, pass_back, read_ticket_back, write_ticket_back, write_ticket_given, ends_well, begins, is_away_reply, loaded, left, hits, loads, discards, is_purge, writes, lsn_written, written, image_read}
use Rattle.bp_trail.specs.Trail.{Trail}
use Rattle.bp_trail.specs.Clock.{clock}
use Rattle.bp_trail.specs.Passes.{tickets, pass_of, read_ticket_of, write_ticket_of, writes_out}
use Rattle.bp_trail.specs.Places.{residents, resident}
use Rattle.bp_trail.specs.Saved.{unsaved, written_since, page_lsn}
use Rattle.bp_trail.specs.Images.{held}
use Rattle.bp_trail.specs.References.{references, forgets}
use Rattle.bp_trail.specs.Legal.{is_out, allowed, IsLawful, Legal}
use Rattle.bp_trail.proofs.Same.{SameStanding}
use Rattle.bp_trail.proofs.Lists.{member, member-filter, every-at, every-filter, some-filter, some-without, total-with, greatest-with}
use Rattle.bp_trail.proofs.Events.{Event, event-of}
use Rattle.bp_trail.proofs.Events.Event.{fix_write, flush_write, write_clean, write_dirty}
use Rattle.bp_trail.proofs.Flights.{in_flight, flights, in-flight-of, since-other, unsaved-cleaned, unsaved-still_dirty}
use Rattle.bp_trail.proofs.Known.{airborne}
use Rattle.bp_trail.proofs.Timed.{references-timed}
use Rattle.bp_trail.proofs.SeenAlike.{same-forgets, same-lawful}

abbrev entry : ℕ → Call → Reply → Entry
entry who call reply = record { client = who; call = call; reply = reply }

-- tests that follow from one another are one
one-test : (a b : Bool) → (a ≡ true → b ≡ true) → (b ≡ true → a ≡ true) → a ≡ b
one-test true true f g = refl
one-test true false f g = sym (f refl)
one-test false true f g = g refl
one-test false false f g = refl

-- the pages left, and those with one more
kept-member : (k : ℕ → Bool) (p : ℕ) (xs ys : List ℕ) → (member p xs ≡ true → member p ys ≡ true) → member p (filter k xs) ≡ true → member p (filter k ys) ≡ true
kept-member k p xs ys h m = member-filter k ys p (every-at k (filter k xs) p (every-filter k xs) m) (h (some-filter (λ q. q == p) k xs m))

same-left : (o : Option ℕ) (p : ℕ) (xs ys : List ℕ) → member p xs ≡ member p ys → member p (without (λ q. q) o xs) ≡ member p (without (λ q. q) o ys)
same-left None p xs ys h = h
same-left (Some v) p xs ys h = one-test _ _ (kept-member (λ q. not (q == v)) p xs ys (λ m. sym h ∙ m)) (kept-member (λ q. not (q == v)) p ys xs (λ m. h ∙ m))

same-given : (o : Option ℕ) (p : ℕ) (xs ys : List ℕ) → member p xs ≡ member p ys → member p (and_given o xs) ≡ member p (and_given o ys)
same-given None p xs ys h = h
same-given (Some q) p xs ys h = ap (λ b. (q == p) || b) h

-- one more number, of each list
same-length : {X Y : Type 0} (f : X → Option Y) (x : X) (xs ys : List X) → length (filter_map f xs) ≡ length (filter_map f ys) → length (filter_map f (x ∷ xs)) ≡ length (filter_map f (x ∷ ys))
same-length {Y = Y} f x xs ys h = go (f x) refl
  where
    go : (o : Option Y) → f x ≡ o → length (filter_map f (x ∷ xs)) ≡ length (filter_map f (x ∷ ys))
    go None e = rw e h
    go (Some y) e = rw e (ap suc h)

-- what an entry leaves unsaved
abbrev unsaved_with : Trail → Call → Reply → ℕ → Bool
unsaved_with s (Write n p offset bytes lsn) r q = (p == q) || unsaved s q
unsaved_with s (WriteEnd n p true) r q = if p == q then written_since s n p else unsaved s q
unsaved_with s (Discard p) r q = not ((is_away_reply r && (p == q)) || false) && unsaved s q
unsaved_with s _ r q = unsaved s q

module _ (c : Parameters) (s : Trail) (who : ℕ) (l : Legal c s) where
  begun-unsaved : (v q : ℕ) → (not ((v == q) && some (λ e. ends_well (tickets s) e.call) s) && unsaved s q) ≡ unsaved s q
  begun-unsaved v q = rw ((airborne c s l).ended_below (tickets s) (omega arith)) (both (v == q))
    where
      both : (b : Bool) → (not (b && false) && unsaved s q) ≡ unsaved s q
      both true = refl
      both false = refl

  ended : (n p q : ℕ) (r : Reply) → is_out (grant who p n) (writes_out s) ≡ true → unsaved (entry who (WriteEnd n p true) r ∷ s) p ≡ written_since s n p
      → ((p == q) ≡ false → unsaved (entry who (WriteEnd n p true) r ∷ s) q ≡ unsaved s q)
      → unsaved (entry who (WriteEnd n p true) r ∷ s) q ≡ (if p == q then written_since s n p else unsaved s q)
  ended n p q r o same other = go (p == q) refl
    where
      go : (b : Bool) → (p == q) ≡ b → unsaved (entry who (WriteEnd n p true) r ∷ s) q ≡ (if b then written_since s n p else unsaved s q)
      go true e = subst (λ x. unsaved (entry who (WriteEnd n p true) r ∷ s) x ≡ written_since s n p) (eqb-true p q e) same
      go false e = other e

  flying : (n p : ℕ) → is_out (grant who p n) (writes_out s) ≡ true → in_flight n p s ≡ true
  flying n p o = in-flight-of (λ t p. in_flight t p s) who p n (writes_out s) (flights c s l).begun o

  unsaved-after : (call : Call) (reply : Reply) → Event c s who call reply → (q : ℕ) → unsaved (entry who call reply ∷ s) q ≡ unsaved_with s call reply q
  unsaved-after _ _ (fix_write p v m w g) q = begun-unsaved v q
  unsaved-after _ _ (flush_write p r w g) q = begun-unsaved p q
  unsaved-after _ _ (write_clean n p o w) q = ended n p q Cleaned o (unsaved-cleaned c s who n p l o) (λ e. since-other c n p q s e s who Cleaned (flying n p o))
  unsaved-after _ _ (write_dirty n p o w) q = ended n p q StillDirty o (unsaved-still_dirty c s who n p l o) (λ e. since-other c n p q s e s who StillDirty (flying n p o))
  unsaved-after _ _ _ q = refl

-- a page that an entry doesn't load was resident before it
was-resident : (s : Trail) (p : ℕ) (e : Entry) → loads p e ≡ false → resident (e ∷ s) p ≡ true → resident s p ≡ true
was-resident s p e h r = some-without (λ q. q == p) (λ q. q) (left (page_of e.call) e.reply) (residents s) (go e.reply h r)
  where
    go : (reply : Reply) → loads p (entry e.client e.call reply) ≡ false → member p (and_given (loaded (page_of e.call) reply) (without (λ q. q) (left (page_of e.call) e.reply) (residents s))) ≡ true
        → member p (without (λ q. q) (left (page_of e.call) e.reply) (residents s)) ≡ true
    go (Fixed n) h r = rw h at r
    go _ h r = r

-- a ticket that an entry doesn't give was out before it
was-out : (s : Trail) (e : Entry) (who p n : ℕ) → begins n e.reply ≡ false → is_out (grant who p n) (writes_out (e ∷ s)) ≡ true → is_out (grant who p n) (writes_out s) ≡ true
was-out s e who p n h o = some-without (same_grant (grant who p n)) (λ g. g.serial) (write_ticket_back e.call) (writes_out s) (go e.reply h o)
  where
    others : List Grant
    others = without (λ g. g.serial) (write_ticket_back e.call) (writes_out s)

    go : (reply : Reply) → begins n reply ≡ false → is_out (grant who p n) (and_given (write_ticket_given e.client reply) (without (λ g. g.serial) (write_ticket_back e.call) (writes_out s))) ≡ true
        → is_out (grant who p n) (without (λ g. g.serial) (write_ticket_back e.call) (writes_out s)) ≡ true
    go (WriteFirst u q image) h o =
        let k : (n == u) ≡ false = ne_eqb n u (λ i. eqb-false u n h (sym i)) in
        at ((who == e.client)) (p == q) (n == u) k o
      where
        at : (a b d : Bool) → d ≡ false → ((a && (b && d)) || is_out (grant who p n) (without (λ g. g.serial) (write_ticket_back e.call) (writes_out s))) ≡ true
            → is_out (grant who p n) (without (λ g. g.serial) (write_ticket_back e.call) (writes_out s)) ≡ true
        at true true false k o = o
        at true false d k o = o
        at false b d k o = o
        at true true true k o = cc
    go _ h o = o

module _ (c : Parameters) (s t : Trail) (l : Legal c s) (m : Legal c t) (same : SameStanding c s t) (e : Entry) (lawful : IsLawful c s e) where
  -- the references of a page
  alike : (p : ℕ) → Alike c.k c.correlated (references c s p) (references c t p)
  alike p = record { last = same.lasts p; stamps = λ i. same.stamps p i }

  alike-after : (p : ℕ) → Alike c.k c.correlated (references c (e ∷ s) p) (references c (e ∷ t) p)
  alike-after p = go (hits p e) (loads p e) (discards p e) (is_purge e.call && forgets c s p (references c s p)) (is_purge e.call && forgets c t p (references c t p))
      (λ n. is_purge e.call && same-forgets c s t l m same p n)
    where
      go : (h i d f g : Bool) → f ≡ g → Alike c.k c.correlated
          (if h then hit (clock s) ∷ references c s p else if i then fault (clock s) ∷ references c s p else if d then [] else if f then [] else references c s p)
          (if h then hit (clock t) ∷ references c t p else if i then fault (clock t) ∷ references c t p else if d then [] else if g then [] else references c t p)
      go true i d f g x = subst (λ y. Alike c.k c.correlated (hit (clock s) ∷ references c s p) (hit y ∷ references c t p)) same.time
          (alike-hit c.k c.correlated (clock s) (references c s p) (references c t p) (references-timed c s p).timed (references-timed c t p).timed (alike p))
      go false true d f g x = subst (λ y. Alike c.k c.correlated (fault (clock s) ∷ references c s p) (fault y ∷ references c t p)) same.time
          (alike-fault c.k c.correlated (clock s) (references c s p) (references c t p) (references-timed c s p).timed (references-timed c t p).timed (alike p))
      go false false true f g x = record { last = refl; stamps = λ i. refl }
      go false false false true true x = record { last = refl; stamps = λ i. refl }
      go false false false false false x = alike p
      go false false false true false x = cc
      go false false false false true x = cc

  images-after : (p : ℕ) → resident (e ∷ s) p ≡ true → held (e ∷ s) p ≡ held (e ∷ t) p
  images-after p r = go (loads p e) refl
    where
      go : (b : Bool) → loads p e ≡ b → (if b then image_read e.call else written p e (held s p)) ≡ (if b then image_read e.call else written p e (held t p))
      go true h = refl
      go false h = ap (written p e) (same.images p (was-resident s p e h r))

  tops-after : (p : ℕ) → resident (e ∷ s) p ≡ true → page_lsn (e ∷ s) p ≡ page_lsn (e ∷ t) p
  tops-after p r = go (loads p e) refl
    where
      go : (b : Bool) → loads p e ≡ b
          → greatest (filter_map (lsn_written p) (if b then [] else e ∷ after_last (loads p) s)) ≡ greatest (filter_map (lsn_written p) (if b then [] else e ∷ after_last (loads p) t))
      go true h = refl
      go false h =
          greatest-with (lsn_written p) e (after_last (loads p) s)
          ∙ ap (λ x. max (unwrap_or (lsn_written p e) 0) x) (same.tops p (was-resident s p e h r))
          ∙ sym (greatest-with (lsn_written p) e (after_last (loads p) t))

  rewritten-after : (who p n : ℕ) → is_out (grant who p n) (writes_out (e ∷ s)) ≡ true → written_since (e ∷ s) n p ≡ written_since (e ∷ t) n p
  rewritten-after who p n o = go (begins n e.reply) refl
    where
      go : (b : Bool) → begins n e.reply ≡ b
          → some (writes p) (if b then [] else e ∷ after_last (λ d. begins n d.reply) s) ≡ some (writes p) (if b then [] else e ∷ after_last (λ d. begins n d.reply) t)
      go true h = refl
      go false h = ap (λ b. writes p e || b) (same.rewritten who p n (was-out s e who p n h o))

  changed-with : (call : Call) (r : Reply) → allowed c s e.client call ≡ true → (q : ℕ) → unsaved_with s call r q ≡ unsaved_with t call r q
  changed-with (Write n p offset bytes lsn) r a q = ap (λ b. (p == q) || b) (same.changed q)
  changed-with (WriteEnd n p true) r a q = λ i. if p == q then same.rewritten e.client p n a i else same.changed q i
  changed-with (Discard p) r a q = ap (λ b. not ((is_away_reply r && (p == q)) || false) && b) (same.changed q)
  changed-with _ r a q = same.changed q

  changed-after : (q : ℕ) → unsaved (e ∷ s) q ≡ unsaved (e ∷ t) q
  changed-after q =
      unsaved-after c s e.client l e.call e.reply (event-of c s e lawful) q
      ∙ changed-with e.call e.reply lawful.allowed q
      ∙ sym (unsaved-after c t e.client m e.call e.reply (event-of c t e (same-lawful c s t l m same e lawful)) q)

  pub same-after : SameStanding c (e ∷ s) (e ∷ t)
  same-after = record {
    time = let a = total-with (λ d. ticks d.call) e s in let b = total-with (λ d. ticks d.call) e t in let k = same.time in omega arith;
    mark = greatest-with (λ d. marked d.call) e s ∙ ap (λ x. max (unwrap_or (marked e.call) 0) x) same.mark ∙ sym (greatest-with (λ d. marked d.call) e t);
    next_pass = same-length pass_of e s t same.next_pass;
    next_ticket = same-length (λ d. ticket_given d.reply) e s t same.next_ticket;
    passes_held = λ n. and_given (pass_of e) (without (λ g. g.serial) (pass_back e.call) (same.passes_held n));
    reads_held = λ n. and_given (read_ticket_of e) (without (λ g. g.serial) (read_ticket_back e.call) (same.reads_held n));
    writes_held = λ n. and_given (write_ticket_of e) (without (λ g. g.serial) (write_ticket_back e.call) (same.writes_held n));
    places = λ p. same-given (loaded (page_of e.call) e.reply) p _ _ (same-left (left (page_of e.call) e.reply) p (residents s) (residents t) (same.places p));
    images = images-after;
    tops = tops-after;
    changed = changed-after;
    lasts = λ p. (alike-after p).last;
    stamps = λ p i. (alike-after p).stamps i;
    rewritten = rewritten-after;
  }

-- A trail that may follow one past may follow each past of the same standing, and leads to the same standing.
pub record Follows (c : Parameters) (s h k : Trail) : Type 0 where
  pub legal : Legal c (s ++ k)
  pub standing : SameStanding c (s ++ h) (s ++ k)

pub follows : (c : Parameters) (s h k : Trail) → Legal c (s ++ h) → Legal c k → SameStanding c h k → Follows c s h k
follows c [] h k l m same = record { legal = m; standing = same }
follows c (e ∷ s) h k l m same =
    let f = follows c s h k l.before m same in
    record {
      legal = record { here = same-lawful c (s ++ h) (s ++ k) l.before f.legal f.standing e l.here; before = f.legal };
      standing = same-after c (s ++ h) (s ++ k) l.before f.legal f.standing e l.here;
    }
