-- Of a legal trail: what is out is of a page in range, a resident page has references and an image of the page's size, and only pages in range have references.
use Rattle.std.proofs.Common.{◌≡◌, refl, sym, subst, ◌∙◌, ℕ, suc, ◌+◌, ◌≤◌, nat_lt, Bool, true, false, not, ◌||◌, ◌==◌, cond, if◌then◌else◌, List, [], ◌∷◌, ◌++◌, filter, length, take, drop, inl, inr, arith, length-append, length-take, length-drop}
use Rattle.std.proofs.lemmas.Bool.{eqb-true, ne_eqb, and_parts, and_from, or_cases, or_right, leb-true, not-true, not_from_false, false_from_ne_true, true≢false}
use Rattle.std.proofs.lemmas.Bool.Decides.{nat_tests}
use Rattle.bp_page.specs.Patched.{patched}
use Rattle.bp_references.specs.Burst.Reference.{hit, fault}
use Rattle.bp_trail.specs.declared.entries.Entry.{Entry}
use Rattle.bp_trail.specs.declared.entries.Call.{Call}
use Rattle.bp_trail.specs.declared.entries.Reply.{Reply}
use Rattle.bp_trail.specs.Parameters.{Parameters}
use Rattle.bp_trail.specs.Lists.{some, every}
use Rattle.bp_trail.specs.Event.{Grant, grant, same_grant, ends_well}
use Rattle.bp_trail.specs.Trail.{Trail}
use Rattle.bp_trail.specs.Clock.{clock}
use Rattle.bp_trail.specs.Passes.{passes_out, reads_out, writes_out, is_of, pins, tickets}
use Rattle.bp_trail.specs.Places.{residents, resident, loading, writing}
use Rattle.bp_trail.specs.Images.{held}
use Rattle.bp_trail.specs.References.{references, is_empty, forgets}
use Rattle.bp_trail.specs.Legal.{is_out, allowed, Legal}
use Rattle.bp_trail.proofs.Lists.{member, some-filter, member-filter}
use Rattle.bp_trail.proofs.Victim.{victim-is, candidate-resident}
use Rattle.bp_trail.proofs.Events.{Event, event-of}
use Rattle.bp_trail.proofs.Events.Event.{ticked, marked, fix_hit, fix_load, fix_replace, fix_write, fix_busy, fix_none, fix_log, flush_busy, flush_absent, flush_clean, flush_log, flush_write, discard_busy, discard_absent, discard_pinned, discarded, read_good, read_bad, read_wrong, write_bad, write_clean, write_dirty, page_read, page_written, unfixed, purged}
use Rattle.bp_trail.proofs.Serials.{AllBelow, numbered}
use Rattle.bp_trail.proofs.Places.{out-of_page}
use Rattle.bp_trail.proofs.Residents.{left-none}

abbrev entry : ℕ → Call → Reply → Entry
entry who call reply = record { client = who; call = call; reply = reply }

-- ---- pages in range

abbrev pub InRange : Parameters → Trail → Type 0
InRange c past = record {
  reads : (p : ℕ) → loading past p ≡ true → nat_lt p c.pages ≡ true;
  pages : (p : ℕ) → resident past p ≡ true → nat_lt p c.pages ≡ true;
}

module _ (c : Parameters) (past : Trail) (who : ℕ) (h : InRange c past) where
  more : (p q : ℕ) → nat_lt p c.pages ≡ true → (p == q || loading past q) ≡ true → nat_lt q c.pages ≡ true
  more p q r m = elim (or_cases (p == q) (loading past q) m) [ inl e ↦ subst (λ x. nat_lt x c.pages ≡ true) (eqb-true p q e) r | inr k ↦ h.reads q k ]

  ranges-with : (call : Call) (reply : Reply) → Event c past who call reply → allowed c past who call ≡ true → InRange c (entry who call reply ∷ past)
  ranges-with _ _ (fix_load p m f) a = record { reads = λ q l. more p q a l; pages = h.pages }
  ranges-with _ _ (fix_replace p v m w u) a = record { reads = λ q l. more p q a l; pages = λ q k. h.pages q (some-filter (λ r. r == q) (λ r. not (r == v)) (residents past) k) }
  ranges-with _ _ (read_good t p image o) a = record {
    reads = λ q l. h.reads q (some-filter (is_of q) (λ g. not (g.serial == t)) (reads_out past) l);
    pages = λ q k. elim (or_cases (p == q) (resident past q) k) [ inl e ↦ subst (λ x. nat_lt x c.pages ≡ true) (eqb-true p q e) (h.reads p (out-of_page who p t (reads_out past) o)) | inr l ↦ h.pages q l ];
  }
  ranges-with _ _ (read_bad t p o) a = record { reads = λ q l. h.reads q (some-filter (is_of q) (λ g. not (g.serial == t)) (reads_out past) l); pages = h.pages }
  ranges-with _ _ (read_wrong t p o) a = record { reads = λ q l. h.reads q (some-filter (is_of q) (λ g. not (g.serial == t)) (reads_out past) l); pages = h.pages }
  ranges-with _ _ (fix_write p v m w g) a = h
  ranges-with _ _ (flush_write p r w g) a = h
  ranges-with _ _ (write_bad t p o) a = h
  ranges-with _ _ (write_clean t p o w) a = h
  ranges-with _ _ (write_dirty t p o w) a = h
  ranges-with _ _ (fix_hit p x r) a = h
  ranges-with _ _ (unfixed n p o) a = h
  ranges-with _ _ (ticked n) a = h
  ranges-with _ _ (marked lsn) a = h
  ranges-with _ _ (fix_busy p x) a = h
  ranges-with _ _ (fix_none p m w) a = h
  ranges-with _ _ (fix_log p v m w) a = h
  ranges-with _ _ (flush_busy p) a = h
  ranges-with _ _ (flush_absent p r) a = h
  ranges-with _ _ (flush_clean p r u) a = h
  ranges-with _ _ (flush_log p) a = h
  ranges-with _ _ (discard_busy p) a = h
  ranges-with _ _ (discard_absent p x) a = h
  ranges-with _ _ (discard_pinned p) a = h
  ranges-with _ _ (discarded p x) a = record { reads = h.reads; pages = λ q k. h.pages q (some-filter (λ r. r == q) (λ r. not (r == p)) (residents past) k) }
  ranges-with _ _ (page_read n p o) a = h
  ranges-with _ _ (page_written n p offset bytes lsn o) a = h
  ranges-with _ _ purged a = h

pub ranges : (c : Parameters) (past : Trail) → Legal c past → InRange c past
ranges c [] l = record { reads = λ p h. cc; pages = λ p h. cc }
ranges c (e ∷ past) l = ranges-with c past e.client (ranges c past l.before) e.call e.reply (event-of c past e l.here) l.here.allowed

-- ---- images of resident pages

patched-length : (offset : ℕ) (bytes image : List ℕ) → offset + length bytes ≤ length image → length (patched offset bytes image) ≡ length image
patched-length offset bytes image fits =
    let whole : length (patched offset bytes image) ≡ length (take offset image ++ bytes) + length (drop (offset + length bytes) image) = length-append (take offset image ++ bytes) (drop (offset + length bytes) image) in
    omega (arith, whole, length-append (take offset image) bytes, length-take offset image, length-drop (offset + length bytes) image)

abbrev pub Sized : Parameters → Trail → Type 0
Sized c past = (p : ℕ) → resident past p ≡ true → length (held past p) ≡ c.size

module _ (c : Parameters) (past : Trail) (who : ℕ) (l : Legal c past) (h : Sized c past) where
  sized-with : (call : Call) (reply : Reply) → Event c past who call reply → allowed c past who call ≡ true → Sized c (entry who call reply ∷ past)
  sized-with _ _ (fix_replace p v m w u) a = λ q k. h q (some-filter (λ r. r == q) (λ r. not (r == v)) (residents past) k)
  sized-with _ _ (read_good t p image o) a = λ q k. go q (p == q) refl k
    where
      go : (q : ℕ) (b : Bool) → (p == q) ≡ b → (p == q || resident past q) ≡ true → length (if b then image else held past q) ≡ c.size
      go q true e k = eqb-true (length image) c.size (and_parts (is_out (grant who p t) (reads_out past)) _ a).1
      go q false e k = h q (subst (λ b. (b || resident past q) ≡ true) e k)
  sized-with _ _ (page_written n p offset bytes lsn o) a = λ q k. go q k (p == q)
    where
      go : (q : ℕ) → resident past q ≡ true → (b : Bool) → length (if b then patched offset bytes (held past q) else held past q) ≡ c.size
      go q k true = let was = h q k in let fits = leb-true (offset + length bytes) c.size (and_parts (is_out (grant who p n) (passes_out past)) _ a).1 in patched-length offset bytes (held past q) (omega arith) ∙ was
      go q k false = h q k
  sized-with _ _ (fix_load p m f) a = h
  sized-with _ _ (read_bad t p o) a = h
  sized-with _ _ (read_wrong t p o) a = h
  sized-with _ _ (fix_write p v m w g) a = h
  sized-with _ _ (flush_write p r w g) a = h
  sized-with _ _ (write_bad t p o) a = h
  sized-with _ _ (write_clean t p o w) a = h
  sized-with _ _ (write_dirty t p o w) a = h
  sized-with _ _ (fix_hit p x r) a = h
  sized-with _ _ (unfixed n p o) a = h
  sized-with _ _ (ticked n) a = h
  sized-with _ _ (marked lsn) a = h
  sized-with _ _ (fix_busy p x) a = h
  sized-with _ _ (fix_none p m w) a = h
  sized-with _ _ (fix_log p v m w) a = h
  sized-with _ _ (flush_busy p) a = h
  sized-with _ _ (flush_absent p r) a = h
  sized-with _ _ (flush_clean p r u) a = h
  sized-with _ _ (flush_log p) a = h
  sized-with _ _ (discard_busy p) a = h
  sized-with _ _ (discard_absent p x) a = h
  sized-with _ _ (discard_pinned p) a = h
  sized-with _ _ (discarded p x) a = λ q k. h q (some-filter (λ r. r == q) (λ r. not (r == p)) (residents past) k)
  sized-with _ _ (page_read n p o) a = h
  sized-with _ _ purged a = h

pub sized : (c : Parameters) (past : Trail) → Legal c past → Sized c past
sized c [] l = λ p h. cc
sized c (e ∷ past) l = sized-with c past e.client l.before (sized c past l.before) e.call e.reply (event-of c past e l.here) l.here.allowed

-- ---- references

abbrev pub Referred : Parameters → Trail → Type 0
Referred c past = record {
  known : (p : ℕ) → resident past p ≡ true → is_empty (references c past p) ≡ false;
  within : (p : ℕ) → is_empty (references c past p) ≡ false → nat_lt p c.pages ≡ true;
}

module _ (c : Parameters) (past : Trail) (who : ℕ) (l : Legal c past) (h : Referred c past) where
  -- of all pages but p, which is discarded
  kept-but : (p q : ℕ) → (p ≡ q → ⊥) → is_empty (references c past q) ≡ false → is_empty (if p == q then [] else references c past q) ≡ false
  kept-but p q n k = rw (ne_eqb p q n) k

  less-but : (p q : ℕ) → (is_empty (references c past q) ≡ false → nat_lt q c.pages ≡ true) → is_empty (if p == q then [] else references c past q) ≡ false → nat_lt q c.pages ≡ true
  less-but p q w k = at (p == q) k
    where
      at : (b : Bool) → is_empty (if b then [] else references c past q) ≡ false → nat_lt q c.pages ≡ true
      at true k = cc
      at false k = w k

  referred-with : (call : Call) (reply : Reply) → Event c past who call reply → allowed c past who call ≡ true → Referred c (entry who call reply ∷ past)
  referred-with _ _ (fix_hit p x r) a = record {
    known = λ q k. kept q (p == q) (h.known q k);
    within = λ q k. in_range q (p == q) refl (h.within q) k;
  }
    where
      kept : (q : ℕ) (b : Bool) → is_empty (references c past q) ≡ false → is_empty (if b then hit (clock past) ∷ references c past q else references c past q) ≡ false
      kept q true k = refl
      kept q false k = k

      in_range : (q : ℕ) (b : Bool) → (p == q) ≡ b → (is_empty (references c past q) ≡ false → nat_lt q c.pages ≡ true) → is_empty (if b then hit (clock past) ∷ references c past q else references c past q) ≡ false → nat_lt q c.pages ≡ true
      in_range q true e w k = subst (λ y. nat_lt y c.pages ≡ true) (eqb-true p q e) a
      in_range q false e w k = w k
  referred-with _ _ (read_good t p image o) a = record {
    known = λ q k. kept q (p == q) refl (h.known q) k;
    within = λ q k. in_range q (p == q) refl (h.within q) k;
  }
    where
      kept : (q : ℕ) (b : Bool) → (p == q) ≡ b → (resident past q ≡ true → is_empty (references c past q) ≡ false) → (p == q || resident past q) ≡ true → is_empty (if b then fault (clock past) ∷ references c past q else references c past q) ≡ false
      kept q true e k m = refl
      kept q false e k m = k (subst (λ b. (b || resident past q) ≡ true) e m)

      in_range : (q : ℕ) (b : Bool) → (p == q) ≡ b → (is_empty (references c past q) ≡ false → nat_lt q c.pages ≡ true) → is_empty (if b then fault (clock past) ∷ references c past q else references c past q) ≡ false → nat_lt q c.pages ≡ true
      in_range q true e w k = subst (λ y. nat_lt y c.pages ≡ true) (eqb-true p q e) ((ranges c past l).reads p (out-of_page who p t (reads_out past) o))
      in_range q false e w k = w k
  referred-with _ _ (fix_replace p v m w u) a = record { known = λ q k. h.known q (some-filter (λ r. r == q) (λ r. not (r == v)) (residents past) k); within = h.within }
  referred-with _ _ purged a = record { known = λ q k. kept q (forgets c past q (references c past q)) refl k (h.known q k); within = λ q k. less q (forgets c past q (references c past q)) (h.within q) k }
    where
      kept : (q : ℕ) (b : Bool) → forgets c past q (references c past q) ≡ b → resident past q ≡ true → is_empty (references c past q) ≡ false → is_empty (if b then [] else references c past q) ≡ false
      kept q true e k n = grind (arith, nat_tests)
      kept q false e k n = n

      less : (q : ℕ) (b : Bool) → (is_empty (references c past q) ≡ false → nat_lt q c.pages ≡ true) → is_empty (if b then [] else references c past q) ≡ false → nat_lt q c.pages ≡ true
      less q true w k = cc
      less q false w k = w k
  referred-with _ _ (page_written n p offset bytes lsn o) a = h
  referred-with _ _ (fix_load p m f) a = h
  referred-with _ _ (read_bad t p o) a = h
  referred-with _ _ (read_wrong t p o) a = h
  referred-with _ _ (fix_write p v m w g) a = h
  referred-with _ _ (flush_write p r w g) a = h
  referred-with _ _ (write_bad t p o) a = h
  referred-with _ _ (write_clean t p o w) a = h
  referred-with _ _ (write_dirty t p o w) a = h
  referred-with _ _ (unfixed n p o) a = h
  referred-with _ _ (ticked n) a = h
  referred-with _ _ (marked lsn) a = h
  referred-with _ _ (fix_busy p x) a = h
  referred-with _ _ (fix_none p m w) a = h
  referred-with _ _ (fix_log p v m w) a = h
  referred-with _ _ (flush_busy p) a = h
  referred-with _ _ (flush_absent p r) a = h
  referred-with _ _ (flush_clean p r u) a = h
  referred-with _ _ (flush_log p) a = h
  referred-with _ _ (discard_busy p) a = h
  referred-with _ _ (discard_absent p x) a = record { known = λ q k. kept-but p q (λ e. let i = rw e at x.not_resident in true≢false (sym k ∙ i)) (h.known q k); within = λ q k. less-but p q (h.within q) k }
  referred-with _ _ (discard_pinned p) a = h
  referred-with _ _ (discarded p x) a = record {
    known = λ q k. kept-but p q (λ e. true≢false (sym k ∙ subst (λ y. member q (filter (λ r. not (r == y)) (residents past)) ≡ false) (sym e) (left-none q (residents past)))) (h.known q (some-filter (λ r. r == q) (λ r. not (r == p)) (residents past) k));
    within = λ q k. less-but p q (h.within q) k;
  }
  referred-with _ _ (page_read n p o) a = h

pub referred : (c : Parameters) (past : Trail) → Legal c past → Referred c past
referred c [] l = record { known = λ p h. cc; within = λ p h. cc }
referred c (e ∷ past) l = referred-with c past e.client l.before (referred c past l.before) e.call e.reply (event-of c past e l.here) l.here.allowed

-- ---- clients in range

abbrev pub is_client : Parameters → Grant → Bool
is_client c g = nat_lt g.client c.clients

abbrev pub Owned : Parameters → Trail → Type 0
Owned c past = record {
  passes : every (is_client c) (passes_out past) ≡ true;
  reads : every (is_client c) (reads_out past) ≡ true;
  writes : every (is_client c) (writes_out past) ≡ true;
}

every-left : (p q : Grant → Bool) (gs : List Grant) → every p gs ≡ true → every p (filter q gs) ≡ true
every-left p q [] h = refl
every-left p q (g ∷ gs) h = go (q g) (every-left p q gs (and_parts (p g) (every p gs) h).1)
  where
    go : (b : Bool) → every p (filter q gs) ≡ true → every p (cond b (g ∷ filter q gs) (filter q gs)) ≡ true
    go true ih = and_from (p g) _ (and_parts (p g) (every p gs) h).0 ih
    go false ih = ih

module _ (c : Parameters) (past : Trail) (who : ℕ) (client : nat_lt who c.clients ≡ true) (h : Owned c past) where
  owned-with : (call : Call) (reply : Reply) → Event c past who call reply → Owned c (entry who call reply ∷ past)
  owned-with _ _ (fix_hit p x r) = record { passes = and_from _ _ client h.passes; reads = h.reads; writes = h.writes }
  owned-with _ _ (fix_load p m f) = record { passes = h.passes; reads = and_from _ _ client h.reads; writes = h.writes }
  owned-with _ _ (fix_replace p v m w u) = record { passes = h.passes; reads = and_from _ _ client h.reads; writes = h.writes }
  owned-with _ _ (fix_write p v m w g) = record { passes = h.passes; reads = h.reads; writes = and_from _ _ client h.writes }
  owned-with _ _ (flush_write p r w g) = record { passes = h.passes; reads = h.reads; writes = and_from _ _ client h.writes }
  owned-with _ _ (read_good t p image o) = record { passes = and_from _ _ client h.passes; reads = every-left _ _ (reads_out past) h.reads; writes = h.writes }
  owned-with _ _ (read_bad t p o) = record { passes = h.passes; reads = every-left _ _ (reads_out past) h.reads; writes = h.writes }
  owned-with _ _ (read_wrong t p o) = record { passes = h.passes; reads = every-left _ _ (reads_out past) h.reads; writes = h.writes }
  owned-with _ _ (write_bad t p o) = record { passes = h.passes; reads = h.reads; writes = every-left _ _ (writes_out past) h.writes }
  owned-with _ _ (write_clean t p o w) = record { passes = h.passes; reads = h.reads; writes = every-left _ _ (writes_out past) h.writes }
  owned-with _ _ (write_dirty t p o w) = record { passes = h.passes; reads = h.reads; writes = every-left _ _ (writes_out past) h.writes }
  owned-with _ _ (unfixed n p o) = record { passes = every-left _ _ (passes_out past) h.passes; reads = h.reads; writes = h.writes }
  owned-with _ _ (ticked n) = h
  owned-with _ _ (marked lsn) = h
  owned-with _ _ (fix_busy p x) = h
  owned-with _ _ (fix_none p m w) = h
  owned-with _ _ (fix_log p v m w) = h
  owned-with _ _ (flush_busy p) = h
  owned-with _ _ (flush_absent p r) = h
  owned-with _ _ (flush_clean p r u) = h
  owned-with _ _ (flush_log p) = h
  owned-with _ _ (discard_busy p) = h
  owned-with _ _ (discard_absent p x) = h
  owned-with _ _ (discard_pinned p) = h
  owned-with _ _ (discarded p x) = h
  owned-with _ _ (page_read n p o) = h
  owned-with _ _ (page_written n p offset bytes lsn o) = h
  owned-with _ _ purged = h

pub owned : (c : Parameters) (past : Trail) → Legal c past → Owned c past
owned c [] l = record { passes = refl; reads = refl; writes = refl }
owned c (e ∷ past) l = owned-with c past e.client l.here.client (owned c past l.before) e.call e.reply (event-of c past e l.here)

-- the client of a grant that is out
pub owner : (c : Parameters) (who p n : ℕ) (gs : List Grant) → every (is_client c) gs ≡ true → is_out (grant who p n) gs ≡ true → nat_lt who c.clients ≡ true
owner c who p n [] h o = cc
owner c who p n (g ∷ gs) h o =
    let parts = and_parts (is_client c g) _ h in
    elim (or_cases (same_grant (grant who p n) g) (is_out (grant who p n) gs) o) [
      | inl e ↦ subst (λ y. nat_lt y c.clients ≡ true) (sym (eqb-true who g.client (and_parts (who == g.client) _ e).0)) parts.0
      | inr later ↦ owner c who p n gs parts.1 later
    ]

-- ---- a ticket that is not yet given has no end

abbrev pub NoEnd : Trail → Type 0
NoEnd past = (t : ℕ) → tickets past ≤ t → some (λ e. ends_well t e.call) past ≡ false

below-next : (n who p t : ℕ) (gs : List Grant) → AllBelow n gs → is_out (grant who p t) gs ≡ true → suc t ≤ n
below-next n who p t [] b o = cc
below-next n who p t (g ∷ gs) b o =
    elim (or_cases (same_grant (grant who p t) g) (is_out (grant who p t) gs) o) [
      | inl e ↦ (let k = eqb-true t g.serial (and_parts (p == g.page) _ (and_parts (who == g.client) _ e).1).1 in let m = b.0 in omega arith)
      | inr later ↦ below-next n who p t gs b.1 later
    ]

module _ (c : Parameters) (past : Trail) (who : ℕ) (below : AllBelow (tickets past) (writes_out past)) (h : NoEnd past) where
  ended-before : (t p : ℕ) → is_out (grant who p t) (writes_out past) ≡ true → (u : ℕ) → tickets past ≤ u → (u == t || some (λ e. ends_well u e.call) past) ≡ false
  ended-before t p o u k = let m = below-next (tickets past) who p t (writes_out past) below o in rw (ne_eqb u t (λ e. absurd (omega arith))) (h u k)

  no_end-with : (call : Call) (reply : Reply) → Event c past who call reply → NoEnd (entry who call reply ∷ past)
  no_end-with _ _ (fix_load p m f) = λ t k. h t (omega arith)
  no_end-with _ _ (fix_replace p v m w u) = λ t k. h t (omega arith)
  no_end-with _ _ (fix_write p v m w g) = λ t k. h t (omega arith)
  no_end-with _ _ (flush_write p r w g) = λ t k. h t (omega arith)
  no_end-with _ _ (write_bad t p o) = h
  no_end-with _ _ (write_clean t p o w) = ended-before t p o
  no_end-with _ _ (write_dirty t p o w) = ended-before t p o
  no_end-with _ _ (fix_hit p x r) = h
  no_end-with _ _ (read_good t p image o) = h
  no_end-with _ _ (read_bad t p o) = h
  no_end-with _ _ (read_wrong t p o) = h
  no_end-with _ _ (unfixed n p o) = h
  no_end-with _ _ (ticked n) = h
  no_end-with _ _ (marked lsn) = h
  no_end-with _ _ (fix_busy p x) = h
  no_end-with _ _ (fix_none p m w) = h
  no_end-with _ _ (fix_log p v m w) = h
  no_end-with _ _ (flush_busy p) = h
  no_end-with _ _ (flush_absent p r) = h
  no_end-with _ _ (flush_clean p r u) = h
  no_end-with _ _ (flush_log p) = h
  no_end-with _ _ (discard_busy p) = h
  no_end-with _ _ (discard_absent p x) = h
  no_end-with _ _ (discard_pinned p) = h
  no_end-with _ _ (discarded p x) = h
  no_end-with _ _ (page_read n p o) = h
  no_end-with _ _ (page_written n p offset bytes lsn o) = h
  no_end-with _ _ purged = h

pub no_end : (c : Parameters) (past : Trail) → Legal c past → NoEnd past
no_end c [] l = λ t k. refl
no_end c (e ∷ past) l = no_end-with c past e.client (numbered c past l.before).writes_below (no_end c past l.before) e.call e.reply (event-of c past e l.here)

-- ---- a page whose write-out is out is resident

abbrev pub Stays : Trail → Type 0
Stays past = (p : ℕ) → writing past p ≡ true → resident past p ≡ true

module _ (c : Parameters) (past : Trail) (who : ℕ) (h : Stays past) where
  begun : (v : ℕ) → resident past v ≡ true → (q : ℕ) → (v == q || writing past q) ≡ true → resident past q ≡ true
  begun v r q m = elim (or_cases (v == q) (writing past q) m) [ inl e ↦ subst (λ y. resident past y ≡ true) (eqb-true v q e) r | inr k ↦ h q k ]

  ended-write : (t q : ℕ) → some (is_of q) (filter (λ g. not (g.serial == t)) (writes_out past)) ≡ true → resident past q ≡ true
  ended-write t q m = h q (some-filter (is_of q) (λ g. not (g.serial == t)) (writes_out past) m)

  stays-with : (call : Call) (reply : Reply) → Event c past who call reply → Stays (entry who call reply ∷ past)
  stays-with _ _ (fix_write p v m w g) = begun v (candidate-resident c past v (victim-is c past v w).eligible)
  stays-with _ _ (flush_write p r w g) = begun p r
  stays-with _ _ (fix_replace p v m w u) = λ q k. member-filter (λ r. not (r == v)) (residents past) q (not_from_false (q == v) (false_from_ne_true (q == v) (λ e.
      let free : writing past v ≡ false = not-true (writing past v) (and_parts (not (writing past v)) _ (and_parts (pins past v == 0) _ (and_parts (resident past v) _ (victim-is c past v w).eligible).1).1).0 in
      let busy : writing past v ≡ true = subst (λ y. writing past y ≡ true) (eqb-true q v e) k in cc))) (h q k)
  stays-with _ _ (read_good t p image o) = λ q k. or_right (p == q) (resident past q) (h q k)
  stays-with _ _ (write_bad t p o) = ended-write t
  stays-with _ _ (write_clean t p o w) = ended-write t
  stays-with _ _ (write_dirty t p o w) = ended-write t
  stays-with _ _ (fix_load p m f) = h
  stays-with _ _ (fix_hit p x r) = h
  stays-with _ _ (read_bad t p o) = h
  stays-with _ _ (read_wrong t p o) = h
  stays-with _ _ (unfixed n p o) = h
  stays-with _ _ (ticked n) = h
  stays-with _ _ (marked lsn) = h
  stays-with _ _ (fix_busy p x) = h
  stays-with _ _ (fix_none p m w) = h
  stays-with _ _ (fix_log p v m w) = h
  stays-with _ _ (flush_busy p) = h
  stays-with _ _ (flush_absent p r) = h
  stays-with _ _ (flush_clean p r u) = h
  stays-with _ _ (flush_log p) = h
  stays-with _ _ (discard_busy p) = h
  stays-with _ _ (discard_absent p x) = h
  stays-with _ _ (discard_pinned p) = h
  stays-with _ _ (discarded p x) = λ q k. member-filter (λ r. not (r == p)) (residents past) q (not_from_false (q == p) (ne_eqb q p (λ e. true≢false (sym k ∙ subst (λ y. writing past y ≡ false) (sym e) x.not_writing)))) (h q k)
  stays-with _ _ (page_read n p o) = h
  stays-with _ _ (page_written n p offset bytes lsn o) = h
  stays-with _ _ purged = h

pub stays : (c : Parameters) (past : Trail) → Legal c past → Stays past
stays c [] l = λ p h. cc
stays c (e ∷ past) l = stays-with c past e.client (stays c past l.before) e.call e.reply (event-of c past e l.here)
