-- No page is resident twice, and the pages that are resident or loading are never more than the frames.
use Rattle.std.proofs.Common.{◌≡◌, refl, sym, ◌∙◌, ap, ℕ, suc, ◌+◌, ◌≤◌, Bool, true, false, not, ◌||◌, ◌==◌, cond, List, [], ◌∷◌, filter, length, arith}
use Rattle.std.proofs.lemmas.Bool.{false_from_ne_true, ltb-true, eqb-true, eqb-false, ne_eqb}
use Rattle.bp_trail.specs.declared.entries.Call.{Call}
use Rattle.bp_trail.specs.declared.entries.Reply.{Reply}
use Rattle.bp_trail.specs.Parameters.{Parameters}
use Rattle.bp_trail.specs.Event.{Grant}
use Rattle.bp_trail.specs.Trail.{Trail}
use Rattle.bp_trail.specs.Passes.{reads_out}
use Rattle.bp_trail.specs.Places.{residents}
use Rattle.bp_trail.specs.Legal.{Legal}
use Rattle.bp_trail.proofs.Lists.{member, some-filter}
use Rattle.bp_trail.proofs.Events.{Event, event-of}
use Rattle.bp_trail.proofs.Events.Event.{ticked, marked, fix_hit, fix_load, fix_replace, fix_write, fix_busy, fix_none, fix_log, flush_busy, flush_absent, flush_clean, flush_log, flush_write, discard_busy, discard_absent, discard_pinned, discarded, read_good, read_bad, read_wrong, write_bad, write_clean, write_dirty, page_read, page_written, unfixed, purged}
use Rattle.bp_trail.proofs.Victim.{victim-is, candidate-resident}
use Rattle.bp_trail.proofs.Serials.{numbered, count-rest, rest, OneSerial}
use Rattle.bp_trail.proofs.Places.{places, out-of_page}
use Rattle.bp_trail.specs.Legal.{is_out}
use Rattle.bp_trail.specs.Event.{grant}

abbrev pub Distinct : List ℕ → Type 0
Distinct [] = Unit {0}
Distinct (x ∷ xs) = (member x xs ≡ false) × Distinct xs

Distinct-filter : (q : ℕ → Bool) (xs : List ℕ) → Distinct xs → Distinct (filter q xs)
Distinct-filter q [] h = tt
Distinct-filter q (x ∷ xs) h = go (q x) (Distinct-filter q xs h.1)
  where
    go : (b : Bool) → Distinct (filter q xs) → Distinct (cond b (x ∷ filter q xs) (filter q xs))
    go true ih = (false_from_ne_true (member x (filter q xs)) (λ m. let n = some-filter (λ y. y == x) q xs m in let k = h.0 in cc), ih)
    go false ih = ih

all-kept : (gs : List Grant) → length (filter (λ g. true) gs) ≡ length gs
all-kept [] = refl
all-kept (g ∷ gs) = let k = all-kept gs in omega arith

-- one read fewer is out
pub reads-rest : (who p t : ℕ) (gs : List Grant) → OneSerial gs → is_out (grant who p t) gs ≡ true → length gs ≡ suc (length (rest t gs))
reads-rest who p t gs h o =
    let k : length (filter (λ g. true) gs) ≡ suc (length (filter (λ g. true) (rest t gs))) = count-rest (λ g. true) who p t gs h o in
    let a = all-kept gs in
    let b = all-kept (rest t gs) in
    omega arith

-- one page fewer is resident
pub residents-rest : (v : ℕ) (xs : List ℕ) → member v xs ≡ true → suc (length (filter (λ y. not (y == v)) xs)) ≤ length xs
residents-rest v [] m = cc
residents-rest v (x ∷ xs) m = go (x == v) m (residents-rest v xs) (fewer xs)
  where
    fewer : (ys : List ℕ) → length (filter (λ y. not (y == v)) ys) ≤ length ys
    fewer [] = omega arith
    fewer (y ∷ ys) = at (y == v) (fewer ys)
      where
        at : (b : Bool) → length (filter (λ y. not (y == v)) ys) ≤ length ys → length (cond (not b) (y ∷ filter (λ y. not (y == v)) ys) (filter (λ y. not (y == v)) ys)) ≤ suc (length ys)
        at true k = omega arith
        at false k = omega arith

    go : (b : Bool) → (b || member v xs) ≡ true → (member v xs ≡ true → suc (length (filter (λ y. not (y == v)) xs)) ≤ length xs) → length (filter (λ y. not (y == v)) xs) ≤ length xs
        → suc (length (cond (not b) (x ∷ filter (λ y. not (y == v)) xs) (filter (λ y. not (y == v)) xs))) ≤ suc (length xs)
    go true m ih f = omega arith
    go false m ih f = let k = ih m in omega arith

-- of the pages that are left, the one that went is none, and the others are as they were
pub left-none : (v : ℕ) (xs : List ℕ) → member v (filter (λ q. not (q == v)) xs) ≡ false
left-none v [] = refl
left-none v (y ∷ ys) = go (y == v) refl (left-none v ys)
  where
    go : (b : Bool) → (y == v) ≡ b → member v (filter (λ q. not (q == v)) ys) ≡ false → member v (cond (not b) (y ∷ filter (λ q. not (q == v)) ys) (filter (λ q. not (q == v)) ys)) ≡ false
    go true e ih = ih
    go false e ih = rw e ih

pub left-other : (v q : ℕ) → (q == v) ≡ false → (xs : List ℕ) → member q (filter (λ r. not (r == v)) xs) ≡ member q xs
left-other v q n [] = refl
left-other v q n (y ∷ ys) = go (y == v) refl (left-other v q n ys)
  where
    go : (b : Bool) → (y == v) ≡ b → member q (filter (λ r. not (r == v)) ys) ≡ member q ys → member q (cond (not b) (y ∷ filter (λ r. not (r == v)) ys) (filter (λ r. not (r == v)) ys)) ≡ member q (y ∷ ys)
    go true e ih = ih ∙ sym (ap (λ b. b || member q ys) (ne_eqb y q (λ i. eqb-false q v n (sym i ∙ eqb-true y v e))))
    go false e ih = ap (λ b. (y == q) || b) ih

abbrev pub Frames : Parameters → Trail → Type 0
Frames c past = record {
  distinct : Distinct (residents past);
  within : length (residents past) + length (reads_out past) ≤ c.frames;
}

module _ (c : Parameters) (past : Trail) (who : ℕ) (l : Legal c past) (h : Frames c past) where
  frames-with : (call : Call) (reply : Reply) → Event c past who call reply → Frames c (record { client = who; call = call; reply = reply } ∷ past)
  frames-with _ _ (fix_load p m f) = record { distinct = h.distinct; within = let k = ltb-true (length (residents past) + length (reads_out past)) c.frames f in omega arith }
  frames-with _ _ (fix_replace p v m w u) = record {
    distinct = Distinct-filter (λ y. not (y == v)) (residents past) h.distinct;
    within = let k = residents-rest v (residents past) (candidate-resident c past v (victim-is c past v w).eligible) in let f = h.within in omega arith;
  }
  frames-with _ _ (read_good t p image o) = record {
    distinct = ((places c past l).away p (out-of_page who p t (reads_out past) o), h.distinct);
    within = let k = reads-rest who p t (reads_out past) (numbered c past l).reads_once o in let f = h.within in omega arith;
  }
  frames-with _ _ (read_bad t p o) = record {
    distinct = h.distinct;
    within = let k = reads-rest who p t (reads_out past) (numbered c past l).reads_once o in let f = h.within in omega arith;
  }
  frames-with _ _ (read_wrong t p o) = record {
    distinct = h.distinct;
    within = let k = reads-rest who p t (reads_out past) (numbered c past l).reads_once o in let f = h.within in omega arith;
  }
  frames-with _ _ (fix_write p v m w g) = h
  frames-with _ _ (flush_write p r w g) = h
  frames-with _ _ (write_bad t p o) = h
  frames-with _ _ (write_clean t p o w) = h
  frames-with _ _ (write_dirty t p o w) = h
  frames-with _ _ (fix_hit p x r) = h
  frames-with _ _ (unfixed n p o) = h
  frames-with _ _ (ticked n) = h
  frames-with _ _ (marked lsn) = h
  frames-with _ _ (fix_busy p x) = h
  frames-with _ _ (fix_none p m w) = h
  frames-with _ _ (fix_log p v m w) = h
  frames-with _ _ (flush_busy p) = h
  frames-with _ _ (flush_absent p r) = h
  frames-with _ _ (flush_clean p r u) = h
  frames-with _ _ (flush_log p) = h
  frames-with _ _ (discard_busy p) = h
  frames-with _ _ (discard_absent p x) = h
  frames-with _ _ (discard_pinned p) = h
  frames-with _ _ (discarded p x) = record {
    distinct = Distinct-filter (λ y. not (y == p)) (residents past) h.distinct;
    within = let k = residents-rest p (residents past) x.here in let f = h.within in omega arith;
  }
  frames-with _ _ (page_read n p o) = h
  frames-with _ _ (page_written n p offset bytes lsn o) = h
  frames-with _ _ purged = h

pub frames : (c : Parameters) (past : Trail) → Legal c past → Frames c past
frames c [] l = record { distinct = tt; within = omega arith }
frames c (e ∷ past) l = frames-with c past e.client l.before (frames c past l.before) e.call e.reply (event-of c past e l.here)
