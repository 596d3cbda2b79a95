-- Serial numbers of the passes and tickets of a legal trail: each is below the next one to be given, and none is out twice.
use Rattle.std.proofs.Common.{◌≡◌, refl, sym, ap, ℕ, suc, ◌≤◌, Bool, true, false, ◌||◌, ◌==◌, cond, if◌then◌else◌, List, [], ◌∷◌, filter, length, Some, arith}
use Rattle.std.proofs.lemmas.Bool.{eqb-true, eq-eqb, ne_eqb, and_parts, or_parts, false_from_ne_true}
use Rattle.bp_trail.specs.declared.entries.Entry.{Entry}
use Rattle.bp_trail.specs.declared.entries.Call.{Call}
use Rattle.bp_trail.specs.declared.entries.Reply.{Reply}
use Rattle.bp_trail.specs.Parameters.{Parameters}
use Rattle.bp_trail.specs.Lists.{some, count, without}
use Rattle.bp_trail.specs.Event.{Grant, grant, same_grant}
use Rattle.bp_trail.specs.Trail.{Trail}
use Rattle.bp_trail.specs.Passes.{passes, tickets, passes_out, reads_out, writes_out}
use Rattle.bp_trail.specs.Legal.{is_out, Legal}
use Rattle.bp_trail.proofs.Lists.{some-filter, some-mono}
use Rattle.bp_trail.proofs.Events.{Event, event-of}
use Rattle.bp_trail.proofs.Events.Event.{ticked, marked, fix_hit, fix_load, fix_replace, fix_write, fix_busy, fix_none, fix_log, flush_busy, flush_absent, flush_clean, flush_log, flush_write, discard_busy, discard_absent, discard_pinned, discarded, read_good, read_bad, read_wrong, write_bad, write_clean, write_dirty, page_read, page_written, unfixed, purged}

abbrev pub has_serial : ℕ → Grant → Bool
has_serial n g = g.serial == n

abbrev pub OneSerial : List Grant → Type 0
OneSerial [] = Unit {0}
OneSerial (g ∷ gs) = (some (has_serial g.serial) gs ≡ false) × OneSerial gs

abbrev pub AllBelow : ℕ → List Grant → Type 0
AllBelow n [] = Unit {0}
AllBelow n (g ∷ gs) = (suc g.serial ≤ n) × AllBelow n gs

-- the grants that an end leaves
abbrev pub rest : ℕ → List Grant → List Grant
rest n gs = without (λ g. g.serial) (Some n) gs

AllBelow-more : (n m : ℕ) (gs : List Grant) → n ≤ m → AllBelow n gs → AllBelow m gs
AllBelow-more n m [] h b = tt
AllBelow-more n m (g ∷ gs) h b = (omega (arith, b.0), AllBelow-more n m gs h b.1)

AllBelow-filter : (q : Grant → Bool) (n : ℕ) (gs : List Grant) → AllBelow n gs → AllBelow n (filter q gs)
AllBelow-filter q n [] b = tt
AllBelow-filter q n (g ∷ gs) b = go (q g) (AllBelow-filter q n gs b.1)
  where
    go : (d : Bool) → AllBelow n (filter q gs) → AllBelow n (cond d (g ∷ filter q gs) (filter q gs))
    go true ih = (b.0, ih)
    go false ih = ih

OneSerial-filter : (q : Grant → Bool) (gs : List Grant) → OneSerial gs → OneSerial (filter q gs)
OneSerial-filter q [] h = tt
OneSerial-filter q (g ∷ gs) h = go (q g) (OneSerial-filter q gs h.1)
  where
    go : (b : Bool) → OneSerial (filter q gs) → OneSerial (cond b (g ∷ filter q gs) (filter q gs))
    go true ih = (false_from_ne_true (some (has_serial g.serial) (filter q gs)) (λ m. let n = some-filter (has_serial g.serial) q gs m in let k = h.0 in cc), ih)
    go false ih = ih

pub fresh : (n : ℕ) (gs : List Grant) → AllBelow n gs → some (has_serial n) gs ≡ false
fresh n [] b = refl
fresh n (g ∷ gs) b = rw (ne_eqb g.serial n (λ e. let k = b.0 in absurd (omega arith))) (fresh n gs b.1)

abbrev pub Numbered : Trail → Type 0
Numbered past = record {
  passes_below : AllBelow (passes past) (passes_out past);
  passes_once : OneSerial (passes_out past);
  reads_below : AllBelow (tickets past) (reads_out past);
  reads_once : OneSerial (reads_out past);
  writes_below : AllBelow (tickets past) (writes_out past);
  writes_once : OneSerial (writes_out past);
}

abbrev entry : ℕ → Call → Reply → Entry
entry who call reply = record { client = who; call = call; reply = reply }

module _ (c : Parameters) (past : Trail) (who : ℕ) (h : Numbered past) where
  more : (gs : List Grant) → AllBelow (tickets past) gs → AllBelow (suc (tickets past)) gs
  more gs b = AllBelow-more (tickets past) (suc (tickets past)) gs (omega arith) b

  ended : (t : ℕ) → record {
    passes_below : AllBelow (passes past) (passes_out past);
    passes_once : OneSerial (passes_out past);
    reads_below : AllBelow (tickets past) (reads_out past);
    reads_once : OneSerial (reads_out past);
    writes_below : AllBelow (tickets past) (rest t (writes_out past));
    writes_once : OneSerial (rest t (writes_out past));
  }
  ended t = record {
    passes_below = h.passes_below;
    passes_once = h.passes_once;
    reads_below = h.reads_below;
    reads_once = h.reads_once;
    writes_below = AllBelow-filter _ (tickets past) (writes_out past) h.writes_below;
    writes_once = OneSerial-filter _ (writes_out past) h.writes_once;
  }

  numbered-with : (call : Call) (reply : Reply) → Event c past who call reply → Numbered (entry who call reply ∷ past)
  numbered-with _ _ (fix_hit p l r) = record {
    passes_below = (omega arith, AllBelow-more (passes past) (suc (passes past)) (passes_out past) (omega arith) h.passes_below);
    passes_once = (fresh (passes past) (passes_out past) h.passes_below, h.passes_once);
    reads_below = h.reads_below;
    reads_once = h.reads_once;
    writes_below = h.writes_below;
    writes_once = h.writes_once;
  }
  numbered-with _ _ (fix_load p m f) = record {
    passes_below = h.passes_below;
    passes_once = h.passes_once;
    reads_below = (omega arith, more (reads_out past) h.reads_below);
    reads_once = (fresh (tickets past) (reads_out past) h.reads_below, h.reads_once);
    writes_below = more (writes_out past) h.writes_below;
    writes_once = h.writes_once;
  }
  numbered-with _ _ (fix_replace p v m w u) = record {
    passes_below = h.passes_below;
    passes_once = h.passes_once;
    reads_below = (omega arith, more (reads_out past) h.reads_below);
    reads_once = (fresh (tickets past) (reads_out past) h.reads_below, h.reads_once);
    writes_below = more (writes_out past) h.writes_below;
    writes_once = h.writes_once;
  }
  numbered-with _ _ (fix_write p v m w g) = record {
    passes_below = h.passes_below;
    passes_once = h.passes_once;
    reads_below = more (reads_out past) h.reads_below;
    reads_once = h.reads_once;
    writes_below = (omega arith, more (writes_out past) h.writes_below);
    writes_once = (fresh (tickets past) (writes_out past) h.writes_below, h.writes_once);
  }
  numbered-with _ _ (flush_write p r w g) = record {
    passes_below = h.passes_below;
    passes_once = h.passes_once;
    reads_below = more (reads_out past) h.reads_below;
    reads_once = h.reads_once;
    writes_below = (omega arith, more (writes_out past) h.writes_below);
    writes_once = (fresh (tickets past) (writes_out past) h.writes_below, h.writes_once);
  }
  numbered-with _ _ (read_good t p image o) = record {
    passes_below = (omega arith, AllBelow-more (passes past) (suc (passes past)) (passes_out past) (omega arith) h.passes_below);
    passes_once = (fresh (passes past) (passes_out past) h.passes_below, h.passes_once);
    reads_below = AllBelow-filter _ (tickets past) (reads_out past) h.reads_below;
    reads_once = OneSerial-filter _ (reads_out past) h.reads_once;
    writes_below = h.writes_below;
    writes_once = h.writes_once;
  }
  numbered-with _ _ (read_bad t p o) = record {
    passes_below = h.passes_below;
    passes_once = h.passes_once;
    reads_below = AllBelow-filter _ (tickets past) (reads_out past) h.reads_below;
    reads_once = OneSerial-filter _ (reads_out past) h.reads_once;
    writes_below = h.writes_below;
    writes_once = h.writes_once;
  }
  numbered-with _ _ (read_wrong t p o) = record {
    passes_below = h.passes_below;
    passes_once = h.passes_once;
    reads_below = AllBelow-filter _ (tickets past) (reads_out past) h.reads_below;
    reads_once = OneSerial-filter _ (reads_out past) h.reads_once;
    writes_below = h.writes_below;
    writes_once = h.writes_once;
  }
  numbered-with _ _ (write_bad t p o) = ended t
  numbered-with _ _ (write_clean t p o w) = ended t
  numbered-with _ _ (write_dirty t p o w) = ended t
  numbered-with _ _ (unfixed n p o) = record {
    passes_below = AllBelow-filter _ (passes past) (passes_out past) h.passes_below;
    passes_once = OneSerial-filter _ (passes_out past) h.passes_once;
    reads_below = h.reads_below;
    reads_once = h.reads_once;
    writes_below = h.writes_below;
    writes_once = h.writes_once;
  }
  numbered-with _ _ (ticked n) = h
  numbered-with _ _ (marked lsn) = h
  numbered-with _ _ (fix_busy p l) = h
  numbered-with _ _ (fix_none p m w) = h
  numbered-with _ _ (fix_log p v m w) = h
  numbered-with _ _ (flush_busy p) = h
  numbered-with _ _ (flush_absent p r) = h
  numbered-with _ _ (flush_clean p r u) = h
  numbered-with _ _ (flush_log p) = h
  numbered-with _ _ (discard_busy p) = h
  numbered-with _ _ (discard_absent p x) = h
  numbered-with _ _ (discard_pinned p) = h
  numbered-with _ _ (discarded p x) = h
  numbered-with _ _ (page_read n p o) = h
  numbered-with _ _ (page_written n p offset bytes lsn o) = h
  numbered-with _ _ purged = h

pub numbered : (c : Parameters) (past : Trail) → Legal c past → Numbered past
numbered c [] l = record { passes_below = tt; passes_once = tt; reads_below = tt; reads_once = tt; writes_below = tt; writes_once = tt }
numbered c (e ∷ past) l = numbered-with c past e.client (numbered c past l.before) e.call e.reply (event-of c past e l.here)

-- a grant is the one that is named
pub same-grant-is : (who p t : ℕ) (g : Grant) → same_grant (grant who p t) g ≡ true → g ≡ grant who p t
same-grant-is who p t g m =
    let a = and_parts (who == g.client) _ m in
    let b = and_parts (p == g.page) (t == g.serial) a.1 in
    let i = eqb-true who g.client a.0 in
    let j = eqb-true p g.page b.0 in
    let k = eqb-true t g.serial b.1 in
    λ n. record { client = sym i n; page = sym j n; serial = sym k n }

pub out-serial : (who p t : ℕ) (gs : List Grant) → is_out (grant who p t) gs ≡ true → some (has_serial t) gs ≡ true
out-serial who p t gs m = some-mono (same_grant (grant who p t)) (has_serial t) gs
    (λ g h. eq-eqb g.serial t (sym (eqb-true t g.serial (and_parts (p == g.page) _ (and_parts (who == g.client) _ h).1).1))) m

-- none has the serial number, so none goes
pub none-goes : (t : ℕ) (gs : List Grant) → some (has_serial t) gs ≡ false → rest t gs ≡ gs
none-goes t [] h = refl
none-goes t (g ∷ gs) h = let a = or_parts (g.serial == t) _ h in rw a.0 (ap (λ r. g ∷ r) (none-goes t gs a.1))

-- One grant is given back: of any kind there is one less where it is of that kind.
pub count-rest : (f : Grant → Bool) (who p t : ℕ) (gs : List Grant) → OneSerial gs → is_out (grant who p t) gs ≡ true
    → count f gs ≡ (if f (grant who p t) then suc (count f (rest t gs)) else count f (rest t gs))
count-rest f who p t [] h m = cc
count-rest f who p t (g ∷ gs) h m = go (same_grant (grant who p t) g) refl m (count-rest f who p t gs h.1)
  where
    Wanted : Type 0
    Wanted = count f (g ∷ gs) ≡ (if f (grant who p t) then suc (count f (rest t (g ∷ gs))) else count f (rest t (g ∷ gs)))

    kept : (b d : Bool) → count f gs ≡ (if d then suc (count f (rest t gs)) else count f (rest t gs))
        → length (cond b (g ∷ filter f gs) (filter f gs)) ≡ (if d then suc (length (cond b (g ∷ filter f (rest t gs)) (filter f (rest t gs)))) else length (cond b (g ∷ filter f (rest t gs)) (filter f (rest t gs))))
    kept true true ih = ap suc ih
    kept true false ih = ap suc ih
    kept false true ih = ih
    kept false false ih = ih

    first : (b : Bool) → length (cond b (g ∷ filter f gs) (filter f gs)) ≡ (if b then suc (length (filter f gs)) else length (filter f gs))
    first true = refl
    first false = refl

    go : (b : Bool) → same_grant (grant who p t) g ≡ b → (b || is_out (grant who p t) gs) ≡ true
        → (is_out (grant who p t) gs ≡ true → count f gs ≡ (if f (grant who p t) then suc (count f (rest t gs)) else count f (rest t gs)))
        → Wanted
    go true e m ih =
        let i = same-grant-is who p t g e in
        let j : (g.serial == t) ≡ true = eq-eqb g.serial t (ap (λ x. x.serial) i) in
        let k : rest t gs ≡ gs = none-goes t gs (rw (eqb-true g.serial t j) at h.0) in
        rw (j, k, ← i) (first (f g))
    go false e m ih =
        let n : (g.serial == t) ≡ false = ne_eqb g.serial t (λ x. let o = out-serial who p t gs m in let q = rw x at h.0 in cc) in
        rw n (kept (f g) (f (grant who p t)) (ih m))
