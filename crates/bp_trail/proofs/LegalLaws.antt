-- What every legal trail keeps, entry by entry and at its end.
use Rattle.std.proofs.Common.{◌≡◌, refl, sym, ap, subst, ◌∙◌, ℕ, ◌+◌, ◌<◌, ◌≤◌, Bool, true, false, ◌==◌, cond, List, [], ◌∷◌, length, filter, filter_map, Contains, Option, Some, None, IsSome, inl, inr, arith}
use Rattle.std.specs.List.{cons_option}
use Rattle.std.proofs.lemmas.Bool.{true≢false, eqb-true}
use Rattle.bp_references.specs.Distance.{is_farther}
use Rattle.bp_trail.specs.declared.entries.Entry.{Entry}
use Rattle.bp_trail.specs.declared.entries.Call.{Call}
use Rattle.bp_trail.specs.declared.entries.Call.TheVariants.{Fix}
use Rattle.bp_trail.specs.declared.entries.Reply.{Reply}
use Rattle.bp_trail.specs.declared.entries.Reply.TheVariants.{Load, WriteFirst}
use Rattle.bp_trail.specs.Parameters.{Parameters}
use Rattle.bp_trail.specs.Lists.{some, count, greatest, after_last, EachEntry}
use Rattle.bp_trail.specs.Event.{Grant, discards, writes, lsn_of, lsn_written}
use Rattle.bp_trail.specs.Trail.{Trail}
use Rattle.bp_trail.specs.Passes.{passes, tickets, passes_out, reads_out, writes_out, is_of, pins}
use Rattle.bp_trail.specs.Places.{residents, resident, loading, writing}
use Rattle.bp_trail.specs.Saved.{unsaved}
use Rattle.bp_trail.specs.Images.{held, plain_map}
use Rattle.bp_trail.specs.Legal.{Legal}
use Rattle.bp_trail.specs.Device.{due, discarded_since_sent, HonestOf}
use Rattle.bp_trail.specs.Victim.{backward_distance, victim}
use Rattle.bp_trail.specs.Sentences.{IsCandidate, IsFirst}
use Rattle.bp_trail.specs.Safety.{EvictsSafely, DiscardsSafely, WritesAreDurable}
use Rattle.bp_trail.specs.Claims.{ReadsAreKnown, FindsDue, AnswersPlain, SendsPlain}
use Rattle.bp_trail.proofs.Elements.{contains-cases, contains-none}
use Rattle.bp_trail.proofs.Lists.{member}
use Rattle.bp_trail.proofs.Counting.{none-count}
use Rattle.bp_trail.proofs.Words.{of-all}
use Rattle.bp_trail.proofs.Events.{Event, event-of}
use Rattle.bp_trail.proofs.Events.Event.{fix_write, flush_write, read_good, read_bad, read_wrong, page_read}
use Rattle.bp_trail.proofs.Serials.{AllBelow, OneSerial, has_serial, numbered}
use Rattle.bp_trail.proofs.Victim.{victim-is, candidate-resident}
use Rattle.bp_trail.proofs.Places.{OnePage, places, out-of_page}
use Rattle.bp_trail.proofs.Residents.{Distinct, frames}
use Rattle.bp_trail.proofs.Known.{airborne}
use Rattle.bp_trail.proofs.Content.{read_end_known, held-plain}
use Rattle.bp_trail.proofs.Eviction.{evicted-at, eviction, discard}
use Rattle.bp_trail.proofs.Sentences.{victim-first}
use Rattle.bp_trail.proofs.Distance.{none-farther}
use Rattle.bp_trail.proofs.WriteAhead.{write_ahead}

abbrev entry : ℕ → Call → Reply → Entry
entry who call reply = record { client = who; call = call; reply = reply }

-- ---- places

member-count : (p : ℕ) (xs : List ℕ) → Distinct xs → count (λ q. q == p) xs ≤ 1
member-count p [] h = omega arith
member-count p (x ∷ xs) h = go (x == p) refl (member-count p xs h.1)
  where
    go : (b : Bool) → (x == p) ≡ b → count (λ q. q == p) xs ≤ 1 → length (cond b (x ∷ filter (λ q. q == p) xs) (filter (λ q. q == p) xs)) ≤ 1
    go true e ih = let k : count (λ q. q == p) xs ≡ 0 = none-count (λ q. q == p) xs (subst (λ y. member y xs ≡ false) (eqb-true x p e) h.0) in omega arith
    go false e ih = ih

pub once : (c : Parameters) (past : Trail) (p : ℕ) → Legal c past → count (λ q. q == p) (residents past) ≤ 1
once c past p l = member-count p (residents past) (frames c past l).distinct

page-count : (p : ℕ) (gs : List Grant) → OnePage gs → count (is_of p) gs ≤ 1
page-count p [] h = omega arith
page-count p (g ∷ gs) h = go (g.page == p) refl (page-count p gs h.1)
  where
    go : (b : Bool) → (g.page == p) ≡ b → count (is_of p) gs ≤ 1 → length (cond b (g ∷ filter (is_of p) gs) (filter (is_of p) gs)) ≤ 1
    go true e ih = let k : count (is_of p) gs ≡ 0 = none-count (is_of p) gs (subst (λ y. some (is_of y) gs ≡ false) (eqb-true g.page p e) h.0) in omega arith
    go false e ih = ih

pub pinned-resident : (c : Parameters) (past : Trail) (p : ℕ) → Legal c past → 0 < pins past p → resident past p ≡ true
pinned-resident c past p l h = go (some (is_of p) (passes_out past)) refl
  where
    go : (b : Bool) → some (is_of p) (passes_out past) ≡ b → resident past p ≡ true
    go true e = (places c past l).pinned p e
    go false e = let k : pins past p ≡ 0 = none-count (is_of p) (passes_out past) e in absurd (omega arith)

pub writing-unsaved : (c : Parameters) (past : Trail) (p : ℕ) → Legal c past → writing past p ≡ true → unsaved past p ≡ true
writing-unsaved c past p l h = (airborne c past l).flying p h

pub one-operation : (c : Parameters) (past : Trail) (p : ℕ) → Legal c past → count (is_of p) (reads_out past) + count (is_of p) (writes_out past) ≤ 1
one-operation c past p l = go (loading past p) refl (writing past p) refl
  where
    reads : count (is_of p) (reads_out past) ≤ 1
    reads = page-count p (reads_out past) (places c past l).once

    writes : count (is_of p) (writes_out past) ≤ 1
    writes = page-count p (writes_out past) (airborne c past l).once

    go : (a : Bool) → loading past p ≡ a → (b : Bool) → writing past p ≡ b → count (is_of p) (reads_out past) + count (is_of p) (writes_out past) ≤ 1
    go false i b j = let k = none-count (is_of p) (reads_out past) i in let w = writes in omega arith
    go true i false j = let k = none-count (is_of p) (writes_out past) j in let r = reads in omega arith
    go true i true j =
        let away = (places c past l).away p i in
        let here = (places c past l).dirty p (writing-unsaved c past p l j) in
        absurd (true≢false (sym here ∙ away))

below : (n : ℕ) (gs : List Grant) → AllBelow n gs → (g : Grant) → Contains gs g → g.serial < n
below n [] h g k = absurd (contains-none g k)
below n (d ∷ gs) h g k = elim (contains-cases d gs g k) as (λ _. g.serial < n)
    [ inl same ↦ subst (λ x. x.serial < n) same (let a = h.0 in omega arith) | inr later ↦ below n gs h.1 g later ]

pub passes-below : (c : Parameters) (past : Trail) (g : Grant) → Legal c past → Contains (passes_out past) g → g.serial < passes past
passes-below c past g l k = below (passes past) (passes_out past) (numbered c past l).passes_below g k

pub reads-below : (c : Parameters) (past : Trail) (g : Grant) → Legal c past → Contains (reads_out past) g → g.serial < tickets past
reads-below c past g l k = below (tickets past) (reads_out past) (numbered c past l).reads_below g k

pub writes-below : (c : Parameters) (past : Trail) (g : Grant) → Legal c past → Contains (writes_out past) g → g.serial < tickets past
writes-below c past g l k = below (tickets past) (writes_out past) (numbered c past l).writes_below g k

serial-count : (n : ℕ) (gs : List Grant) → OneSerial gs → count (has_serial n) gs ≤ 1
serial-count n [] h = omega arith
serial-count n (g ∷ gs) h = go (g.serial == n) refl (serial-count n gs h.1)
  where
    go : (b : Bool) → (g.serial == n) ≡ b → count (has_serial n) gs ≤ 1 → length (cond b (g ∷ filter (has_serial n) gs) (filter (has_serial n) gs)) ≤ 1
    go true e ih = let k : count (has_serial n) gs ≡ 0 = none-count (has_serial n) gs (subst (λ y. some (has_serial y) gs ≡ false) (eqb-true g.serial n e) h.0) in omega arith
    go false e ih = ih

pub passes-once : (c : Parameters) (past : Trail) (n : ℕ) → Legal c past → count (has_serial n) (passes_out past) ≤ 1
passes-once c past n l = serial-count n (passes_out past) (numbered c past l).passes_once

pub reads-once : (c : Parameters) (past : Trail) (n : ℕ) → Legal c past → count (has_serial n) (reads_out past) ≤ 1
reads-once c past n l = serial-count n (reads_out past) (numbered c past l).reads_once

pub writes-once : (c : Parameters) (past : Trail) (n : ℕ) → Legal c past → count (has_serial n) (writes_out past) ≤ 1
writes-once c past n l = serial-count n (writes_out past) (numbered c past l).writes_once

-- ---- images

pub reads-known : (c : Parameters) (past : Trail) → Legal c past → ReadsAreKnown past
reads-known c past l m who p t o d = read_end_known c m past who p t l o d

finds : (c : Parameters) (past : Trail) → Legal c past → (who : ℕ) (call : Call) (reply : Reply) → Event c past who call reply → FindsDue past (entry who call reply)
finds c past l who _ _ (read_good u q given o) m t p image i = let j : q ≡ p = cc in subst (λ x. discarded_since_sent past x ≡ false → IsSome (due m past x)) j (read_end_known c m past who q u l o)
finds c past l who _ _ (read_bad u q o) m t p image i = let j : q ≡ p = cc in subst (λ x. discarded_since_sent past x ≡ false → IsSome (due m past x)) j (read_end_known c m past who q u l o)
finds c past l who _ _ (read_wrong u q o) m t p image i = let j : q ≡ p = cc in subst (λ x. discarded_since_sent past x ≡ false → IsSome (due m past x)) j (read_end_known c m past who q u l o)
finds c past l who _ _ _ m t p image i = cc

pub each-finds : (c : Parameters) (past : Trail) → Legal c past → EachEntry FindsDue past
each-finds c = of-all c FindsDue (λ past e l. finds c past l.before e.client e.call e.reply (event-of c past e l.here))

answers : (c : Parameters) (past : Trail) → Legal c past → (who : ℕ) (call : Call) (reply : Reply) → Event c past who call reply → AnswersPlain past (entry who call reply)
answers c past l who _ _ (page_read u q o) m n p image honest i j =
    let k : q ≡ p = cc in
    let content : held past q ≡ image = cc in
    sym content ∙ held-plain c m past q l (subst (λ x. HonestOf m x past) (sym k) honest) ((places c past l).pinned q (out-of_page who q u (passes_out past) o)) ∙ ap (plain_map m past) k
answers c past l who _ _ _ m n p image honest i j = cc

pub each-answers : (c : Parameters) (past : Trail) → Legal c past → EachEntry AnswersPlain past
each-answers c = of-all c AnswersPlain (λ past e l. answers c past l.before e.client e.call e.reply (event-of c past e l.here))

sends : (c : Parameters) (past : Trail) → Legal c past → (who : ℕ) (call : Call) (reply : Reply) → Event c past who call reply → SendsPlain past (entry who call reply)
sends c past l who _ _ (fix_write q v n w g) m t p image honest i =
    let k : v ≡ p = cc in
    let sent : held past v ≡ image = cc in
    sym sent ∙ held-plain c m past v l (subst (λ x. HonestOf m x past) (sym k) honest) (candidate-resident c past v (victim-is c past v w).eligible) ∙ ap (plain_map m past) k
sends c past l who _ _ (flush_write v r w g) m t p image honest i =
    let k : v ≡ p = cc in
    let sent : held past v ≡ image = cc in
    sym sent ∙ held-plain c m past v l (subst (λ x. HonestOf m x past) (sym k) honest) r ∙ ap (plain_map m past) k
sends c past l who _ _ _ m t p image honest i = cc

pub each-sends : (c : Parameters) (past : Trail) → Legal c past → EachEntry SendsPlain past
each-sends c = of-all c SendsPlain (λ past e l. sends c past l.before e.client e.call e.reply (event-of c past e l.here))

-- ---- evictions and write-outs

pub each-evicts : (c : Parameters) (past : Trail) → Legal c past → EachEntry (EvictsSafely c) past
each-evicts c = of-all c (EvictsSafely c) (λ past e l. eviction c past e l.here)

pub each-discards : (c : Parameters) (past : Trail) → Legal c past → EachEntry DiscardsSafely past
each-discards c = of-all c DiscardsSafely (λ past e l. discard c past e l)

-- the page that leaves, or that is written out first for a fix
abbrev pub EvictsFirst : Parameters → Trail → Entry → Type 0
EvictsFirst c past e = (t v : ℕ) → e.reply ≡ Load t (Some v) → IsFirst c past v

abbrev pub EvictsFarthest : Parameters → Trail → Entry → Type 0
EvictsFarthest c past e = (t v q : ℕ) → e.reply ≡ Load t (Some v) → IsCandidate c past q → is_farther (backward_distance c past q) (backward_distance c past v) ≡ false

abbrev pub WritesFirst : Parameters → Trail → Entry → Type 0
WritesFirst c past e = (t v p : ℕ) (image : List ℕ) → e.call ≡ Fix p → e.reply ≡ WriteFirst t v image → IsFirst c past v

written-at : (c : Parameters) (past : Trail) (who : ℕ) (call : Call) (reply : Reply) → Event c past who call reply → (t v p : ℕ) (image : List ℕ) → call ≡ Fix p → reply ≡ WriteFirst t v image → victim c past ≡ Some v
written-at c past who _ _ (fix_write q u m w g) t v p image i j = let k : u ≡ v = cc in subst (λ x. victim c past ≡ Some x) k w
written-at c past who _ _ _ t v p image i j = cc

pub each-first : (c : Parameters) (past : Trail) → Legal c past → EachEntry (EvictsFirst c) past
each-first c = of-all c (EvictsFirst c) (λ past e l t v i. victim-first c past v (evicted-at c past e.client e.call e.reply (event-of c past e l.here) t v i).0)

pub each-farthest : (c : Parameters) (past : Trail) → Legal c past → EachEntry (EvictsFarthest c) past
each-farthest c = of-all c (EvictsFarthest c) (λ past e l t v q i k. none-farther c past v q (evicted-at c past e.client e.call e.reply (event-of c past e l.here) t v i).0 k)

pub each-written : (c : Parameters) (past : Trail) → Legal c past → EachEntry (WritesFirst c) past
each-written c = of-all c (WritesFirst c) (λ past e l t v p image i j. victim-first c past v (written-at c past e.client e.call e.reply (event-of c past e l.here) t v p image i j))

lsn-bounded : (p : ℕ) (past : Trail) (w : Entry) → Contains past w → writes p w ≡ true → lsn_of w.call ≤ greatest (filter_map (lsn_written p) past)
lsn-bounded p [] w k i = absurd (contains-none w k)
lsn-bounded p (e ∷ past) w k i = elim (contains-cases e past w k) as (λ _. lsn_of w.call ≤ greatest (filter_map (lsn_written p) (e ∷ past)))
    [ inl same ↦ subst (λ x. lsn_of x.call ≤ greatest (filter_map (lsn_written p) (e ∷ past))) same (here (ap (writes p) same ∙ i)) | inr later ↦ there (lsn_written p e) (lsn-bounded p past w later i) ]
  where
    here : writes p e ≡ true → lsn_of e.call ≤ greatest (filter_map (lsn_written p) (e ∷ past))
    here j = rw j (omega arith)

    there : (o : Option ℕ) → lsn_of w.call ≤ greatest (filter_map (lsn_written p) past) → lsn_of w.call ≤ greatest (cons_option o (filter_map (lsn_written p) past))
    there None b = b
    there (Some n) b = omega arith

pub each-durable : (c : Parameters) (past : Trail) → Legal c past → EachEntry WritesAreDurable past
each-durable c = of-all c WritesAreDurable (λ past e l t p image w r k i. let a = write_ahead c past e t p image l r in let b = lsn-bounded p (after_last (discards p) past) w k i in omega arith)
