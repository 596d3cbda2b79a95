-- The plain map of a page is its writes put into its opening image, and after a discard into what was due.
use Rattle.std.proofs.Common.{◌≡◌, refl, sym, ◌∙◌, ap, subst, ℕ, Bool, true, false, not, ◌&&◌, ◌||◌, ◌==◌, if◌then◌else◌, List, [], ◌∷◌, ◌++◌, Option, Some, None, IsSome, arith}
use Rattle.std.proofs.lemmas.Bool.{true≢false, eqb-true, or_parts, or_right, or_left}
use Rattle.std.proofs.lemmas.Option.{none-some}
use Rattle.std.proofs.lemmas.List.{append-nil}
use Rattle.bp_trail.specs.declared.entries.Entry.{Entry}
use Rattle.bp_trail.specs.declared.entries.Call.{Call}
use Rattle.bp_trail.specs.declared.entries.Reply.{Reply}
use Rattle.bp_trail.specs.declared.entries.Reply.TheVariants.{WriteFirst}
use Rattle.bp_trail.specs.Parameters.{Parameters}
use Rattle.bp_trail.specs.Lists.{some, since, after_last}
use Rattle.bp_trail.specs.Event.{begins_of, discards, ends_well, loads, writes, written, image_read}
use Rattle.bp_trail.specs.Trail.{Trail}
use Rattle.bp_trail.specs.Passes.{reads_out, tickets}
use Rattle.bp_trail.specs.Saved.{settles}
use Rattle.bp_trail.specs.Images.{plain_since, plain_map, written_into, after_discard, after_read}
use Rattle.bp_trail.specs.Legal.{is_out, Legal}
use Rattle.bp_trail.specs.Device.{due, due_after, due_among, due_since, due_with, all_known, discarded_since_sent}
use Rattle.bp_trail.proofs.Sentences.{due-kept}
use Rattle.bp_trail.proofs.Events.{Event, event-of}
use Rattle.bp_trail.proofs.Events.Event.{fix_write, flush_write, read_good}
use Rattle.bp_trail.proofs.Content.{read_end_known}
use Rattle.bp_trail.proofs.Known.{airborne}
use Rattle.bp_trail.proofs.Lists.{some-append}
use Rattle.bp_trail.proofs.Places.{places, out-of_page}
use Rattle.bp_trail.proofs.WriteAhead.{not-begun}

-- a page that is discarded goes back to what is due
pub plain-discarded : (m : ℕ → List ℕ) (past : Trail) (e : Entry) (p : ℕ) (image : List ℕ) → discards p e ≡ true → due m past p ≡ Some image → plain_map m (e ∷ past) p ≡ image
plain-discarded m past e p image h k =
    ap (λ b. if b then after_discard (due m past p) (plain_map m past p) else if loads p e then after_read (due m past p) (image_read e.call) (plain_map m past p) else written p e (plain_map m past p)) h
    ∙ ap (λ o. after_discard o (plain_map m past p)) k

-- each good read of p since h finds known what is due
abbrev pub FindsKnown : (ℕ → Option (List ℕ)) → ℕ → Trail → Trail → Type 0
FindsKnown known p h [] = Unit {0}
FindsKnown known p h (e ∷ s) = (loads p e ≡ true → IsSome (due_since known (s ++ h) p) × (writes p e ≡ false)) × FindsKnown known p h s

-- then the plain map is the writes since
pub plain-writes : (m : ℕ → List ℕ) (known : ℕ → Option (List ℕ)) (p : ℕ) (h s : Trail) → some (discards p) s ≡ false → FindsKnown known p h s → plain_since m known (s ++ h) p ≡ written_into (λ q. plain_since m known h p) s p
plain-writes m known p h [] n f = refl
plain-writes m known p h (e ∷ s) n f = rw k.0 (go (loads p e) refl (due_since known (s ++ h) p) refl f.0) ∙ ap (written p e) (plain-writes m known p h s k.1 f.1)
  where
    k : (discards p e ≡ false) × (some (discards p) s ≡ false)
    k = or_parts (discards p e) (some (discards p) s) n

    go : (b : Bool) → loads p e ≡ b → (o : Option (List ℕ)) → due_since known (s ++ h) p ≡ o → (b ≡ true → IsSome o × (writes p e ≡ false))
        → (if b then after_read o (image_read e.call) (plain_since m known (s ++ h) p) else written p e (plain_since m known (s ++ h) p)) ≡ written p e (plain_since m known (s ++ h) p)
    go true i None g f = absurd (let x = (f refl).0 in cc)
    go true i (Some image) g f = rw (f refl).1 refl
    go false i o g f = refl

-- an opening map of one page is as good
pub written-of : (m : ℕ → List ℕ) (p : ℕ) (s : Trail) → written_into (λ q. m p) s p ≡ written_into m s p
written-of m p [] = refl
written-of m p (e ∷ s) = ap (written p e) (written-of m p s)

-- ---- what makes each read find it known

loads-out : (c : Parameters) (past : Trail) (who : ℕ) (call : Call) (reply : Reply) → Event c past who call reply → (p : ℕ) → loads p (record { client = who; call = call; reply = reply }) ≡ true
    → (t : ℕ) × (is_out (record { client = who; page = p; serial = t }) (reads_out past) ≡ true) × (writes p (record { client = who; call = call; reply = reply }) ≡ false)
loads-out c past who _ _ (read_good t q image o) p h = (t, subst (λ y. is_out (record { client = who; page = y; serial = t }) (reads_out past) ≡ true) (eqb-true q p h) o, refl)
loads-out c past who _ _ _ p h = cc

-- ---- since a discard

-- what is known stays so
due-stays : (whole : Trail) (known : ℕ → Option (List ℕ)) (e : Entry) (p : ℕ) (past : Trail) (image : List ℕ) → due_among whole known past p ≡ Some image → due_among (e ∷ whole) known past p ≡ Some image
due-stays whole known e p [] image k = k
due-stays whole known e p (d ∷ past) image k = go d.reply (due-stays whole known e p past image) k
  where
    go : (r : Reply) → (due_among whole known past p ≡ Some image → due_among (e ∷ whole) known past p ≡ Some image) → due_with whole p r (due_among whole known past p) ≡ Some image → due_with (e ∷ whole) p r (due_among (e ∷ whole) known past p) ≡ Some image
    go (WriteFirst t q i) f k = at (q == p) (some (λ x. ends_well t x.call) whole) refl k
      where
        at : (b w : Bool) → some (λ x. ends_well t x.call) whole ≡ w → (if b then due_after w i else due_among whole known past p) ≡ Some image
            → (if b then due_after (ends_well t e.call || some (λ x. ends_well t x.call) whole) i else due_among (e ∷ whole) known past p) ≡ Some image
        at true true j k = ap (λ b. due_after b i) (or_right (ends_well t e.call) _ j) ∙ k
        at true false j k = absurd (none-some image k)
        at false w j k = f k
    go _ f k = f k

due-kept-all : (whole : Trail) (known : ℕ → Option (List ℕ)) (p : ℕ) (later past : Trail) → some (λ e. begins_of p e.reply) later ≡ false → due_among whole known (later ++ past) p ≡ due_among whole known past p
due-kept-all whole known p [] past n = refl
due-kept-all whole known p (e ∷ later) past n =
    let k = or_parts (begins_of p e.reply) _ n in
    due-kept whole p e.reply (due_among whole known (later ++ past) p) k.0 ∙ due-kept-all whole known p later past k.1

due-after-all : (known : ℕ → Option (List ℕ)) (p : ℕ) (later past : Trail) (image : List ℕ) → due_since known past p ≡ Some image → due_among (later ++ past) known past p ≡ Some image
due-after-all known p [] past image k = k
due-after-all known p (e ∷ later) past image k = due-stays (later ++ past) known e p past image (due-after-all known p later past image k)

-- a write-out of p began later, and p was not discarded later
begun-since : (p : ℕ) (later past : Trail) → some (λ e. begins_of p e.reply) later ≡ true → some (discards p) later ≡ false → discarded_since_sent (later ++ past) p ≡ false
begun-since p [] past b n = absurd (true≢false (sym b))
begun-since p (e ∷ later) past b n = go (begins_of p e.reply) b (begun-since p later past)
  where
    k : (discards p e ≡ false) × (some (discards p) later ≡ false)
    k = or_parts (discards p e) (some (discards p) later) n

    go : (b : Bool) → (b || some (λ e. begins_of p e.reply) later) ≡ true → (some (λ e. begins_of p e.reply) later ≡ true → some (discards p) later ≡ false → discarded_since_sent (later ++ past) p ≡ false)
        → some (discards p) (if b then [] else e ∷ after_last (λ d. begins_of p d.reply) (later ++ past)) ≡ false
    go true b ih = refl
    go false b ih = rw k.0 (ih b k.1)

-- ---- in a piece of a trail, with the history before it

-- a ticket that is given has not ended before
not-ended : (c : Parameters) (past : Trail) (who : ℕ) (call : Call) (reply : Reply) → Legal c past → Event c past who call reply → (t q : ℕ) (image : List ℕ) → reply ≡ WriteFirst t q image → some (λ e. ends_well t e.call) past ≡ false
not-ended c past who _ _ l (fix_write p v m w g) t q image e = let i : tickets past ≡ t = cc in subst (λ n. some (λ d. ends_well n d.call) past ≡ false) i ((airborne c past l).ended_below (tickets past) (omega arith))
not-ended c past who _ _ l (flush_write p r w g) t q image e = let i : tickets past ≡ t = cc in subst (λ n. some (λ d. ends_well n d.call) past ≡ false) i ((airborne c past l).ended_below (tickets past) (omega arith))
not-ended c past who _ _ l _ t q image e = cc

or-neither : (a b : Bool) → b ≡ false → (a || b) ≡ a
or-neither true b h = refl
or-neither false b h = h

module _ (c : Parameters) (m : ℕ → List ℕ) (p : ℕ) (h : Trail) where
  -- what is known of p after the history and the piece is known after the piece, if p went out in it
  known-in-piece : (whole s : Trail) → Legal c (s ++ h) → some (λ e. begins_of p e.reply) s ≡ true → IsSome (due_among (whole ++ h) (all_known m) (s ++ h) p) → IsSome (due_among whole (all_known m) s p)
  known-in-piece whole [] l b k = absurd (true≢false (sym b))
  known-in-piece whole (e ∷ s) l b k = go e.reply refl b k (known-in-piece whole s l.before)
    where
      go : (r : Reply) → e.reply ≡ r → (begins_of p r || some (λ d. begins_of p d.reply) s) ≡ true → IsSome (due_with (whole ++ h) p r (due_among (whole ++ h) (all_known m) (s ++ h) p))
          → (some (λ d. begins_of p d.reply) s ≡ true → IsSome (due_among (whole ++ h) (all_known m) (s ++ h) p) → IsSome (due_among whole (all_known m) s p)) → IsSome (due_with whole p r (due_among whole (all_known m) s p))
      go (WriteFirst t q image) i b k ih = at (q == p) b k
        where
          before : some (λ d. ends_well t d.call) h ≡ false
          before = (or_parts (some (λ d. ends_well t d.call) s) _ (sym (some-append (λ d. ends_well t d.call) s h) ∙ not-ended c (s ++ h) e.client e.call e.reply l.before (event-of c (s ++ h) e l.here) t q image i)).1

          at : (x : Bool) → (x || some (λ d. begins_of p d.reply) s) ≡ true → IsSome (if x then due_after (some (λ d. ends_well t d.call) (whole ++ h)) image else due_among (whole ++ h) (all_known m) (s ++ h) p)
              → IsSome (if x then due_after (some (λ d. ends_well t d.call) whole) image else due_among whole (all_known m) s p)
          at true b k = subst (λ y. IsSome (due_after y image)) (some-append (λ d. ends_well t d.call) whole h ∙ or-neither _ _ before) k
          at false b k = ih b k
      go _ i b k ih = ih b k

  finds-in-piece : (s : Trail) → Legal c (s ++ h) → some (discards p) s ≡ false → FindsKnown (all_known m) p [] s
  finds-in-piece [] l n = tt
  finds-in-piece (e ∷ s) l n = (λ i. let r = loads-out c (s ++ h) e.client e.call e.reply (event-of c (s ++ h) e l.here) p i in (at (some (λ x. begins_of p x.reply) s) refl r.0 r.1, r.2), finds-in-piece s l.before k)
    where
      k : some (discards p) s ≡ false
      k = (or_parts (discards p e) (some (discards p) s) n).1

      at : (b : Bool) → some (λ x. begins_of p x.reply) s ≡ b → (t : ℕ) → is_out (record { client = e.client; page = p; serial = t }) (reads_out (s ++ h)) ≡ true → IsSome (due_since (all_known m) (s ++ []) p)
      at true i t o = subst (λ (x : Trail). IsSome (due_since (all_known m) x p)) (sym (append-nil s)) (known-in-piece s s l.before i (read_end_known c m (s ++ h) e.client p t l.before o (begun-since p s h i k)))
      at false i t o = subst IsSome (sym (due-kept-all (s ++ []) (all_known m) p s [] i)) refl

  -- Where p was not discarded in a piece, its plain map is its writes.
  pub plain-in-piece : (s : Trail) → Legal c (s ++ h) → some (discards p) s ≡ false → plain_since m (all_known m) s p ≡ written_into m s p
  plain-in-piece s l n =
      ap (λ (x : Trail). plain_since m (all_known m) x p) (sym (append-nil s)) ∙ plain-writes m (all_known m) p [] s n (finds-in-piece s l n) ∙ written-of m p s

-- Where p was never discarded, its plain map is its writes.
pub plain-is_writes : (c : Parameters) (m : ℕ → List ℕ) (past : Trail) (p : ℕ) → Legal c past → some (discards p) past ≡ false → plain_map m past p ≡ written_into m past p
plain-is_writes c m past p l n = plain-in-piece c m p [] past (subst (Legal c) (sym (append-nil past)) l) n

discard-begins : (p : ℕ) (e : Entry) → discards p e ≡ true → begins_of p e.reply ≡ false
discard-begins p e h = go e.reply h
  where
    go : (r : Reply) → discards p (record { client = e.client; call = e.call; reply = r }) ≡ true → begins_of p r ≡ false
    go (WriteFirst t q image) h = absurd (true≢false (sym h))
    go _ h = refl

module _ (c : Parameters) (m : ℕ → List ℕ) (e : Entry) (earlier : Trail) (p : ℕ) (image : List ℕ) (gone : discards p e ≡ true) (known : due m earlier p ≡ Some image) where
  due-then : due m (e ∷ earlier) p ≡ Some image
  due-then = due-kept (e ∷ earlier) p e.reply (due_among (e ∷ earlier) (all_known m) earlier p) (discard-begins p e gone) ∙ due-stays earlier (all_known m) e p earlier image known

  finds-since : (later : Trail) → Legal c (later ++ e ∷ earlier) → some (discards p) later ≡ false → FindsKnown (all_known m) p (e ∷ earlier) later
  finds-since [] l n = tt
  finds-since (d ∷ later) l n = (
    λ h. let r = loads-out c (later ++ e ∷ earlier) d.client d.call d.reply (event-of c (later ++ e ∷ earlier) d l.here) p h in (at (some (λ x. begins_of p x.reply) later) refl r.0 r.1, r.2),
    finds-since later l.before k,
  )
    where
      k : some (discards p) later ≡ false
      k = (or_parts (discards p d) (some (discards p) later) n).1

      at : (b : Bool) → some (λ x. begins_of p x.reply) later ≡ b → (t : ℕ) → is_out (record { client = d.client; page = p; serial = t }) (reads_out (later ++ e ∷ earlier)) ≡ true → IsSome (due m (later ++ e ∷ earlier) p)
      at true i t o = read_end_known c m (later ++ e ∷ earlier) d.client p t l.before o (begun-since p later (e ∷ earlier) i k)
      at false i t o = subst IsSome (sym (due-kept-all (later ++ e ∷ earlier) (all_known m) p later (e ∷ earlier) i ∙ due-after-all (all_known m) p later (e ∷ earlier) image due-then)) refl

  -- After a discard of p its plain map is what was due, with its writes since.
  pub plain-since-discard : (later : Trail) → Legal c (later ++ e ∷ earlier) → some (discards p) later ≡ false → plain_map m (later ++ e ∷ earlier) p ≡ written_into (λ q. image) later p
  plain-since-discard later l n =
      plain-writes m (all_known m) p (e ∷ earlier) later n (finds-since later l n)
      ∙ ap (λ i. written_into (λ q. i) later p) (plain-discarded m earlier e p image gone known)

-- ---- since a write

-- what was written since is unsaved as long as no write-out and no discard of p came
unsaved-still : (whole : Trail) (p : ℕ) (later : Trail) (e : Entry) (earlier : Trail) → writes p e ≡ true → some (discards p) later ≡ false → some (λ d. begins_of p d.reply) later ≡ false
    → since (writes p) (settles whole p) (later ++ e ∷ earlier) ≡ true
unsaved-still whole p [] e earlier w n b = or_left (writes p e) _ w
unsaved-still whole p (d ∷ later) e earlier w n b =
    let k = or_parts (discards p d) (some (discards p) later) n in
    let j = or_parts (begins_of p d.reply) (some (λ d. begins_of p d.reply) later) b in
    or_right (writes p d) (not (settles whole p d) && since (writes p) (settles whole p) (later ++ e ∷ earlier))
    (rw (k.0, not-begun whole p d.reply j.0) (unsaved-still whole p later e earlier w k.1 j.1))

module _ (c : Parameters) (m : ℕ → List ℕ) (e : Entry) (earlier : Trail) (p : ℕ) (w : writes p e ≡ true) where
  finds-written : (later : Trail) → Legal c (later ++ e ∷ earlier) → some (discards p) later ≡ false → FindsKnown (all_known m) p (e ∷ earlier) later
  finds-written [] l n = tt
  finds-written (d ∷ later) l n = (
    λ h. let r = loads-out c (later ++ e ∷ earlier) d.client d.call d.reply (event-of c (later ++ e ∷ earlier) d l.here) p h in (at (some (λ x. begins_of p x.reply) later) refl r.0 r.1, r.2),
    finds-written later l.before k,
  )
    where
      k : some (discards p) later ≡ false
      k = (or_parts (discards p d) (some (discards p) later) n).1

      at : (b : Bool) → some (λ x. begins_of p x.reply) later ≡ b → (t : ℕ) → is_out (record { client = d.client; page = p; serial = t }) (reads_out (later ++ e ∷ earlier)) ≡ true → IsSome (due m (later ++ e ∷ earlier) p)
      at true i t o = read_end_known c m (later ++ e ∷ earlier) d.client p t l.before o (begun-since p later (e ∷ earlier) i k)
      at false i t o =
          let there = (places c (later ++ e ∷ earlier) l.before).dirty p (unsaved-still (later ++ e ∷ earlier) p later e earlier w k i) in
          let away = (places c (later ++ e ∷ earlier) l.before).away p (out-of_page d.client p t (reads_out (later ++ e ∷ earlier)) o) in
          absurd (true≢false (sym there ∙ away))

  -- Where p was not discarded since it was written to, its plain map is what that write left, with the writes since.
  pub plain-since-write : (later : Trail) → Legal c (later ++ e ∷ earlier) → some (discards p) later ≡ false → plain_map m (later ++ e ∷ earlier) p ≡ written_into (λ q. plain_map m (e ∷ earlier) p) later p
  plain-since-write later l n = plain-writes m (all_known m) p (e ∷ earlier) later n (finds-written later l n)
