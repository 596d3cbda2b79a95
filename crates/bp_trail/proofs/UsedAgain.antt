-- A page that is used again: from the write on that has all of its bytes it holds the plain map's image, whatever was read before.
use Rattle.std.proofs.Common.{◌≡◌, ◌⊎◌, inl, inr, refl, sym, ap, subst, ◌∙◌, ℕ, Bool, true, false, ◌==◌, if◌then◌else◌, List, [], ◌∷◌, ◌++◌, length, append_assoc, Option, Some, None, arith}
use Rattle.std.specs.List.{cons_option}
use Rattle.std.proofs.lemmas.Bool.{eqb-true, and_parts, or_parts, true≢false}
use Rattle.std.proofs.lemmas.Option.{none-some}
use Rattle.std.proofs.lemmas.List.Elements.{filter_map-append}
use Rattle.bp_page.specs.Patched.{patched}
use Rattle.bp_trail.specs.declared.entries.Entry.{Entry}
use Rattle.bp_trail.specs.declared.entries.Call.{Call}
use Rattle.bp_trail.specs.declared.entries.Reply.{Reply}
use Rattle.bp_trail.specs.declared.entries.Reply.TheVariants.{WriteFirst}
use Rattle.bp_trail.specs.Parameters.{Parameters}
use Rattle.bp_trail.specs.Lists.{some, EachEntry}
use Rattle.bp_trail.specs.Event.{grant, page_of, discards, ends_well, image_read, is_write, loads, patched_by, writes}
use Rattle.bp_trail.specs.Trail.{Trail}
use Rattle.bp_trail.specs.Passes.{reads_out}
use Rattle.bp_trail.specs.Places.{resident}
use Rattle.bp_trail.specs.Saved.{unsaved}
use Rattle.bp_trail.specs.Images.{held, written_into, after_discard, after_read, plain_map}
use Rattle.bp_trail.specs.Legal.{is_out, allowed, IsLawful, Legal}
use Rattle.bp_trail.specs.Device.{due, due_after, due_among, due_with, all_known, BringsDue}
use Rattle.bp_trail.specs.Recovery.{record_of, record_written, records, AllFit, put, UsedAgain}
use Rattle.bp_trail.proofs.Victim.{victim-is, candidate-resident}
use Rattle.bp_trail.proofs.Events.{Event, event-of}
use Rattle.bp_trail.proofs.Events.Event.{fix_write, flush_write, read_good, page_written}
use Rattle.bp_trail.proofs.Ranges.{sized}
use Rattle.bp_trail.proofs.Content.{FaithfulOf, faithful-of-with, sends-with, written_since_sent}
use Rattle.bp_trail.proofs.Since.{each_before}
use Rattle.bp_trail.proofs.Bytes.{length-patched, patched-whole, full-bytes, put-append}
use Rattle.bp_trail.proofs.Recovered.{record-patches, written-put, placed}
use Rattle.bp_trail.proofs.Plain.{plain-since-write}

abbrev entry : ℕ → Call → Reply → Entry
entry who call reply = record { client = who; call = call; reply = reply }

-- ---- sizes

-- each write lies within its page, whatever was read
pub records-sized : (c : Parameters) (p : ℕ) (past : Trail) → Legal c past → AllFit c.size (records p past)
records-sized c p [] l = tt
records-sized c p (e ∷ past) l = go (records-sized c p past l.before) (writes p e) refl
  where
    go : AllFit c.size (records p past) → (b : Bool) → writes p e ≡ b → AllFit c.size (cons_option (if b then Some (record_of e.call) else None) (records p past))
    go older false w = older
    go older true w = ((placed c past e.client p e.call l.before l.here.allowed w).inside, older)

sent-with-sized : (c : Parameters) (past : Trail) (who : ℕ) (call : Call) (reply : Reply) → Legal c past → Event c past who call reply → (t p : ℕ) (image : List ℕ) → reply ≡ WriteFirst t p image → length image ≡ c.size
sent-with-sized c past who _ _ l (fix_write q v x w g) t p image i =
    let went : held past v ≡ image = cc in
    ap length (sym went) ∙ sized c past l v (candidate-resident c past v (victim-is c past v w).eligible)
sent-with-sized c past who _ _ l (flush_write v r w g) t p image i =
    let went : held past v ≡ image = cc in
    ap length (sym went) ∙ sized c past l v r
sent-with-sized c past who _ _ l _ t p image i = cc

-- what goes out has the size of a page
pub sent-sized : (c : Parameters) (past : Trail) (e : Entry) (t p : ℕ) (image : List ℕ) → Legal c (e ∷ past) → e.reply ≡ WriteFirst t p image → length image ≡ c.size
sent-sized c past e t p image l i = sent-with-sized c past e.client e.call e.reply l.before (event-of c past e l.here) t p image i

-- what is due of a page has its size
due-sized : (c : Parameters) (m : ℕ → List ℕ) (p : ℕ) (whole past : Trail) → Legal c past → length (m p) ≡ c.size → (image : List ℕ) → due_among whole (all_known m) past p ≡ Some image → length image ≡ c.size
due-sized c m p whole [] l e image k = (let same : m p ≡ image = cc in ap length (sym same) ∙ e)
due-sized c m p whole (d ∷ past) l e image k = go d.reply refl k (due-sized c m p whole past l.before e image)
  where
    go : (r : Reply) → d.reply ≡ r → due_with whole p r (due_among whole (all_known m) past p) ≡ Some image → (due_among whole (all_known m) past p ≡ Some image → length image ≡ c.size) → length image ≡ c.size
    go (WriteFirst t q i) is k ih = at (q == p) (some (λ x. ends_well t x.call) whole) k
      where
        at : (b w : Bool) → (if b then due_after w i else due_among whole (all_known m) past p) ≡ Some image → length image ≡ c.size
        at true true k = let same : i ≡ image = cc in ap length (sym same) ∙ sent-sized c past d t q i l is
        at true false k = absurd (none-some image k)
        at false w k = ih k
    go _ is k ih = ih k

read-sized : (c : Parameters) (past : Trail) (who : ℕ) (call : Call) (reply : Reply) → Event c past who call reply → allowed c past who call ≡ true → (p : ℕ) → loads p (entry who call reply) ≡ true → length (image_read call) ≡ c.size
read-sized c past who _ _ (read_good t q image o) a p h = eqb-true (length image) c.size (and_parts (is_out (grant who q t) (reads_out past)) _ a).1
read-sized c past who _ _ _ a p h = cc

-- and so has the plain map's image
pub plain-sized : (c : Parameters) (m : ℕ → List ℕ) (p : ℕ) (past : Trail) → Legal c past → length (m p) ≡ c.size → length (plain_map m past p) ≡ c.size
plain-sized c m p [] l e = e
plain-sized c m p (d ∷ past) l e = go (discards p d) (loads p d) refl (writes p d) refl (plain-sized c m p past l.before e)
  where
    go : (x y : Bool) → loads p d ≡ y → (w : Bool) → writes p d ≡ w → length (plain_map m past p) ≡ c.size
        → length (if x then after_discard (due m past p) (plain_map m past p) else if y then after_read (due m past p) (image_read d.call) (plain_map m past p) else if w then patched_by d.call (plain_map m past p) else plain_map m past p) ≡ c.size
    go true y j w k ih = known (due m past p) refl
      where
        known : (o : Option (List ℕ)) → due m past p ≡ o → length (after_discard o (plain_map m past p)) ≡ c.size
        known None i = ih
        known (Some image) i = due-sized c m p past past l.before e image i
    go false true j w k ih = known (due m past p)
      where
        known : (o : Option (List ℕ)) → length (after_read o (image_read d.call) (plain_map m past p)) ≡ c.size
        known None = read-sized c past d.client d.call d.reply (event-of c past d l.here) l.here.allowed p j
        known (Some image) = ih
    go false false j true k ih =
        let fits = (placed c past d.client p d.call l.before l.here.allowed k).inside in
        ap length (record-patches d.call (and_parts (is_write d.call) _ k).0 (plain_map m past p))
        ∙ length-patched (record_of d.call).offset (record_of d.call).bytes (plain_map m past p) (omega arith)
        ∙ ih
    go false false j false k ih = ih

-- ---- what the page holds

first-faithful : (c : Parameters) (m : ℕ → List ℕ) (q : ℕ) (past : Trail) (who : ℕ) (call : Call) (reply : Reply) → Legal c past → Event c past who call reply
    → writes q (entry who call reply) ≡ true → (record_of call).offset ≡ 0 → length (record_of call).bytes ≡ c.size → length (m q) ≡ c.size → FaithfulOf m q (entry who call reply ∷ past)
first-faithful c m q past who _ _ l (page_written n p offset bytes lsn o) w z long size = record {
  holds = λ r. at (p == q) w r;
  sends = λ k. let a = or_parts (p == q) (written_since_sent past q) k in absurd (true≢false (sym w ∙ a.0));
  changes = λ k u. let a = or_parts (p == q) (unsaved past q) u in absurd (true≢false (sym w ∙ a.0));
}
  where
    at : (b : Bool) → b ≡ true → resident past q ≡ true → (if b then patched offset bytes (held past q) else held past q) ≡ (if b then patched offset bytes (plain_map m past q) else plain_map m past q)
    at true i r =
        patched-whole offset bytes (held past q) z (long ∙ sym (sized c past l q r))
        ∙ sym (patched-whole offset bytes (plain_map m past q) z (long ∙ sym (plain-sized c m q past l size)))
    at false i r = cc
first-faithful c m q past who _ _ l _ w z long size = cc

-- over a device that gave back what was written since
again-faithful : (c : Parameters) (m : ℕ → List ℕ) (q : ℕ) (later : Trail) (e : Entry) (earlier : Trail) → Legal c (later ++ e ∷ earlier)
    → writes q e ≡ true → (record_of e.call).offset ≡ 0 → length (record_of e.call).bytes ≡ c.size → length (m q) ≡ c.size
    → EachEntry (λ between d. page_of d.call ≡ q → BringsDue m (between ++ e ∷ earlier) d) later → FaithfulOf m q (later ++ e ∷ earlier)
again-faithful c m q [] e earlier l w z long size h = first-faithful c m q earlier e.client e.call e.reply l.before (event-of c earlier e l.here) w z long size
again-faithful c m q (d ∷ later) e earlier l w z long size h =
    faithful-of-with c m q (later ++ e ∷ earlier) d.client l.before (again-faithful c m q later e earlier l.before w z long size h.before) d.call d.reply (event-of c (later ++ e ∷ earlier) d l.here) h.here

-- while it is resident it holds the plain map's image
pub again-holds : (c : Parameters) (m : ℕ → List ℕ) (past : Trail) (end p : ℕ) → Legal c past → UsedAgain c.size m end past p → resident past p ≡ true → held past p ≡ plain_map m past p
again-holds c m past end p l u r =
    let faithful = again-faithful c m p u.later u.entry u.earlier (subst (Legal c) u.stands l) u.writes_it u.offset u.bytes u.opening u.honest in
    subst (λ s. held s p ≡ plain_map m s p) (sym u.stands) (faithful.holds (subst (λ s. resident s p ≡ true) u.stands r))

-- what goes out since is the plain map's
pub again-sends : (c : Parameters) (m : ℕ → List ℕ) (end q : ℕ) (past : Trail) (u : UsedAgain c.size m end past q) (newer between : Trail) (e : Entry) (t : ℕ) (image : List ℕ) → Legal c past
    → u.later ≡ newer ++ e ∷ between → e.reply ≡ WriteFirst t q image → image ≡ plain_map m (between ++ u.entry ∷ u.earlier) q
again-sends c m end q past u newer between e t image l cut i =
    let since = between ++ u.entry ∷ u.earlier in
    let stands : past ≡ newer ++ e ∷ since = u.stands ∙ ap (λ s. s ++ u.entry ∷ u.earlier) cut ∙ append_assoc newer (e ∷ between) (u.entry ∷ u.earlier) in
    let there = each_before (IsLawful c) newer (e ∷ since) (subst (Legal c) stands l) in
    let honest = (each_before _ newer (e ∷ between) (subst (EachEntry (λ between d. page_of d.call ≡ q → BringsDue m (between ++ u.entry ∷ u.earlier) d)) cut u.honest)).before in
    let faithful = again-faithful c m q between u.entry u.earlier there.before u.writes_it u.offset u.bytes u.opening honest in
    sends-with c m q since e.client there.before faithful e.call e.reply (event-of c since e there.here) t image i

-- ---- what the plain map has of it

write-gives : (c : Parameters) (m : ℕ → List ℕ) (q : ℕ) (past : Trail) (who : ℕ) (call : Call) (reply : Reply) → Legal c past → Event c past who call reply
    → writes q (entry who call reply) ≡ true → (record_of call).offset ≡ 0 → length (record_of call).bytes ≡ c.size → length (m q) ≡ c.size → plain_map m (entry who call reply ∷ past) q ≡ (record_of call).bytes
write-gives c m q past who _ _ l (page_written n p offset bytes lsn o) w z long size =
    ap (λ (b : Bool). if b then patched offset bytes (plain_map m past q) else plain_map m past q) w ∙ patched-whole offset bytes (plain_map m past q) z (long ∙ sym (plain-sized c m q past l size))
write-gives c m q past who _ _ l _ w z long size = cc

-- the bytes of that write, with the writes since
pub again-plain : (c : Parameters) (m : ℕ → List ℕ) (end q : ℕ) (past : Trail) (u : UsedAgain c.size m end past q) (between : Trail) → Legal c (between ++ u.entry ∷ u.earlier) → some (discards q) between ≡ false
    → plain_map m (between ++ u.entry ∷ u.earlier) q ≡ put (records q between) (record_of u.entry.call).bytes
again-plain c m end q past u between l n =
    let there = each_before (IsLawful c) between (u.entry ∷ u.earlier) l in
    let first = write-gives c m q u.earlier u.entry.client u.entry.call u.entry.reply there.before (event-of c u.earlier u.entry there.here) u.writes_it u.offset u.bytes u.opening in
    plain-since-write c m u.entry u.earlier q u.writes_it between l n
    ∙ written-put (λ p. plain_map m (u.entry ∷ u.earlier) q) q between
    ∙ ap (put (records q between)) first

-- which is what all writes of the run make
pub again-is_writes : (c : Parameters) (m : ℕ → List ℕ) (end q : ℕ) (past : Trail) (u : UsedAgain c.size m end past q) → Legal c past → plain_map m past q ≡ written_into m past q
again-is_writes c m end q past u l =
    let there = subst (Legal c) u.stands l in
    let w = record_of u.entry.call in
    let before = (each_before (IsLawful c) u.later (u.entry ∷ u.earlier) there).before in
    let all : records q past ≡ records q u.later ++ w ∷ records q u.earlier = ap (records q) u.stands ∙ filter_map-append (record_written q) u.later (u.entry ∷ u.earlier)
    ∙ ap (λ (b : Bool). records q u.later ++ cons_option (if b then Some w else None) (records q u.earlier)) u.writes_it in
    ap (λ s. plain_map m s q) u.stands
    ∙ again-plain c m end q past u u.later there u.kept
    ∙ ap (put (records q u.later)) (sym (full-bytes w (records q u.earlier) c.size (m q) u.offset u.bytes (records-sized c q u.earlier before) u.opening))
    ∙ sym (put-append (records q u.later) (w ∷ records q u.earlier) (m q))
    ∙ ap (λ rs. put rs (m q)) (sym all)
    ∙ sym (written-put m q past)

-- ---- where it stands

-- of two elements of one list either is the newer one, or they are the same
pub record NewerOne {X : Type 0} (xs us ys vs : List X) (a b : X) : Type 0 where
  pub between : List X
  pub front : us ≡ xs ++ a ∷ between
  pub rest : ys ≡ between ++ b ∷ vs

pub which-newer : {X : Type 0} (xs us ys vs : List X) (a b : X) → xs ++ a ∷ ys ≡ us ++ b ∷ vs → NewerOne xs us ys vs a b ⊎ ((a ≡ b) ⊎ NewerOne us xs vs ys b a)
which-newer [] [] ys vs a b h = (let same : a ≡ b = cc in inr (inl same))
which-newer [] (u ∷ us) ys vs a b h =
    let same : a ≡ u = cc in
    let rest : ys ≡ us ++ b ∷ vs = cc in
    inl (record { between = us; front = ap (λ x. x ∷ us) (sym same); rest = rest })
which-newer (x ∷ xs) [] ys vs a b h =
    let same : x ≡ b = cc in
    let rest : xs ++ a ∷ ys ≡ vs = cc in
    inr (inr (record { between = xs; front = ap (λ y. y ∷ xs) same; rest = sym rest }))
which-newer (x ∷ xs) (u ∷ us) ys vs a b h =
    let same : x ≡ u = cc in
    let rest : xs ++ a ∷ ys ≡ us ++ b ∷ vs = cc in
    elim (which-newer xs us ys vs a b rest) [
      | inl n ↦ inl (record { between = n.between; front = ap (λ y. y ∷ us) (sym same) ∙ ap (λ zs. x ∷ zs) n.front; rest = n.rest })
      | inr (inl e) ↦ inr (inl e)
      | inr (inr n) ↦ inr (inr (record { between = n.between; front = ap (λ y. y ∷ xs) same ∙ ap (λ zs. u ∷ zs) n.front; rest = n.rest }))
    ]
