-- What is computed entry by entry is what the sentence says of the whole list.
use Rattle.std.proofs.Common.{◌≡◌, refl, sym, ap, subst, ◌∙◌, ℕ, suc, ◌≤◌, nat_lt, Bool, true, false, not, ◌&&◌, ◌||◌, ◌==◌, if◌then◌else◌, cond, List, [], ◌∷◌, ◌++◌, length, filter, filter_map, Contains, Decides, Option, Some, None, ◌⊎◌, inl, inr, arith}
use Rattle.std.specs.List.{cons_option}
use Rattle.std.specs.Option.{option_map_or}
use Rattle.std.proofs.lemmas.Bool.{true≢false, and_parts, and_from, or_parts, or_cases, or_left, or_right, or_from, eqb-true, eq-eqb, ne_eqb, ltb-true, lt-ltb, not-true, not_from_false, false_from_ne_true}
use Rattle.std.proofs.lemmas.Bool.Decides.{nat_tests}
use Rattle.bp_references.specs.Burst.{Reference, last_time, bursts}
use Rattle.bp_references.specs.Burst.Reference.{hit, fault}
use Rattle.bp_references.specs.Burst.{Burst}
use Rattle.bp_references.specs.Cut.{IsCut}
use Rattle.bp_references.specs.Stamp.{burst_at, burst_stamp}
use Rattle.bp_references.proofs.CutLaws.{one_cut}
use Rattle.bp_references.proofs.BurstLaws.{newest}
use Rattle.bp_trail.specs.declared.entries.Entry.{Entry}
use Rattle.bp_trail.specs.declared.entries.Call.{Call}
use Rattle.bp_trail.specs.declared.entries.Call.TheVariants.{ReadEnd}
use Rattle.bp_trail.specs.declared.entries.Reply.{Reply}
use Rattle.bp_trail.specs.declared.entries.Reply.TheVariants.{Hit, Load, WriteFirst, Fixed, Discarded}
use Rattle.bp_trail.specs.Parameters.{Parameters}
use Rattle.bp_trail.specs.Lists.{some, count, without, and_given, after_last, since, EachEntry}
use Rattle.bp_trail.specs.Event.{page_of, pass_given, ticket_given, loaded, left, is_fixed_reply, hits, loads, discards, writes, is_purge, written, image_read, begins_of, ends_well, lsn_written}
use Rattle.bp_trail.specs.Trail.{Trail}
use Rattle.bp_trail.specs.Clock.{clock}
use Rattle.bp_trail.specs.Passes.{pass_of, passes, tickets, pins}
use Rattle.bp_trail.specs.Places.{residents, resident, loading, writing}
use Rattle.bp_trail.specs.Saved.{began_saving, settles, unsaved, page_lsn}
use Rattle.bp_trail.specs.Images.{held, written_into}
use Rattle.bp_trail.specs.References.{is_empty, references, forgets, last, hist}
use Rattle.bp_trail.specs.Victim.{rank, before, candidate, victim, Rank}
use Rattle.bp_trail.specs.Legal.{Legal}
use Rattle.bp_trail.specs.Device.{due_among, due_with}
use Rattle.bp_trail.specs.Sentences.{Lasts, AreAfterLast, IsGreatest, leaves, pass_number, gives_pass, begins_operation, IsNext, IsNew, with_before, reference_at, forgot_at, references_since, IsForgotten, IsCandidate, IsFirst, IsUnsaved}
use Rattle.bp_trail.proofs.Elements.{contains-cases, contains-none, passing, some-contained, after-last-only, since-lasts, greatest-is}
use Rattle.bp_trail.proofs.Events.{Event, event-of}
use Rattle.bp_trail.proofs.Events.Event.{fix_hit, fix_load, fix_replace, fix_write, flush_write, discard_absent, discarded, read_good, purged}
use Rattle.bp_trail.proofs.Victim.{victim-is, no-victim}
use Rattle.bp_trail.proofs.Residents.{left-none, left-other}
use Rattle.bp_trail.proofs.Lists.{member, some-append, some-mono}

-- ---- places

resident-since : (p : ℕ) (past : Trail) → resident past p ≡ since (loads p) (leaves p) past
resident-since p [] = refl
resident-since p (e ∷ past) = go e.reply (page_of e.call) (residents past) (since (loads p) (leaves p) past) (resident-since p past)
  where
    gone : (v : ℕ) (xs : List ℕ) (b : Bool) → member p xs ≡ b → member p (filter (λ x. not (x == v)) xs) ≡ (not (v == p) && b)
    gone v xs b h = at (v == p) refl
      where
        at : (d : Bool) → (v == p) ≡ d → member p (filter (λ x. not (x == v)) xs) ≡ (not d && b)
        at true i = subst (λ x. member p (filter (λ y. not (y == x)) xs) ≡ false) (sym (eqb-true v p i)) (left-none p xs)
        at false i = left-other v p (ne_eqb p v (λ e. true≢false (sym (eq-eqb v p (sym e)) ∙ i))) xs ∙ h

    go : (r : Reply) (q : ℕ) (xs : List ℕ) (b : Bool) → member p xs ≡ b
        → member p (and_given (loaded q r) (without (λ x. x) (left q r) xs)) ≡ ((is_fixed_reply r && (q == p)) || (not (option_map_or (λ v. v == p) (left q r) false) && b))
    go (Fixed n) q xs b h = ap (λ x. (q == p) || x) h
    go (Load t None) q xs b h = h
    go (Load t (Some v)) q xs b h = gone v xs b h
    go Discarded q xs b h = gone q xs b h
    go _ q xs b h = h

pub resident-lasts : (past : Trail) (p : ℕ) → Decides (resident past p) (Lasts (loads p) (leaves p) past)
resident-lasts past p =
    let d = since-lasts (loads p) (leaves p) past in
    (λ h. d.0 (sym (resident-since p past) ∙ h), λ w. resident-since p past ∙ d.1 w)

since-itself : (test : Entry → Bool) (past : Trail) → some test past ≡ true → since test test past ≡ true
since-itself test [] h = h
since-itself test (e ∷ past) h = go (test e) h (since-itself test past)
  where
    go : (b : Bool) → (b || some test past) ≡ true → (some test past ≡ true → since test test past ≡ true) → (b || (not b && since test test past)) ≡ true
    go true h ih = refl
    go false h ih = ih h

-- a resident page was read
pub resident-read : (past : Trail) (p : ℕ) → resident past p ≡ true → Lasts (loads p) (loads p) past
resident-read past p h =
    let w = (resident-lasts past p).0 h in
    let there : some (loads p) past ≡ true = ap (some (loads p)) w.stands ∙ some-append (loads p) w.later (w.entry ∷ w.earlier) ∙ or_right (some (loads p) w.later) (some (loads p) (w.entry ∷ w.earlier)) (or_left (loads p w.entry) (some (loads p) w.earlier) w.starts) in
    (since-lasts (loads p) (loads p) past).0 (since-itself (loads p) past there)

-- ---- serial numbers

pub passes-count : (past : Trail) → passes past ≡ count gives_pass past
passes-count [] = refl
passes-count (e ∷ past) = go e.reply (passes-count past)
  where
    go : (r : Reply) → passes past ≡ count gives_pass past
        → length (cons_option (pass_given e.client (page_of e.call) r) (filter_map pass_of past)) ≡ length (cond (option_map_or (λ (n : ℕ). true) (pass_number r) false) (e ∷ filter gives_pass past) (filter gives_pass past))
    go (Hit n) h = ap suc h
    go (Fixed n) h = ap suc h
    go _ h = h

pub tickets-count : (past : Trail) → tickets past ≡ count (λ e. begins_operation e.reply) past
tickets-count [] = refl
tickets-count (e ∷ past) = go e.reply (tickets-count past)
  where
    go : (r : Reply) → tickets past ≡ count (λ e. begins_operation e.reply) past
        → length (cons_option (ticket_given r) (filter_map (λ e. ticket_given e.reply) past)) ≡ length (cond (begins_operation r) (e ∷ filter (λ e. begins_operation e.reply) past) (filter (λ e. begins_operation e.reply) past))
    go (Load t v) h = ap suc h
    go (WriteFirst t p image) h = ap suc h
    go _ h = h

module _ (c : Parameters) where
  pass-next : (past : Trail) (who : ℕ) (call : Call) (reply : Reply) → Event c past who call reply → (n : ℕ) → pass_number reply ≡ Some n → n ≡ passes past
  pass-next past who _ _ (fix_hit p l r) n i = cc
  pass-next past who _ _ (read_good t p image o) n i = cc
  pass-next past who _ _ _ n i = cc

  ticket-next : (past : Trail) (who : ℕ) (call : Call) (reply : Reply) → Event c past who call reply → (n : ℕ) → ticket_given reply ≡ Some n → n ≡ tickets past
  ticket-next past who _ _ (fix_load p m f) n i = cc
  ticket-next past who _ _ (fix_replace p v m w u) n i = cc
  ticket-next past who _ _ (fix_write p v m w b) n i = cc
  ticket-next past who _ _ (flush_write p r w b) n i = cc
  ticket-next past who _ _ _ n i = cc

  pub passes-next : (past : Trail) → Legal c past → EachEntry (IsNext (λ e. pass_number e.reply) passes) past
  passes-next [] l = tt
  passes-next (e ∷ past) l = record { here = λ n i. pass-next past e.client e.call e.reply (event-of c past e l.here) n i; before = passes-next past l.before }

  pub tickets-next : (past : Trail) → Legal c past → EachEntry (IsNext (λ e. ticket_given e.reply) tickets) past
  tickets-next [] l = tt
  tickets-next (e ∷ past) l = record { here = λ n i. ticket-next past e.client e.call e.reply (event-of c past e l.here) n i; before = tickets-next past l.before }

-- where each number is the next one, all before it are less
module _ (number : Entry → Option ℕ) (next : Trail → ℕ) (grows : (e : Entry) (past : Trail) → next past ≤ next (e ∷ past)) (steps : (e : Entry) (past : Trail) (n : ℕ) → number e ≡ Some n → suc (next past) ≤ next (e ∷ past)) where
  below-next : (past : Trail) → EachEntry (IsNext number next) past → (d : Entry) (n : ℕ) → Contains past d → number d ≡ Some n → suc n ≤ next past
  below-next [] h d n k i = absurd (contains-none d k)
  below-next (e ∷ past) h d n k i = elim (contains-cases e past d k) as (λ _. suc n ≤ next (e ∷ past)) [
    | inl same ↦ (let j : number e ≡ Some n = ap number same ∙ i in let m = h.here n j in let s = steps e past n j in omega arith)
    | inr older ↦ (let b = below-next past h.before d n older i in let g = grows e past in omega arith)
  ]

  pub numbers-new : (past : Trail) → EachEntry (IsNext number next) past → EachEntry (IsNew number) past
  numbers-new [] h = tt
  numbers-new (e ∷ past) h = record {
    here = λ n d i k j. let m = h.here n i in let b = below-next past h.before d n k j in absurd (omega arith);
    before = numbers-new past h.before;
  }

longer : {X : Type 0} (o : Option X) (xs : List X) → length xs ≤ length (cons_option o xs)
longer None xs = omega arith
longer (Some x) xs = omega arith

passes-step : (e : Entry) (past : Trail) (n : ℕ) → pass_number e.reply ≡ Some n → suc (passes past) ≤ passes (e ∷ past)
passes-step e past n i = go e.reply i
  where
    go : (r : Reply) → pass_number r ≡ Some n → suc (passes past) ≤ length (cons_option (pass_given e.client (page_of e.call) r) (filter_map pass_of past))
    go (Hit m) i = omega arith
    go (Fixed m) i = omega arith
    go _ i = cc

tickets-step : (e : Entry) (past : Trail) (n : ℕ) → ticket_given e.reply ≡ Some n → suc (tickets past) ≤ tickets (e ∷ past)
tickets-step e past n i = go (ticket_given e.reply) i
  where
    go : (o : Option ℕ) → o ≡ Some n → suc (tickets past) ≤ length (cons_option o (filter_map (λ e. ticket_given e.reply) past))
    go None i = cc
    go (Some m) i = omega arith

pub passes-new : (c : Parameters) (past : Trail) → Legal c past → EachEntry (IsNew (λ e. pass_number e.reply)) past
passes-new c past l = numbers-new (λ e. pass_number e.reply) passes (λ e past. longer (pass_of e) (filter_map pass_of past)) passes-step past (passes-next c past l)

pub tickets-new : (c : Parameters) (past : Trail) → Legal c past → EachEntry (IsNew (λ e. ticket_given e.reply)) past
tickets-new c past l = numbers-new (λ e. ticket_given e.reply) tickets (λ e past. longer (ticket_given e.reply) (filter_map (λ e. ticket_given e.reply) past)) tickets-step past (tickets-next c past l)

-- ---- references

purge-quiet : (c : Parameters) (past : Trail) (who : ℕ) (call : Call) (reply : Reply) → Event c past who call reply → (p : ℕ) → is_purge call ≡ true
    → (hits p (record { client = who; call = call; reply = reply }) ≡ false) × (loads p (record { client = who; call = call; reply = reply }) ≡ false)
purge-quiet c past who _ _ purged p i = (refl, refl)
purge-quiet c past who _ _ _ p i = cc

discard-quiet : (c : Parameters) (past : Trail) (who : ℕ) (call : Call) (reply : Reply) → Event c past who call reply → (p : ℕ) → discards p (record { client = who; call = call; reply = reply }) ≡ true
    → (hits p (record { client = who; call = call; reply = reply }) ≡ false) × (loads p (record { client = who; call = call; reply = reply }) ≡ false)
discard-quiet c past who _ _ (discard_absent q x) p i = (refl, refl)
discard-quiet c past who _ _ (discarded q x) p i = (refl, refl)
discard-quiet c past who _ _ _ p i = cc

pub references-are : (c : Parameters) (past : Trail) (p : ℕ) → Legal c past → references c past p ≡ references_since c past p
references-are c [] p l = refl
references-are c (e ∷ past) p l = go (hits p e) refl (loads p e) refl (discards p e) refl (is_purge e.call && forgets c past p (references c past p)) refl (references-are c past p l.before)
  where
    event : Event c past e.client e.call e.reply
    event = event-of c past e l.here

    quiet : (is_purge e.call && forgets c past p (references c past p)) ≡ true → (hits p e ≡ false) × (loads p e ≡ false)
    quiet f = purge-quiet c past e.client e.call e.reply event p (and_parts (is_purge e.call) _ f).0

    unquoted : (h : Bool) → hits p e ≡ h → (l : Bool) → loads p e ≡ l → references c past p ≡ references_since c past p
        → (if h then hit (clock past) ∷ references c past p else if l then fault (clock past) ∷ references c past p else references c past p)
        ≡ cons_option (if h then Some (hit (clock past)) else if l then Some (fault (clock past)) else None) (references_since c past p)
    unquoted true i l j ih = ap (λ r. hit (clock past) ∷ r) ih
    unquoted false i true j ih = ap (λ r. fault (clock past) ∷ r) ih
    unquoted false i false j ih = ih

    go : (h : Bool) → hits p e ≡ h → (l : Bool) → loads p e ≡ l → (d : Bool) → discards p e ≡ d → (f : Bool) → (is_purge e.call && forgets c past p (references c past p)) ≡ f → references c past p ≡ references_since c past p
        → (if h then hit (clock past) ∷ references c past p else if l then fault (clock past) ∷ references c past p else if d then [] else if f then [] else references c past p)
        ≡ filter_map (reference_at p) (if d || f then [] else (e, past) ∷ after_last (forgot_at c p) (with_before past))
    go true i l j true k f n ih = absurd (true≢false (sym i ∙ (discard-quiet c past e.client e.call e.reply event p k).0))
    go false i true j true k f n ih = absurd (true≢false (sym j ∙ (discard-quiet c past e.client e.call e.reply event p k).1))
    go false i false j true k f n ih = refl
    go true i l j false k true n ih = absurd (true≢false (sym i ∙ (quiet n).0))
    go false i true j false k true n ih = absurd (true≢false (sym j ∙ (quiet n).1))
    go false i false j false k true n ih = refl
    go true i l j false k false n ih = rw i (unquoted true i l j ih)
    go false i true j false k false n ih = rw (i, j) (unquoted false i true j ih)
    go false i false j false k false n ih = rw (i, j) (unquoted false i false j ih)

pub known-none : (rs : List Reference) → is_empty rs ≡ true → rs ≡ []
known-none [] h = refl
known-none (r ∷ rs) h = absurd (true≢false (sym h))

pub forgets-decides : (c : Parameters) (past : Trail) (p : ℕ) → Decides (forgets c past p (references c past p)) (IsForgotten c past p)
forgets-decides c past p = (
  λ h. let a = and_parts (not (is_empty (references c past p))) _ h in
      let b = and_parts (not (resident past p || loading past p)) _ a.1 in
      let d = or_parts (resident past p) (loading past p) (not-true _ b.0) in
      record { known = λ none. true≢false (sym (ap is_empty none) ∙ not-true _ a.0); not_resident = d.0; not_loading = d.1; old = ltb-true _ _ b.1 },
  λ w. and_from (not (is_empty (references c past p))) _
      (not_from_false _ (false_from_ne_true (is_empty (references c past p)) (λ h. w.known (known-none (references c past p) h))))
      (and_from (not (resident past p || loading past p)) _ (not_from_false _ (or_from (resident past p) (loading past p) w.not_resident w.not_loading)) (lt-ltb _ _ w.old)),
)

-- ---- stamps

pub stamps-of : (c : Parameters) (past : Trail) (p : ℕ) (pieces : List Burst) → IsCut c.correlated (references c past p) pieces → (place : ℕ) → hist c past p (suc place) ≡ (if nat_lt place c.k then burst_stamp pieces place else 0)
stamps-of c past p pieces cut place = ap (λ all. if nat_lt place c.k then burst_stamp all place else 0) (sym (one_cut c.correlated (references c past p) pieces cut))

last-of : (correlated : ℕ) (rs : List Reference) → last_time rs ≡ last_time (burst_at (bursts correlated rs) 0)
last-of correlated [] = refl
last-of correlated (r ∷ rs) = let w = newest correlated r rs in sym (ap (λ all. last_time (burst_at all 0)) w.is)

pub last-is : (c : Parameters) (past : Trail) (p : ℕ) (pieces : List Burst) → IsCut c.correlated (references c past p) pieces → last c past p ≡ last_time (burst_at pieces 0)
last-is c past p pieces cut = last-of c.correlated (references c past p) ∙ ap (λ all. last_time (burst_at all 0)) (sym (one_cut c.correlated (references c past p) pieces cut))

-- ---- the victim

pub candidate-decides : (c : Parameters) (past : Trail) (p : ℕ) → Decides (candidate c past p) (IsCandidate c past p)
candidate-decides c past p = (
  λ h. let a = and_parts (resident past p) _ h in
      let b = and_parts (pins past p == 0) _ a.1 in
      let d = and_parts (not (writing past p)) _ b.1 in
      record { here = a.0; unpinned = eqb-true (pins past p) 0 b.0; not_writing = not-true _ d.0; old = ltb-true _ _ d.1 },
  λ w. and_from (resident past p) _ w.here (and_from (pins past p == 0) _ (eq-eqb (pins past p) 0 w.unpinned) (and_from (not (writing past p)) _ (not_from_false _ w.not_writing) (lt-ltb _ _ w.old))),
)

apart : (a b : Rank) → before b a ≡ false → (b.page ≡ a.page → ⊥) → before a b ≡ true
apart a b h n = grind (arith, nat_tests)

pub victim-first : (c : Parameters) (past : Trail) (v : ℕ) → victim c past ≡ Some v → IsFirst c past v
victim-first c past v h =
    let w = victim-is c past v h in
    record {
      eligible = (candidate-decides c past v).0 w.eligible;
      first = λ q k n. apart (rank c past v) (rank c past q) (w.first q ((candidate-decides c past q).1 k)) n;
    }

pub first-victim : (c : Parameters) (past : Trail) (v : ℕ) → IsFirst c past v → victim c past ≡ Some v
first-victim c past v f = go (victim c past) refl
  where
    go : (o : Option ℕ) → victim c past ≡ o → o ≡ Some v
    go None i = absurd (true≢false (sym ((candidate-decides c past v).1 f.eligible) ∙ no-victim c past i v))
    go (Some u) i = at (u == v) refl
      where
        at : (b : Bool) → (u == v) ≡ b → Some u ≡ Some v
        at true e = ap Some (eqb-true u v e)
        at false e =
            let w = victim-is c past u i in
            let a = f.first u ((candidate-decides c past u).0 w.eligible) (λ k. true≢false (sym (eq-eqb u v k) ∙ e)) in
            absurd (true≢false (sym a ∙ w.first v ((candidate-decides c past v).1 f.eligible)))

pub no-candidate : (c : Parameters) (past : Trail) → victim c past ≡ None → (q : ℕ) → IsCandidate c past q → ⊥
no-candidate c past h q k = true≢false (sym ((candidate-decides c past q).1 k) ∙ no-victim c past h q)

pub victimless : (c : Parameters) (past : Trail) → ((q : ℕ) → IsCandidate c past q → ⊥) → victim c past ≡ None
victimless c past h = go (victim c past) refl
  where
    go : (o : Option ℕ) → victim c past ≡ o → o ≡ None
    go None i = refl
    go (Some v) i = absurd (h v (victim-first c past v i).eligible)

-- ---- write-outs

saved-at : (past : Trail) (p : ℕ) (r : Reply) (t : ℕ) (image : List ℕ) → r ≡ WriteFirst t p image → began_saving past p r ≡ false → some (λ e. ends_well t e.call) past ≡ false
saved-at past p r t image i h =
    let k : ((p == p) && some (λ e. ends_well t e.call) past) ≡ false = subst (λ r. began_saving past p r ≡ false) i h in
    sym (ap (λ b. b && some (λ e. ends_well t e.call) past) (eq-eqb p p refl)) ∙ k

pub record Begin (past : Trail) (p : ℕ) (r : Reply) : Type 0 where
  pub ticket : ℕ
  pub image : List ℕ
  pub is : r ≡ WriteFirst ticket p image
  pub well : some (λ e. ends_well ticket e.call) past ≡ true

begin-of : (past : Trail) (p : ℕ) (r : Reply) → began_saving past p r ≡ true → Begin past p r
begin-of past p (WriteFirst t q image) h = let a = and_parts (q == p) _ h in record { ticket = t; image = image; is = ap (λ x. WriteFirst t x image) (eqb-true q p a.0); well = a.1 }
begin-of past p _ h = cc

-- an entry that settles p discards it, or begins a write-out of it that ended well
settled-by : (past : Trail) (p : ℕ) (d : Entry) → settles past p d ≡ true → (discards p d ≡ true) ⊎ Begin past p d.reply
settled-by past p d h = elim (or_cases (discards p d) (began_saving past p d.reply) h) as (λ _. (discards p d ≡ true) ⊎ Begin past p d.reply) [ inl i ↦ inl i | inr j ↦ inr (begin-of past p d.reply j) ]

pub unsaved-decides : (past : Trail) (p : ℕ) → Decides (unsaved past p) (IsUnsaved past p)
unsaved-decides past p =
    let d = since-lasts (writes p) (settles past p) past in (
      λ h. let w = d.0 h in
          record {
            later = w.later;
            entry = w.entry;
            earlier = w.earlier;
            stands = w.stands;
            writes = w.starts;
            not_discarded = false_from_ne_true (some (discards p) w.later) (λ m. true≢false (sym (some-mono (discards p) (settles past p) w.later (λ x i. or_left (discards p x) (began_saving past p x.reply) i) m) ∙ w.lasts));
            not_saved = λ b t image k i. saved-at past p b.reply t image i
                (false_from_ne_true (began_saving past p b.reply) (λ m. true≢false (sym (some-contained (settles past p) w.later b k (or_right (discards p b) (began_saving past p b.reply) m)) ∙ w.lasts)));
          },
      λ w. d.1 (record {
        later = w.later;
        entry = w.entry;
        earlier = w.earlier;
        stands = w.stands;
        starts = w.writes;
        lasts = false_from_ne_true (some (settles past p) w.later) (λ m. let x = passing (settles past p) w.later m in elim (settled-by past p x.element x.passes) as (λ _. ⊥) [
          | inl gone ↦ true≢false (sym (some-contained (discards p) w.later x.element x.inside gone) ∙ w.not_discarded)
          | inr b ↦ true≢false (sym b.well ∙ w.not_saved x.element b.ticket b.image x.inside b.is)
        ]);
      }),
    )

pub page_lsn-greatest : (past newest : Trail) (p : ℕ) → AreAfterLast (loads p) past newest → IsGreatest (filter_map (lsn_written p) newest) (page_lsn past p)
page_lsn-greatest past newest p a = subst (λ s. IsGreatest (filter_map (lsn_written p) s) (page_lsn past p)) (sym (after-last-only (loads p) past newest a)) (greatest-is (filter_map (lsn_written p) (after_last (loads p) past)))

-- ---- images

pub held-is : (later earlier : Trail) (e : Entry) (t p n : ℕ) (image : List ℕ) → e.call ≡ ReadEnd t p (Some image) → e.reply ≡ Fixed n → some (loads p) later ≡ false → held (later ++ e ∷ earlier) p ≡ written_into (λ q. image) later p
held-is [] earlier e t p n image i j h = rw (i, j, eq-eqb p p refl) refl
held-is (d ∷ later) earlier e t p n image i j h =
    let parts = or_parts (loads p d) (some (loads p) later) h in
    ap (λ b. if b then image_read d.call else written p d (held (later ++ e ∷ earlier) p)) parts.0 ∙ ap (written p d) (held-is later earlier e t p n image i j parts.1)

-- a reply that begins no write-out of p
pub due-kept : (whole : Trail) (p : ℕ) (r : Reply) (older : Option (List ℕ)) → begins_of p r ≡ false → due_with whole p r older ≡ older
due-kept whole p (WriteFirst t q image) older h = ap (λ b. if b then (if some (λ e. ends_well t e.call) whole then Some image else None) else older) h
due-kept whole p _ older h = refl

pub due-opening : (whole : Trail) (m : ℕ → Option (List ℕ)) (past : Trail) (p : ℕ) → some (λ e. begins_of p e.reply) past ≡ false → due_among whole m past p ≡ m p
due-opening whole m [] p h = refl
due-opening whole m (e ∷ past) p h =
    let parts = or_parts (begins_of p e.reply) _ h in
    due-kept whole p e.reply (due_among whole m past p) parts.0 ∙ due-opening whole m past p parts.1

pub due-begun : (whole : Trail) (m : ℕ → Option (List ℕ)) (later earlier : Trail) (e : Entry) (t p : ℕ) (image : List ℕ) → e.reply ≡ WriteFirst t p image → some (λ e. begins_of p e.reply) later ≡ false
    → due_among whole m (later ++ e ∷ earlier) p ≡ (if some (λ d. ends_well t d.call) whole then Some image else None)
due-begun whole m [] earlier e t p image i h = ap (λ r. due_with whole p r (due_among whole m earlier p)) i ∙ ap (λ b. if b then (if some (λ d. ends_well t d.call) whole then Some image else None) else due_among whole m earlier p) (eq-eqb p p refl)
due-begun whole m (d ∷ later) earlier e t p image i h =
    let parts = or_parts (begins_of p d.reply) _ h in
    due-kept whole p d.reply (due_among whole m (later ++ e ∷ earlier) p) parts.0 ∙ due-begun whole m later earlier e t p image i parts.1
