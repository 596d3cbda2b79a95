-- What a crash leaves of a device that a pool worked, and what its reads brought.
use Rattle.std.proofs.Common.{◌≡◌, ◌≢◌, inl, inr, refl, sym, ap, subst, ◌∙◌, ℕ, suc, ◌≤◌, if◌then◌else◌, Bool, true, false, not, ◌&&◌, ◌||◌, ◌==◌, List, [], ◌∷◌, ◌++◌, length, filter_map, append-nil, length-append, Option, Some, None, arith}
use Rattle.std.specs.Prelude.{◌⊎◌}
use Rattle.std.specs.Bool.{MatchBool}
use Rattle.std.specs.List.{cons_option}
use Rattle.std.proofs.lemmas.Bool.{eqb-true, eq-eqb, ne_eqb, or_parts, or_cases, false_from_ne_true}
use Rattle.bp_trail.specs.declared.entries.Entry.{Entry}
use Rattle.bp_trail.specs.declared.entries.Call.{Call}
use Rattle.bp_trail.specs.declared.entries.Call.TheVariants.{ReadEnd, WriteEnd}
use Rattle.bp_trail.specs.declared.entries.Reply.{Reply}
use Rattle.bp_trail.specs.declared.entries.Reply.TheVariants.{WriteFirst}
use Rattle.bp_trail.specs.Parameters.{Parameters}
use Rattle.bp_trail.specs.Lists.{some}
use Rattle.bp_trail.specs.Event.{page_of, ticket_given, is_fixed_reply, begins_of, ends_well, image_read}
use Rattle.bp_trail.specs.Trail.{Trail}
use Rattle.bp_trail.specs.Passes.{tickets, writes_out}
use Rattle.bp_trail.specs.Legal.{Legal}
use Rattle.bp_trail.specs.Saved.{began_saving}
use Rattle.bp_trail.specs.Device.{due, due_after, due_among, due_with, all_known, BringsDueSince, HonestOf}
use Rattle.bp_trail.specs.declared.records.LogRecord.{LogRecord}
use Rattle.bp_trail.specs.Recovery.{HasFullImage, MayHave, records_from}
use Rattle.bp_trail.proofs.Events.{Event, event-of}
use Rattle.bp_trail.proofs.Events.Event.{fix_write, flush_write, read_good, read_bad, read_wrong, write_bad, write_clean, write_dirty}
use Rattle.bp_trail.proofs.Serials.{numbered, out-serial}
use Rattle.bp_trail.proofs.Known.{serial-below}
use Rattle.bp_trail.proofs.Sentences.{due-kept}
use Rattle.bp_trail.proofs.UsedAgain.{sent-sized}
use Rattle.example_log.specs.Disk.{DeviceCall, MayBring, MayLeave, Honest, sync_failed}
use Rattle.example_log.specs.Disk.DeviceCall.{Read, NotRead, Write, Sync}
use Rattle.example_table.specs.PoolLives.{PoolFrom, PoolLife, ends_work}
use Rattle.example_table.specs.PoolLives.PoolFrom.{opened, entered, read, not_read, wrote, was_synced}

-- ---- what no crash can tear

-- each write of page p that failed was followed by one that did not; and no write of it has come since
-- the last good sync before which none had failed
abbrev pub NoneFailed : ℕ → List DeviceCall → Type 0
NoneFailed p [] = Unit {0}
NoneFailed p (Write q image true ∷ older) = MatchBool (q == p) (Unit {0}) (NoneFailed p older)
NoneFailed p (Write q image false ∷ older) = (q ≢ p) × NoneFailed p older
NoneFailed p (_ ∷ older) = NoneFailed p older

abbrev pub NoneOpen : ℕ → List DeviceCall → Type 0
NoneOpen p [] = Unit {0}
NoneOpen p (Write q image good ∷ older) = (q ≢ p) × NoneOpen p older
NoneOpen p (Sync good ∷ older) =
    MatchBool (good && not (some sync_failed older)) (NoneFailed p older) (NoneOpen p older)
NoneOpen p (_ ∷ older) = NoneOpen p older

-- page p needs no whole write of the device: it tears none, or the log has a full image, or redo does
-- not write it and no write of it is open
abbrev pub IsSound : Bool → ℕ → ℕ → List LogRecord → List DeviceCall → ℕ → Type 0
IsSound tears size from log calls p =
    (tears ≡ false) ⊎ HasFullImage size (records_from from log p)
    ⊎ ((records_from from log p ≡ []) × NoneOpen p calls)

-- ---- tickets

tickets-more : (o : Option ℕ) (xs : List ℕ) → length xs ≤ length (cons_option o xs)
tickets-more None xs = omega arith
tickets-more (Some x) xs = omega arith

tickets-grow : (e : Entry) (past : Trail) → tickets past ≤ tickets (e ∷ past)
tickets-grow e past = tickets-more (ticket_given e.reply) (filter_map (λ d. ticket_given d.reply) past)

ended-here : (c : Parameters) (past : Trail) → Legal c past → (who : ℕ) (call : Call) (reply : Reply) → Event c past who call reply → (t : ℕ) → ends_well t call ≡ true → suc t ≤ tickets past
ended-here c past l who _ _ (write_clean u p o w) t h =
    subst (λ (x : ℕ). suc x ≤ tickets past) (sym (eqb-true t u h)) (serial-below u (tickets past) (writes_out past) (numbered c past l).writes_below (out-serial who p u (writes_out past) o))
ended-here c past l who _ _ (write_dirty u p o w) t h =
    subst (λ (x : ℕ). suc x ≤ tickets past) (sym (eqb-true t u h)) (serial-below u (tickets past) (writes_out past) (numbered c past l).writes_below (out-serial who p u (writes_out past) o))
ended-here c past l who _ _ _ t h = absurd (cc)

ended-below : (c : Parameters) (past : Trail) → Legal c past → (t : ℕ) → some (λ e. ends_well t e.call) past ≡ true → suc t ≤ tickets past
ended-below c [] l t h = absurd (cc)
ended-below c (e ∷ past) l t h = elim (or_cases (ends_well t e.call) (some (λ d. ends_well t d.call) past) h) [
  | inl here ↦ (let k = ended-here c past l.before e.client e.call e.reply (event-of c past e l.here) t here in let m = tickets-grow e past in omega arith)
  | inr older ↦ (let k = ended-below c past l.before t older in let m = tickets-grow e past in omega arith)
]

-- a write-out that begins has the next ticket
pub first-is : (c : Parameters) (past : Trail) (who : ℕ) (call : Call) (reply : Reply) → Event c past who call reply → (t p : ℕ) (image : List ℕ) → reply ≡ WriteFirst t p image → (t ≡ tickets past) × ((u : ℕ) → ends_well u call ≡ false)
first-is c past who _ _ (fix_write q v m w g) t p image e = let a : t ≡ tickets past = cc in (a, λ u. refl)
first-is c past who _ _ (flush_write q r w g) t p image e = let a : t ≡ tickets past = cc in (a, λ u. refl)
first-is c past who _ _ _ t p image e = absurd (cc)

pub fresh-first : (c : Parameters) (past : Trail) (e : Entry) → Legal c (e ∷ past) → (t p : ℕ) (image : List ℕ) → e.reply ≡ WriteFirst t p image → some (λ d. ends_well t d.call) past ≡ false
fresh-first c past e l t p image i =
    let a = (first-is c past e.client e.call e.reply (event-of c past e l.here) t p image i).0 in
    false_from_ne_true (some (λ d. ends_well t d.call) past) (λ h. (let k = ended-below c past l.before t h in omega (arith, a)))

-- an end begins nothing
pub no-first : (c : Parameters) (past : Trail) (who : ℕ) (call : Call) (reply : Reply) → Event c past who call reply → ends_work call ≡ true → (q : ℕ) → begins_of q reply ≡ false
no-first c past who _ _ (read_good t p image o) w q = refl
no-first c past who _ _ (read_bad t p o) w q = refl
no-first c past who _ _ (read_wrong t p o) w q = refl
no-first c past who _ _ (write_bad t p o) w q = refl
no-first c past who _ _ (write_clean t p o s) w q = refl
no-first c past who _ _ (write_dirty t p o s) w q = refl
no-first c past who _ _ _ w q = absurd (cc)

pub quiet : (call : Call) → ends_work call ≡ false → (u : ℕ) → ends_well u call ≡ false
quiet (WriteEnd t p good) h u = absurd (cc)
quiet _ h u = refl

-- ---- entries that end no write-out well

and-false : (b : Bool) → (b && false) ≡ false
and-false true = refl
and-false false = refl

pub saving-not : (whole : Trail) (p : ℕ) (r : Reply) → begins_of p r ≡ false → began_saving whole p r ≡ false
saving-not whole p (WriteFirst t q image) h = ap (λ (b : Bool). b && some (λ e. ends_well t e.call) whole) h
saving-not whole p _ h = refl

module _ (e : Entry) (past : Trail) (plain : (u : ℕ) → ends_well u e.call ≡ false) where
  pub saving-same : (p : ℕ) (r : Reply) → began_saving (e ∷ past) p r ≡ began_saving past p r
  saving-same p (WriteFirst t q image) = ap (λ (b : Bool). (q == p) && (b || some (λ d. ends_well t d.call) past)) (plain t)
  saving-same p _ = refl

  safe-same : (p : ℕ) (later : Trail) → some (λ d. began_saving past p d.reply) later ≡ false → some (λ d. began_saving (e ∷ past) p d.reply) later ≡ false
  safe-same p [] h = refl
  safe-same p (d ∷ later) h =
      let a = or_parts (began_saving past p d.reply) _ h in
      ap (λ (b : Bool). b || some (λ x. began_saving (e ∷ past) p x.reply) later) (saving-same p d.reply ∙ a.0) ∙ safe-same p later a.1

  due-same : (m : ℕ → Option (List ℕ)) (p : ℕ) (xs : Trail) → due_among (e ∷ past) m xs p ≡ due_among past m xs p
  due-same m p [] = refl
  due-same m p (d ∷ xs) = ap (due_with (e ∷ past) p d.reply) (due-same m p xs) ∙ with d.reply
    where
      with : (r : Reply) → due_with (e ∷ past) p r (due_among past m xs p) ≡ due_with past p r (due_among past m xs p)
      with (WriteFirst t q image) = ap (λ (b : Bool). if q == p then due_after (b || some (λ x. ends_well t x.call) past) image else due_among past m xs p) (plain t)
      with _ = refl

-- what begins now has not ended well
pub new-unsaved : (c : Parameters) (e : Entry) (past : Trail) → Legal c (e ∷ past) → (whole : Trail) → ((t p : ℕ) (image : List ℕ) → e.reply ≡ WriteFirst t p image → some (λ d. ends_well t d.call) whole ≡ false) → (p : ℕ) → began_saving whole p e.reply ≡ false
new-unsaved c e past l whole none p = go e.reply refl
  where
    go : (r : Reply) → e.reply ≡ r → began_saving whole p r ≡ false
    go (WriteFirst t q image) i = ap (λ (b : Bool). (q == p) && b) (none t q image i) ∙ and-false (q == p)
    go _ i = refl

-- ---- tickets of other pages

-- no write-out of p among these has this ticket
abbrev pub Unlike : ℕ → ℕ → Trail → Type 0
Unlike t p [] = Unit {0}
Unlike t p (d ∷ later) = ((u : ℕ) (image : List ℕ) → d.reply ≡ WriteFirst u p image → u ≢ t) × Unlike t p later

older-unlike : (c : Parameters) (past : Trail) → Legal c past → (t p : ℕ) → tickets past ≤ t → Unlike t p past
older-unlike c [] l t p le = tt
older-unlike c (d ∷ past) l t p le = (
  λ u image i. λ same.
      (let a = (first-is c past d.client d.call d.reply (event-of c past d l.here) u p image i).0 in
      let grown : tickets (d ∷ past) ≡ suc (tickets past) = ap (λ (r : Reply). length (cons_option (ticket_given r) (filter_map (λ x. ticket_given x.reply) past))) i in
      absurd (omega (arith, a, grown, le, same))),
  (let m = tickets-grow d past in older-unlike c past l.before t p (omega arith)),
)

unlike-front : (t p : ℕ) (later : Trail) (rest : Trail) → Unlike t p (later ++ rest) → Unlike t p later
unlike-front t p [] rest h = tt
unlike-front t p (d ∷ later) rest h = (h.0, unlike-front t p later rest h.1)

-- a write-out of another page ended: those of p are as they were
module _ (e : Entry) (past : Trail) (t q : ℕ) (call : e.call ≡ WriteEnd t q true) (p : ℕ) where
  ends-not : (u : ℕ) → u ≢ t → ends_well u e.call ≡ false
  ends-not u ne = ap (ends_well u) call ∙ ne_eqb u t ne

  pub other-saving : (r : Reply) → ((u : ℕ) (image : List ℕ) → r ≡ WriteFirst u p image → u ≢ t) → began_saving (e ∷ past) p r ≡ began_saving past p r
  other-saving (WriteFirst u v image) ne = go (v == p) refl
    where
      go : (b : Bool) → (v == p) ≡ b → (b && (ends_well u e.call || some (λ d. ends_well u d.call) past)) ≡ (b && some (λ d. ends_well u d.call) past)
      go true h = ap (λ (b : Bool). b || some (λ d. ends_well u d.call) past) (ends-not u (ne u image (ap (λ (n : ℕ). WriteFirst u n image) (eqb-true v p h))))
      go false h = refl
  other-saving _ ne = refl

  other-safe : (later : Trail) → Unlike t p later → some (λ d. began_saving past p d.reply) later ≡ false → some (λ d. began_saving (e ∷ past) p d.reply) later ≡ false
  other-safe [] ne h = refl
  other-safe (d ∷ later) ne h =
      let a = or_parts (began_saving past p d.reply) _ h in
      ap (λ (b : Bool). b || some (λ x. began_saving (e ∷ past) p x.reply) later) (other-saving d.reply ne.0 ∙ a.0) ∙ other-safe later ne.1 a.1

  other-due : (m : ℕ → Option (List ℕ)) (xs : Trail) → Unlike t p xs → due_among (e ∷ past) m xs p ≡ due_among past m xs p
  other-due m [] ne = refl
  other-due m (d ∷ xs) ne = ap (due_with (e ∷ past) p d.reply) (other-due m xs ne.1) ∙ with d.reply ne.0
    where
      with : (r : Reply) → ((u : ℕ) (image : List ℕ) → r ≡ WriteFirst u p image → u ≢ t) → due_with (e ∷ past) p r (due_among past m xs p) ≡ due_with past p r (due_among past m xs p)
      with (WriteFirst u v image) ne = go (v == p) refl
        where
          go : (b : Bool) → (v == p) ≡ b
              → (if b then due_after (ends_well u e.call || some (λ x. ends_well u x.call) past) image else due_among past m xs p) ≡ (if b then due_after (some (λ x. ends_well u x.call) past) image else due_among past m xs p)
          go true h = ap (λ (b : Bool). due_after (b || some (λ x. ends_well u x.call) past) image) (ends-not u (ne u image (ap (λ (n : ℕ). WriteFirst u n image) (eqb-true v p h))))
          go false h = refl
      with _ ne = refl

-- ---- what stands on the device

pub none-front : (f : Entry → Bool) (x s : Trail) → some f (x ++ s) ≡ false → some f s ≡ false
none-front f [] s h = h
none-front f (e ∷ x) s h = none-front f x s (or_parts (f e) (some f (x ++ s)) h).1

pub suffix : (past synced : Trail) (calls : List DeviceCall) → PoolLife past calls synced → (x : Trail) × (past ≡ x ++ synced)
suffix _ _ _ opened = ([], refl)
suffix _ _ _ (entered {past = past} {synced = synced} {calls = calls} e w life) = let h = suffix past synced calls life in (e ∷ h.0, ap (λ (t : Trail). e ∷ t) h.1)
suffix _ _ _ (read {past = past} {synced = synced} {calls = calls} e t p image i life) = let h = suffix past synced calls life in (e ∷ h.0, ap (λ (t : Trail). e ∷ t) h.1)
suffix _ _ _ (not_read {past = past} {synced = synced} {calls = calls} e t p i life) = let h = suffix past synced calls life in (e ∷ h.0, ap (λ (t : Trail). e ∷ t) h.1)
suffix _ _ _ (wrote {older = older} {synced = synced} {calls = calls} e f t p image good i j life) = let h = suffix (f ∷ older) synced calls life in (e ∷ h.0, ap (λ (t : Trail). e ∷ t) h.1)
suffix _ _ _ (was_synced {past = past} {synced = synced} {calls = calls} good life) = go (good && not (some sync_failed calls)) (suffix past synced calls life)
  where
    go : (b : Bool) → (x : Trail) × (past ≡ x ++ synced) → (x : Trail) × (past ≡ x ++ (if b then past else synced))
    go true older = ([], refl)
    go false older = older

loads-ends : (c : Parameters) (past : Trail) (who : ℕ) (call : Call) (reply : Reply) → Event c past who call reply → is_fixed_reply reply ≡ true → ends_work call ≡ true
loads-ends c past who _ _ (read_good t p image o) h = refl
loads-ends c past who _ _ _ h = absurd (cc)

unread-not : (c : Parameters) (past : Trail) (who : ℕ) (call : Call) (reply : Reply) → Event c past who call reply → (t p : ℕ) → call ≡ ReadEnd t p None → is_fixed_reply reply ≡ false
unread-not c past who _ _ (read_good u q image o) t p e = absurd (cc)
unread-not c past who _ _ _ t p e = refl

written-not : (c : Parameters) (past : Trail) (who : ℕ) (call : Call) (reply : Reply) → Event c past who call reply → (t p : ℕ) (good : Bool) → call ≡ WriteEnd t p good → is_fixed_reply reply ≡ false
written-not c past who _ _ (read_good u q image o) t p good e = absurd (cc)
written-not c past who _ _ _ t p good e = refl

module _ (c : Parameters) (tears : Bool) (first : ℕ → List ℕ) where
  -- an image that went out, or the first one; or, where the device tears, any bytes
  abbrev Left : ℕ → List ℕ → Trail → Trail → Type 0
  Left p image synced past = MayHave first synced past p image ⊎ ((tears ≡ true) × (length image ≡ c.size))

  grow-both : (e : Entry) (past : Trail) (p : ℕ) (image : List ℕ) → began_saving (e ∷ past) p e.reply ≡ false
      → ((later rest : Trail) → past ≡ later ++ rest → some (λ d. began_saving past p d.reply) later ≡ false → some (λ d. began_saving (e ∷ past) p d.reply) later ≡ false)
      → Left p image past past → Left p image (e ∷ past) (e ∷ past)
  grow-both e past p image new safe (inl (inl (out, is))) = inl (inl (
    record {
      later = e ∷ out.later;
      entry = out.entry;
      earlier = out.earlier;
      ticket = out.ticket;
      image = out.image;
      stands = ap (λ (t : Trail). e ∷ t) out.stands;
      begins = out.begins;
      last = ap (λ (b : Bool). b || some (λ d. began_saving (e ∷ past) p d.reply) out.later) new ∙ safe out.later (out.entry ∷ out.earlier) out.stands out.last;
    },
    is,
  ))
  grow-both e past p image new safe (inl (inr (none, is))) =
      inl (inr (ap (λ (b : Bool). b || some (λ d. began_saving (e ∷ past) p d.reply) past) new ∙ safe past [] (sym (append-nil past)) none, is))
  grow-both e past p image new safe (inr torn) = inr torn

  grow-one : (e : Entry) (past synced : Trail) (p : ℕ) (image : List ℕ) → began_saving synced p e.reply ≡ false → Left p image synced past → Left p image synced (e ∷ past)
  grow-one e past synced p image new (inl (inl (out, is))) = inl (inl (
    record {
      later = e ∷ out.later;
      entry = out.entry;
      earlier = out.earlier;
      ticket = out.ticket;
      image = out.image;
      stands = ap (λ (t : Trail). e ∷ t) out.stands;
      begins = out.begins;
      last = ap (λ (b : Bool). b || some (λ d. began_saving synced p d.reply) out.later) new ∙ out.last;
    },
    is,
  ))
  grow-one e past synced p image new (inl (inr (none, is))) = inl (inr (ap (λ (b : Bool). b || some (λ d. began_saving synced p d.reply) past) new ∙ none, is))
  grow-one e past synced p image new (inr torn) = inr torn

  plain : (e : Entry) (past : Trail) → Legal c (e ∷ past) → ((u : ℕ) → ends_well u e.call ≡ false) → (p : ℕ) (image : List ℕ) → Left p image past past → Left p image (e ∷ past) (e ∷ past)
  plain e past l q p image h =
      grow-both e past p image (new-unsaved c e past l (e ∷ past) (λ t v im i. ap (λ (b : Bool). b || some (λ d. ends_well t d.call) past) (q t) ∙ fresh-first c past e l t v im i) p)
      (λ later rest stands none. safe-same e past q p later none) h

  sent : (e f : Entry) (older synced : Trail) → Legal c (e ∷ f ∷ older) → ends_work e.call ≡ true → (t q : ℕ) (new : List ℕ) → f.reply ≡ WriteFirst t q new → (p : ℕ) (image : List ℕ) → q ≡ p → image ≡ new → MayHave first synced (e ∷ f ∷ older) p image
  sent e f older synced l w t q new j p image same is = inl (
    record {
      later = e ∷ [];
      entry = f;
      earlier = older;
      ticket = t;
      image = new;
      stands = refl;
      begins = subst (λ (n : ℕ). f.reply ≡ WriteFirst t n new) same j;
      last = ap (λ (b : Bool). b || false) (saving-not synced p e.reply (no-first c (f ∷ older) e.client e.call e.reply (event-of c (f ∷ older) e l.here) w p));
    },
    is,
  )

  pub unlike : (f : Entry) (older : Trail) → Legal c (f ∷ older) → (t q : ℕ) (new : List ℕ) → f.reply ≡ WriteFirst t q new → (p : ℕ) → (q == p) ≡ false → Unlike t p (f ∷ older)
  unlike f older l t q new j p ne = (
    λ u im k. λ same. (let e : WriteFirst t q new ≡ WriteFirst u p im = sym j ∙ k in let v : q ≡ p = cc in let y = eq-eqb q p v in absurd (cc)),
    (let a = (first-is c older f.client f.call f.reply (event-of c older f l.here) t q new j).0 in older-unlike c older l.before t p (omega (arith, a))),
  )

  bring : (past synced : Trail) (calls : List DeviceCall) → PoolLife past calls synced → Legal c past → (p : ℕ) (image : List ℕ) → MayBring tears first calls p image → Left p image past past
  bring _ _ _ opened l p image h = inl (inr (refl, h))
  bring _ _ _ (entered {past = past} {synced = synced} {calls = calls} e w life) l p image h = plain e past l (quiet e.call w) p image (bring past synced calls life l.before p image h)
  bring _ _ _ (read {past = past} {synced = synced} {calls = calls} e t q new i life) l p image h = plain e past l (λ u. ap (ends_well u) i) p image (bring past synced calls life l.before p image h)
  bring _ _ _ (not_read {past = past} {synced = synced} {calls = calls} e t q i life) l p image h = plain e past l (λ u. ap (ends_well u) i) p image (bring past synced calls life l.before p image h)
  bring _ _ _ (was_synced {past = past} {synced = synced} {calls = calls} good life) l p image h = bring past synced calls life l p image h
  bring _ _ _ (wrote {older = older} {synced = synced} {calls = calls} e f t q new false i j life) l p image (inl (same, inl is)) = inl (sent e f older (e ∷ f ∷ older) l (ap ends_work i) t q new j p image same is)
  bring _ _ _ (wrote {older = older} {synced = synced} {calls = calls} e f t q new false i j life) l p image (inl (same, inr torn)) = inr (torn.0, torn.1 ∙ sent-sized c older f t q new l.before j)
  bring _ _ _ (wrote {older = older} {synced = synced} {calls = calls} e f t q new false i j life) l p image (inr h) = plain e (f ∷ older) l (λ u. ap (ends_well u) i) p image (bring (f ∷ older) synced calls life l.before p image h)
  bring _ _ _ (wrote {older = older} {synced = synced} {calls = calls} e f t q new true i j life) l p image h = go (q == p) refl (λ k. bring (f ∷ older) synced calls life l.before p image k) h
    where
      go : (b : Bool) → (q == p) ≡ b → (MayBring tears first calls p image → Left p image (f ∷ older) (f ∷ older)) → MatchBool b (image ≡ new) (MayBring tears first calls p image) → Left p image (e ∷ f ∷ older) (e ∷ f ∷ older)
      go true same before is = inl (sent e f older (e ∷ f ∷ older) l (ap ends_work i) t q new j p image (eqb-true q p same) is)
      go false ne before h =
          grow-both e (f ∷ older) p image (saving-not (e ∷ f ∷ older) p e.reply (no-first c (f ∷ older) e.client e.call e.reply (event-of c (f ∷ older) e l.here) (ap ends_work i) p))
          (λ later rest stands none. other-safe e (f ∷ older) t q i p later (unlike-front t p later rest (subst (Unlike t p) stands (unlike f older l.before t q new j p ne))) none)
          (before h)

  pub leave : (past synced : Trail) (calls : List DeviceCall) → PoolLife past calls synced → Legal c past → (p : ℕ) (image : List ℕ) → MayLeave tears first calls p image → Left p image synced past
  leave _ _ _ opened l p image h = inl (inr (refl, h))
  leave _ _ _ (entered {past = past} {synced = synced} {calls = calls} e w life) l p image h =
      let s = suffix past synced calls life in
      grow-one e past synced p image
      (new-unsaved c e past l synced (λ t v im i. none-front (λ d. ends_well t d.call) s.0 synced (subst (λ (x : Trail). some (λ d. ends_well t d.call) x ≡ false) s.1 (fresh-first c past e l t v im i))) p)
      (leave past synced calls life l.before p image h)
  leave _ _ _ (read {past = past} {synced = synced} {calls = calls} e t q new i life) l p image h =
      grow-one e past synced p image (saving-not synced p e.reply (no-first c past e.client e.call e.reply (event-of c past e l.here) (ap ends_work i) p)) (leave past synced calls life l.before p image h)
  leave _ _ _ (not_read {past = past} {synced = synced} {calls = calls} e t q i life) l p image h =
      grow-one e past synced p image (saving-not synced p e.reply (no-first c past e.client e.call e.reply (event-of c past e l.here) (ap ends_work i) p)) (leave past synced calls life l.before p image h)
  leave _ _ _ (wrote {older = older} {synced = synced} {calls = calls} e f t q new good i j life) l p image (inl (same, inl is)) = inl (sent e f older synced l (ap ends_work i) t q new j p image same is)
  leave _ _ _ (wrote {older = older} {synced = synced} {calls = calls} e f t q new good i j life) l p image (inl (same, inr torn)) = inr (torn.0, torn.1 ∙ sent-sized c older f t q new l.before j)
  leave _ _ _ (wrote {older = older} {synced = synced} {calls = calls} e f t q new good i j life) l p image (inr h) =
      grow-one e (f ∷ older) synced p image (saving-not synced p e.reply (no-first c (f ∷ older) e.client e.call e.reply (event-of c (f ∷ older) e l.here) (ap ends_work i) p)) (leave (f ∷ older) synced calls life l.before p image h)
  leave _ _ _ (was_synced {past = past} {synced = synced} {calls = calls} good life) l p image h =
      go (good && not (some sync_failed calls)) (λ k. leave past synced calls life l p image k) h
    where
      go : (b : Bool) → (MayLeave tears first calls p image → Left p image synced past) → MatchBool b (MayBring tears first calls p image) (MayLeave tears first calls p image) → Left p image (if b then past else synced) past
      go true before h = bring past synced calls life l p image h
      go false before h = before h

  -- ---- what reads brought

  due-plain : (e : Entry) (past : Trail) → Legal c (e ∷ past) → ((u : ℕ) → ends_well u e.call ≡ false) → (p : ℕ) (d : List ℕ) → due first (e ∷ past) p ≡ Some d → due first past p ≡ Some d
  due-plain e past l q p d k = go e.reply refl k
    where
      same : due_among (e ∷ past) (all_known first) past p ≡ due first past p
      same = due-same e past q (all_known first) p past

      go : (r : Reply) → e.reply ≡ r → due_with (e ∷ past) p r (due_among (e ∷ past) (all_known first) past p) ≡ Some d → due first past p ≡ Some d
      go (WriteFirst t v im) i k = inner (v == p) k
        where
          none : some (λ x. ends_well t x.call) (e ∷ past) ≡ false
          none = ap (λ (b : Bool). b || some (λ x. ends_well t x.call) past) (q t) ∙ fresh-first c past e l t v im i

          inner : (b : Bool) → (if b then due_after (some (λ x. ends_well t x.call) (e ∷ past)) im else due_among (e ∷ past) (all_known first) past p) ≡ Some d → due first past p ≡ Some d
          inner true k = let n : due_after false im ≡ Some d = ap (λ (b : Bool). due_after b im) (sym none) ∙ k in absurd (cc)
          inner false k = sym same ∙ k
      go _ i k = sym same ∙ k

  brought : (past synced : Trail) (calls : List DeviceCall) → PoolLife past calls synced → Legal c past → (p : ℕ) (image : List ℕ) → MayBring tears first calls p image → (d : List ℕ) → due first past p ≡ Some d → image ≡ d
  brought _ _ _ opened l p image h d k = let same : first p ≡ d = cc in h ∙ same
  brought _ _ _ (entered {past = past} {synced = synced} {calls = calls} e w life) l p image h d k = brought past synced calls life l.before p image h d (due-plain e past l (quiet e.call w) p d k)
  brought _ _ _ (read {past = past} {synced = synced} {calls = calls} e t q new i life) l p image h d k = brought past synced calls life l.before p image h d (due-plain e past l (λ u. ap (ends_well u) i) p d k)
  brought _ _ _ (not_read {past = past} {synced = synced} {calls = calls} e t q i life) l p image h d k = brought past synced calls life l.before p image h d (due-plain e past l (λ u. ap (ends_well u) i) p d k)
  brought _ _ _ (was_synced {past = past} {synced = synced} {calls = calls} good life) l p image h d k = brought past synced calls life l p image h d k
  brought _ _ _ (wrote {older = older} {synced = synced} {calls = calls} e f t q new good i j life) l p image h d k =
      by (λ g y. brought (f ∷ older) synced calls life l.before p image g d y) good i h
    where
      kept : due_with (e ∷ f ∷ older) p f.reply (due_among (e ∷ f ∷ older) (all_known first) older p) ≡ Some d
      kept = sym (due-kept (e ∷ f ∷ older) p e.reply (due_with (e ∷ f ∷ older) p f.reply (due_among (e ∷ f ∷ older) (all_known first) older p)) (no-first c (f ∷ older) e.client e.call e.reply (event-of c (f ∷ older) e l.here) (ap ends_work i) p)) ∙ k

      here : (q == p) ≡ true → due_after (some (λ x. ends_well t x.call) (e ∷ f ∷ older)) new ≡ Some d
      here same =
          sym (ap (λ (r : Reply). due_with (e ∷ f ∷ older) p r (due_among (e ∷ f ∷ older) (all_known first) older p)) j
          ∙ ap (λ (b : Bool). if b then due_after (some (λ x. ends_well t x.call) (e ∷ f ∷ older)) new else due_among (e ∷ f ∷ older) (all_known first) older p) same) ∙ kept

      by : (MayBring tears first calls p image → due first (f ∷ older) p ≡ Some d → image ≡ d) → (g : Bool) → e.call ≡ WriteEnd t q g → MayBring tears first (Write q new g ∷ calls) p image → image ≡ d
      by before true i h = go (q == p) refl h
        where
          go : (b : Bool) → (q == p) ≡ b → MatchBool b (image ≡ new) (MayBring tears first calls p image) → image ≡ d
          go true same is =
              let well : ends_well t e.call ≡ true = ap (ends_well t) i ∙ eq-eqb t t refl in
              let given : due_after true new ≡ Some d = ap (λ (b : Bool). due_after b new) (sym (ap (λ (b : Bool). b || some (λ x. ends_well t x.call) (f ∷ older)) well)) ∙ here same in
              let n : new ≡ d = cc in is ∙ n
          go false ne h =
              before h
              (sym (other-due e (f ∷ older) t q i p (all_known first) (f ∷ older) (unlike f older l.before t q new j p ne)) ∙ kept)
      by before false i (inl (same, partly)) =
          let bad : ends_well t e.call ≡ false = ap (ends_well t) i in
          let begun = (first-is c older f.client f.call f.reply (event-of c older f l.before.here) t q new j).1 t in
          let none : some (λ x. ends_well t x.call) (e ∷ f ∷ older) ≡ false =
          ap (λ (b : Bool). b || some (λ x. ends_well t x.call) (f ∷ older)) bad ∙ ap (λ (b : Bool). b || some (λ x. ends_well t x.call) older) begun ∙ fresh-first c older f l.before t q new j in
          let given : due_after false new ≡ Some d = ap (λ (b : Bool). due_after b new) (sym none) ∙ here (eq-eqb q p same) in absurd (cc)
      by before false i (inr h) = before h (due-plain e (f ∷ older) l (λ u. ap (ends_well u) i) p d k)

  no-load : (e : Entry) (past : Trail) → is_fixed_reply e.reply ≡ false → (p : ℕ) → page_of e.call ≡ p → BringsDueSince (all_known first) past e
  no-load e past none p at = λ image loaded k.
      (let n : (is_fixed_reply e.reply && (page_of e.call == page_of e.call)) ≡ false = ap (λ (b : Bool). b && (page_of e.call == page_of e.call)) none in absurd (cc))

  pub honest : (past synced : Trail) (calls : List DeviceCall) → PoolLife past calls synced → Legal c past → Honest tears first calls → (p : ℕ) → HonestOf first p past
  honest _ _ _ opened l h p = tt
  honest _ _ _ (entered {past = past} {synced = synced} {calls = calls} e w life) l h p = record {
    here =
        no-load e past
        (false_from_ne_true (is_fixed_reply e.reply) (λ k. (let y = loads-ends c past e.client e.call e.reply (event-of c past e l.here) k in absurd (cc)))) p;
    before = honest past synced calls life l.before h p;
  }
  honest _ _ _ (read {past = past} {synced = synced} {calls = calls} e t q new i life) l h p = record {
    here = λ at image loaded k.
        (let page : page_of e.call ≡ q = ap page_of i in
        ap image_read i ∙ brought past synced calls life l.before q new h.0 image (subst (λ (n : ℕ). due first past n ≡ Some image) page k));
    before = honest past synced calls life l.before h.1 p;
  }
  honest _ _ _ (not_read {past = past} {synced = synced} {calls = calls} e t q i life) l h p = record {
    here = no-load e past (unread-not c past e.client e.call e.reply (event-of c past e l.here) t q i) p;
    before = honest past synced calls life l.before h p;
  }
  honest _ _ _ (wrote {older = older} {synced = synced} {calls = calls} e f t q new good i j life) l h p = record {
    here = no-load e (f ∷ older) (written-not c (f ∷ older) e.client e.call e.reply (event-of c (f ∷ older) e l.here) t q good i) p;
    before = honest (f ∷ older) synced calls life l.before h p;
  }
  honest _ _ _ (was_synced {past = past} {synced = synced} {calls = calls} good life) l h p = honest past synced calls life l h p

-- ---- where no write of a page is open, nothing is torn

module _ (tears : Bool) (first : ℕ → List ℕ) (p : ℕ) (image : List ℕ) where
  whole-bring : (calls : List DeviceCall) → NoneFailed p calls → MayBring tears first calls p image → MayBring false first calls p image
  whole-bring [] n h = h
  whole-bring (Read q found ∷ older) n h = whole-bring older n h
  whole-bring (NotRead q ∷ older) n h = whole-bring older n h
  whole-bring (Sync good ∷ older) n h = whole-bring older n h
  whole-bring (Write q new true ∷ older) n h = go (q == p) (whole-bring older) n h
    where
      go : (b : Bool) → (NoneFailed p older → MayBring tears first older p image → MayBring false first older p image) → MatchBool b (Unit {0}) (NoneFailed p older) → MatchBool b (image ≡ new) (MayBring tears first older p image) → MatchBool b (image ≡ new) (MayBring false first older p image)
      go true before n h = h
      go false before n h = before n h
  whole-bring (Write q new false ∷ older) n (inl here) = absurd (n.0 here.0)
  whole-bring (Write q new false ∷ older) n (inr h) = inr (whole-bring older n.1 h)

  pub whole-leave : (calls : List DeviceCall) → NoneOpen p calls → MayLeave tears first calls p image → MayLeave false first calls p image
  whole-leave [] n h = h
  whole-leave (Read q found ∷ older) n h = whole-leave older n h
  whole-leave (NotRead q ∷ older) n h = whole-leave older n h
  whole-leave (Write q new good ∷ older) n (inl here) = absurd (n.0 here.0)
  whole-leave (Write q new good ∷ older) n (inr h) = inr (whole-leave older n.1 h)
  whole-leave (Sync good ∷ older) n h = go (good && not (some sync_failed older)) (whole-leave older) n h
    where
      go : (b : Bool) → (NoneOpen p older → MayLeave tears first older p image → MayLeave false first older p image) → MatchBool b (NoneFailed p older) (NoneOpen p older)
          → MatchBool b (MayBring tears first older p image) (MayLeave tears first older p image) → MatchBool b (MayBring false first older p image) (MayLeave false first older p image)
      go true before n h = whole-bring older n h
      go false before n h = before n h

-- ---- what comes after a moment at which all was durable

module _ (begun : Trail) (begun_calls : List DeviceCall) where
  abbrev Life : Trail → List DeviceCall → Trail → Type 0
  Life = PoolFrom begun begun_calls

  pub then-life : PoolLife begun begun_calls begun → (past synced : Trail) (calls : List DeviceCall) → Life past calls synced → PoolLife past calls synced
  then-life life _ _ _ opened = life
  then-life life _ _ _ (entered {past = past} {synced = synced} {calls = calls} e w h) = entered e w (then-life life past synced calls h)
  then-life life _ _ _ (read {past = past} {synced = synced} {calls = calls} e t p image i h) = read e t p image i (then-life life past synced calls h)
  then-life life _ _ _ (not_read {past = past} {synced = synced} {calls = calls} e t p i h) = not_read e t p i (then-life life past synced calls h)
  then-life life _ _ _ (wrote {older = older} {synced = synced} {calls = calls} e f t p image good i j h) = wrote e f t p image good i j (then-life life (f ∷ older) synced calls h)
  then-life life _ _ _ (was_synced {past = past} {synced = synced} {calls = calls} good h) = was_synced good (then-life life past synced calls h)

  -- what was there stays, durably
  pub since-begun : (past synced : Trail) (calls : List DeviceCall) → Life past calls synced → ((x : Trail) × (past ≡ x ++ begun)) × ((y : Trail) × (synced ≡ y ++ begun))
  since-begun _ _ _ opened = (([], refl), ([], refl))
  since-begun _ _ _ (entered {past = past} {synced = synced} {calls = calls} e w h) = let k = since-begun past synced calls h in ((e ∷ k.0.0, ap (λ (t : Trail). e ∷ t) k.0.1), k.1)
  since-begun _ _ _ (read {past = past} {synced = synced} {calls = calls} e t p image i h) = let k = since-begun past synced calls h in ((e ∷ k.0.0, ap (λ (t : Trail). e ∷ t) k.0.1), k.1)
  since-begun _ _ _ (not_read {past = past} {synced = synced} {calls = calls} e t p i h) = let k = since-begun past synced calls h in ((e ∷ k.0.0, ap (λ (t : Trail). e ∷ t) k.0.1), k.1)
  since-begun _ _ _ (wrote {older = older} {synced = synced} {calls = calls} e f t p image good i j h) = let k = since-begun (f ∷ older) synced calls h in ((e ∷ k.0.0, ap (λ (t : Trail). e ∷ t) k.0.1), k.1)
  since-begun _ _ _ (was_synced {past = past} {synced = synced} {calls = calls} good h) = let k = since-begun past synced calls h in (k.0, go (good && not (some sync_failed calls)) k)
    where
      go : (b : Bool) → ((x : Trail) × (past ≡ x ++ begun)) × ((y : Trail) × (synced ≡ y ++ begun)) → (y : Trail) × ((if b then past else synced) ≡ y ++ begun)
      go true k = k.0
      go false k = k.1

  -- ---- an earlier moment

  pub record Earlier (past : Trail) (so_far : List DeviceCall) : Type 0 where
    pub since : Trail
    pub old : Trail
    pub settled : Trail
    pub parts : past ≡ since ++ old
    pub life : Life old (so_far ++ begun_calls) settled

  earlier-more : (e : Entry) (past : Trail) (so_far : List DeviceCall) → Earlier past so_far → Earlier (e ∷ past) so_far
  earlier-more e past so_far h = record { since = e ∷ h.since; old = h.old; settled = h.settled; parts = ap (λ (t : Trail). e ∷ t) h.parts; life = h.life }

  tail-same : (a b : DeviceCall) (xs ys : List DeviceCall) → a ∷ xs ≡ b ∷ ys → xs ≡ ys
  tail-same a b xs ys e = cc

  pub earlier : (past synced : Trail) (calls : List DeviceCall) → Life past calls synced → (later so_far : List DeviceCall) → calls ≡ later ++ (so_far ++ begun_calls) → Earlier past so_far
  earlier past synced calls life [] so_far e = record { since = []; old = past; settled = synced; parts = refl; life = subst (λ (cs : List DeviceCall). Life past cs synced) e life }
  earlier _ _ _ opened (call ∷ later) so_far e = absurd (omega (arith, ap (λ (cs : List DeviceCall). length cs) e, length-append later (so_far ++ begun_calls), length-append so_far begun_calls))
  earlier _ _ _ (entered {past = past} {synced = synced} {calls = calls} d w life) (call ∷ later) so_far e = earlier-more d past so_far (earlier past synced calls life (call ∷ later) so_far e)
  earlier _ _ _ (read {past = past} {synced = synced} {calls = calls} d t p image i life) (call ∷ later) so_far e = earlier-more d past so_far (earlier past synced calls life later so_far (tail-same (Read p image) call calls (later ++ (so_far ++ begun_calls)) e))
  earlier _ _ _ (not_read {past = past} {synced = synced} {calls = calls} d t p i life) (call ∷ later) so_far e = earlier-more d past so_far (earlier past synced calls life later so_far (tail-same (NotRead p) call calls (later ++ (so_far ++ begun_calls)) e))
  earlier _ _ _ (wrote {older = older} {synced = synced} {calls = calls} d f t p image good i j life) (call ∷ later) so_far e = earlier-more d (f ∷ older) so_far (earlier (f ∷ older) synced calls life later so_far (tail-same (Write p image good) call calls (later ++ (so_far ++ begun_calls)) e))
  earlier _ _ _ (was_synced {past = past} {synced = synced} {calls = calls} good life) (call ∷ later) so_far e = earlier past synced calls life later so_far (tail-same (Sync good) call calls (later ++ (so_far ++ begun_calls)) e)

pub legal-then : (c : Parameters) (since old : Trail) → Legal c (since ++ old) → Legal c old
legal-then c [] old l = l
legal-then c (e ∷ since) old l = legal-then c since old l.before

pub honest-then : (tears : Bool) (first : ℕ → List ℕ) (later so_far : List DeviceCall) → Honest tears first (later ++ so_far) → Honest tears first so_far
honest-then tears first [] so_far h = h
honest-then tears first (Write p image good ∷ later) so_far h = honest-then tears first later so_far h
honest-then tears first (Read p image ∷ later) so_far h = honest-then tears first later so_far h.1
honest-then tears first (NotRead p ∷ later) so_far h = honest-then tears first later so_far h
honest-then tears first (Sync good ∷ later) so_far h = honest-then tears first later so_far h
