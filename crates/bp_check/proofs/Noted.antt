-- What a lawful entry does to the references of each page.
use Rattle.std.proofs.Common.{◌≡◌, ◌≢◌, ℕ, ◌<◌, Bool, true, false, ◌&&◌, ◌==◌, List, [], ◌∷◌, length, inl, inr, refl, sym, ap, subst, ◌∙◌}
use Rattle.std.specs.Prelude.{if◌then◌else◌}
use Rattle.std.specs.declared.vec.Vec.{Vec}
use Rattle.std.proofs.lemmas.Bool.{eqb-true, eqb-false, eq-eqb}
use Rattle.bp_references.specs.Burst.{Reference}
use Rattle.bp_references.specs.Burst.Reference.{hit, fault}
use Rattle.bp_trail.specs.declared.entries.Entry.{Entry}
use Rattle.bp_trail.specs.declared.entries.Call.{Call}
use Rattle.bp_trail.specs.declared.entries.Call.TheVariants.{Purge}
use Rattle.bp_trail.specs.declared.entries.Reply.{Reply}
use Rattle.bp_trail.specs.declared.entries.Reply.TheVariants.{Hit, Fixed, Forgot}
use Rattle.bp_trail.specs.Parameters.{Parameters}
use Rattle.bp_trail.specs.Trail.{Trail}
use Rattle.bp_trail.specs.Event.{Grant, page_of, is_hit_reply, is_fixed_reply, is_discard, is_away_reply, discards, is_purge}
use Rattle.bp_trail.specs.Clock.{clock}
use Rattle.bp_trail.specs.References.{references, forgets}
use Rattle.bp_trail.specs.PageMap.{MayReply, FindsWrongPage}
use Rattle.bp_trail.specs.PageMap.FindsWrongPage.{another_page}
use Rattle.bp_trail.proofs.Events.{Event, event-of}
use Rattle.bp_trail.proofs.Events.Event.{discard_absent, discarded, purged}
use Rattle.bp_check.specs.declared.spans.Span.{Span}
use Rattle.bp_check.specs.Spans.{spans, spans_at, with_reference, outdated}
use Rattle.bp_check.specs.Seen.{KeepsSpans}
use Rattle.bp_check.proofs.References.{spans-cons}
use Rattle.bp_check.proofs.Choosing.{outdated-forgets}

-- ---- replies and their calls

no-purge : (c : Parameters) (past : Trail) (call : Call) (reply : Reply) → MayReply c past call reply → ((n : ℕ) → reply ≡ Forgot n → ⊥) → is_purge call ≡ false
no-purge c past Purge reply (inl is) not_forgot = absurd (not_forgot _ is)
no-purge c past _ reply (inr found) not_forgot = by-read _ _ found
  where
    by-read : (call : Call) (reply : Reply) → FindsWrongPage call reply → is_purge call ≡ false
    by-read _ _ (another_page t p) = refl
no-purge c past _ reply (inl is) not_forgot = refl

purge-call : (c : Parameters) (past : Trail) (who : ℕ) (call : Call) (reply : Reply) → Event c past who call reply → (n : ℕ) → reply ≡ Forgot n → is_purge call ≡ true
purge-call c past who _ _ purged n i = refl
purge-call c past who _ _ _ n i = cc

discard-quiet : (c : Parameters) (past : Trail) (who : ℕ) (call : Call) (reply : Reply) → Event c past who call reply → (p : ℕ) → discards p (record { client = who; call = call; reply = reply }) ≡ true
    → (is_hit_reply reply ≡ false) × ((is_fixed_reply reply ≡ false) × (is_purge call ≡ false))
discard-quiet c past who _ _ (discard_absent q x) p i = (refl, (refl, refl))
discard-quiet c past who _ _ (discarded q x) p i = (refl, (refl, refl))
discard-quiet c past who _ _ _ p i = cc

-- an entry that doesn't discard its own page discards none
undiscarded : (e : Entry) (p q : ℕ) → p ≡ page_of e.call → discards p e ≡ false → discards q e ≡ false
undiscarded e p q page kept = go (is_away_reply e.reply) (is_discard e.call) (subst (λ x. (is_away_reply e.reply && (is_discard e.call && x)) ≡ false) (eq-eqb (page_of e.call) p (sym page)) kept)
  where
    go : (a d : Bool) → (a && (d && true)) ≡ false → (a && (d && (page_of e.call == q))) ≡ false
    go false d k = refl
    go true false k = refl
    go true true k = cc

not-hit : (r : Reply) → ((n : ℕ) → r ≡ Hit n → ⊥) → is_hit_reply r ≡ false
not-hit (Hit n) other = absurd (other n refl)
not-hit _ other = refl

not-fixed : (r : Reply) → ((n : ℕ) → r ≡ Fixed n → ⊥) → is_fixed_reply r ≡ false
not-fixed (Fixed n) other = absurd (other n refl)
not-fixed _ other = refl

-- ---- by the reply

module _ (c : Parameters) (e : Entry) (past : Trail) (p : ℕ) where
  known : List Reference
  known = references c past p

  at-hit : (n : ℕ) → e.reply ≡ Hit n → page_of e.call ≡ p → references c (e ∷ past) p ≡ hit (clock past) ∷ references c past p
  at-hit n is here = rw (is, eq-eqb (page_of e.call) p here) refl

  at-fixed : (n : ℕ) → e.reply ≡ Fixed n → page_of e.call ≡ p → references c (e ∷ past) p ≡ fault (clock past) ∷ references c past p
  at-fixed n is here = rw (is, eq-eqb (page_of e.call) p here) refl

  at-discard : discards p e ≡ true → is_hit_reply e.reply ≡ false → is_fixed_reply e.reply ≡ false → references c (e ∷ past) p ≡ []
  at-discard gone no_hit no_fault = rw (no_hit, no_fault, gone) refl

  elsewhere : ((page_of e.call == p) ≡ false) → is_purge e.call ≡ false → references c (e ∷ past) p ≡ references c past p
  elsewhere apart no_purge = go (is_hit_reply e.reply) (is_fixed_reply e.reply)
    where
      other : (a d : Bool) → (if a && (d && false) then [] else references c past p) ≡ references c past p
      other true true = refl
      other true false = refl
      other false d = refl

      go : (h f : Bool) → (if h && (page_of e.call == p) then hit (clock past) ∷ references c past p else if f && (page_of e.call == p) then fault (clock past) ∷ references c past p
          else if is_away_reply e.reply && (is_discard e.call && (page_of e.call == p)) then []
          else if is_purge e.call && forgets c past p (references c past p) then [] else references c past p) ≡ references c past p
      go true true = rw (apart, no_purge) (other (is_away_reply e.reply) (is_discard e.call))
      go true false = rw (apart, no_purge) (other (is_away_reply e.reply) (is_discard e.call))
      go false true = rw (apart, no_purge) (other (is_away_reply e.reply) (is_discard e.call))
      go false false = rw (apart, no_purge) (other (is_away_reply e.reply) (is_discard e.call))

  untouched : is_hit_reply e.reply ≡ false → is_fixed_reply e.reply ≡ false → discards p e ≡ false → is_purge e.call ≡ false → references c (e ∷ past) p ≡ references c past p
  untouched no_hit no_fault kept no_purge = rw (no_hit, no_fault, kept, no_purge) refl

  at-purge : (n : ℕ) → e.reply ≡ Forgot n → is_purge e.call ≡ true → references c (e ∷ past) p ≡ (if forgets c past p (references c past p) then [] else references c past p)
  at-purge n is purge = rw (is, purge) refl

-- ---- the spans after it

module _ {A : Type 0} (c : Parameters) (past : Trail) (e : Entry) (now : ℕ) (pages : List ℕ) (reads : List Grant) (old new : List (Vec Span A)) where
  pub noted-hit : (n p : ℕ) → p ≡ page_of e.call → e.reply ≡ Hit n → spans_at new p ≡ with_reference c.correlated true now (spans_at old p) → ((q : ℕ) → q ≢ p → spans_at new q ≡ spans_at old q) → KeepsSpans c past e now pages reads old new
  noted-hit n p page is own others lawful time here loading whole are q below = go (page_of e.call == q) refl
    where
      go : (b : Bool) → (page_of e.call == q) ≡ b → spans_at new q ≡ spans c.correlated (references c (e ∷ past) q)
      go true i =
          let same : p ≡ q = page ∙ eqb-true (page_of e.call) q i in
          ap (spans_at new) (sym same) ∙ own ∙ ap (λ x. with_reference c.correlated true now (spans_at old x)) same
          ∙ ap (with_reference c.correlated true now) (are q below) ∙ ap (λ t. with_reference c.correlated true t (spans c.correlated (references c past q))) time
          ∙ sym (ap (spans c.correlated) (at-hit c e past q n is (sym page ∙ same)) ∙ spans-cons c.correlated (hit (clock past)) (references c past q))
      go false i =
          others q (λ k. eqb-false (page_of e.call) q i (sym page ∙ sym k)) ∙ are q below
          ∙ sym (ap (spans c.correlated) (elsewhere c e past q i (no-purge c past e.call e.reply lawful.reply (λ m j. (let k : Hit n ≡ Forgot m = sym is ∙ j in cc)))))

  pub noted-fixed : (n p : ℕ) → p ≡ page_of e.call → e.reply ≡ Fixed n → spans_at new p ≡ with_reference c.correlated false now (spans_at old p) → ((q : ℕ) → q ≢ p → spans_at new q ≡ spans_at old q) → KeepsSpans c past e now pages reads old new
  noted-fixed n p page is own others lawful time here loading whole are q below = go (page_of e.call == q) refl
    where
      go : (b : Bool) → (page_of e.call == q) ≡ b → spans_at new q ≡ spans c.correlated (references c (e ∷ past) q)
      go true i =
          let same : p ≡ q = page ∙ eqb-true (page_of e.call) q i in
          ap (spans_at new) (sym same) ∙ own ∙ ap (λ x. with_reference c.correlated false now (spans_at old x)) same
          ∙ ap (with_reference c.correlated false now) (are q below) ∙ ap (λ t. with_reference c.correlated false t (spans c.correlated (references c past q))) time
          ∙ sym (ap (spans c.correlated) (at-fixed c e past q n is (sym page ∙ same)) ∙ spans-cons c.correlated (fault (clock past)) (references c past q))
      go false i =
          others q (λ k. eqb-false (page_of e.call) q i (sym page ∙ sym k)) ∙ are q below
          ∙ sym (ap (spans c.correlated) (elsewhere c e past q i (no-purge c past e.call e.reply lawful.reply (λ m j. (let k : Fixed n ≡ Forgot m = sym is ∙ j in cc)))))

  pub noted-purge : (n : ℕ) → e.reply ≡ Forgot n → ((p : ℕ) → p < length old → spans_at new p ≡ (if outdated c.retained now pages reads p (spans_at old p) then [] else spans_at old p)) → KeepsSpans c past e now pages reads old new
  noted-purge n is each lawful time here loading whole are q below =
      each q (subst (λ m. q < m) (sym whole) below)
      ∙ ap (λ known. if outdated c.retained now pages reads q known then [] else known) (are q below)
      ∙ ap (λ b. if b then [] else spans c.correlated (references c past q)) (outdated-forgets c past now q pages reads (references c past q) time here loading)
      ∙ emptied (forgets c past q (references c past q))
      ∙ sym (ap (spans c.correlated) (at-purge c e past q n is (purge-call c past e.client e.call e.reply (event-of c past e lawful) n is)))
    where
      emptied : (b : Bool) → (if b then [] else spans c.correlated (references c past q)) ≡ spans c.correlated (if b then [] else references c past q)
      emptied true = refl
      emptied false = refl

  pub noted-discard : (p : ℕ) → p ≡ page_of e.call → discards p e ≡ true → (p < length old → spans_at new p ≡ []) → ((q : ℕ) → q ≢ p → spans_at new q ≡ spans_at old q) → KeepsSpans c past e now pages reads old new
  noted-discard p page gone own others lawful time here loading whole are q below = go (page_of e.call == q) refl
    where
      quiet : (is_hit_reply e.reply ≡ false) × ((is_fixed_reply e.reply ≡ false) × (is_purge e.call ≡ false))
      quiet = discard-quiet c past e.client e.call e.reply (event-of c past e lawful) p gone

      go : (b : Bool) → (page_of e.call == q) ≡ b → spans_at new q ≡ spans c.correlated (references c (e ∷ past) q)
      go true i =
          let same : p ≡ q = page ∙ eqb-true (page_of e.call) q i in
          ap (spans_at new) (sym same) ∙ own (subst (λ m. p < m) (sym whole) (subst (λ x. x < c.pages) (sym same) below))
          ∙ sym (ap (spans c.correlated) (at-discard c e past q (subst (λ x. discards x e ≡ true) same gone) quiet.0 quiet.1.0))
      go false i = others q (λ k. eqb-false (page_of e.call) q i (sym page ∙ sym k)) ∙ are q below ∙ sym (ap (spans c.correlated) (elsewhere c e past q i quiet.1.1))

  pub noted-none : (p : ℕ) → p ≡ page_of e.call → discards p e ≡ false → ((n : ℕ) → e.reply ≡ Hit n → ⊥) → ((n : ℕ) → e.reply ≡ Fixed n → ⊥) → ((n : ℕ) → e.reply ≡ Forgot n → ⊥) → new ≡ old → KeepsSpans c past e now pages reads old new
  noted-none p page kept no_hit no_fixed no_forgot same lawful time here loading whole are q below =
      ap (λ t. spans_at t q) same ∙ are q below
      ∙ sym (ap (spans c.correlated) (untouched c e past q (not-hit e.reply no_hit) (not-fixed e.reply no_fixed) (undiscarded e p q page kept) (no-purge c past e.call e.reply lawful.reply no_forgot)))
