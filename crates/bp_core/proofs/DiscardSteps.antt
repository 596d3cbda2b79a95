-- A discard keeps what the core holds in agreement with the trail.
use Rattle.std.proofs.Common.{inl, ◌≡◌, ◌≢◌, ℕ, ◌≤◌, nat_lt, Bool, true, false, not, if◌then◌else◌, ◌||◌, ◌&&◌, ◌==◌, [], ◌∷◌, filter, Option, None, refl, sym, ◌∙◌, ap, subst, arith}
use Rattle.std.proofs.lemmas.Bool.{eqb-true}
use Rattle.bp_replacer.specs.Histories.{Blocks, is_held, latest_of, HasStampsOf, SameAt, SameSettings}
use Rattle.bp_trail.specs.declared.entries.Call.TheVariants.{Discard}
use Rattle.bp_trail.specs.declared.entries.Reply.{Reply}
use Rattle.bp_trail.specs.declared.entries.Reply.TheVariants.{Absent, Discarded}
use Rattle.bp_frames.specs.Frames.{is_frame_of, without_page}
use Rattle.bp_trail.specs.Parameters.{Parameters}
use Rattle.bp_trail.specs.Trail.{Trail}
use Rattle.bp_trail.specs.Clock.{clock}
use Rattle.bp_trail.specs.Passes.{pins}
use Rattle.bp_trail.specs.Places.{residents, resident, loading, writing}
use Rattle.bp_trail.specs.Saved.{unsaved, page_lsn, first_lsn}
use Rattle.bp_trail.specs.Images.{held}
use Rattle.bp_trail.specs.References.{references}
use Rattle.bp_trail.specs.PageMap.{discard_reply}
use Rattle.bp_core.specs.Agreement.{Parts, Agrees, frame_of, rewritten, rewritten_lsn}
use Rattle.bp_trail.proofs.Counting.{count-agree_but, count-filter}
use Rattle.bp_trail.proofs.Residents.{left-none, left-other}
use Rattle.bp_core.proofs.StampsKept.{stamps-kept, told-alike}
use Rattle.bp_core.proofs.Steps.{by}
use Rattle.bp_core.proofs.PassSteps.{eqb-sym, other}

data IsDone : Reply → Type 0 where
  left : IsDone Discarded
  absent : IsDone Absent

-- nothing is told otherwise of another page
apart : (past : Trail) (who p q : ℕ) (block : Option ℕ) (reply : Reply) → IsDone reply → (p == q) ≡ false → frame_of past q block ≡ frame_of (by who (Discard p) reply ∷ past) q block
apart past who p q block _ left n =
    let u : unsaved past q ≡ unsaved (by who (Discard p) Discarded ∷ past) q = sym (ap (λ b. not (b || false) && unsaved past q) n) in
    let w : rewritten past q ≡ rewritten (by who (Discard p) Discarded ∷ past) q = sym (ap (λ b. not (b || false) && rewritten past q) n) in
    let f : first_lsn past q ≡ first_lsn (by who (Discard p) Discarded ∷ past) q = sym (ap (λ (b : Bool). if b || false then None else first_lsn past q) n) in
    let r : rewritten_lsn past q ≡ rewritten_lsn (by who (Discard p) Discarded ∷ past) q = sym (ap (λ (b : Bool). if b || false then None else rewritten_lsn past q) n) in
    λ i. record { page = q; block = block; pins = pins past q; is_unsaved = u i; is_rewritten = w i; is_writing = writing past q; first_lsn = f i; rewritten_lsn = r i; page_lsn = page_lsn past q; image = held past q }
apart past who p q block _ absent n =
    let u : unsaved past q ≡ unsaved (by who (Discard p) Absent ∷ past) q = sym (ap (λ b. not (b || false) && unsaved past q) n) in
    let w : rewritten past q ≡ rewritten (by who (Discard p) Absent ∷ past) q = sym (ap (λ b. not (b || false) && rewritten past q) n) in
    let f : first_lsn past q ≡ first_lsn (by who (Discard p) Absent ∷ past) q = sym (ap (λ (b : Bool). if b || false then None else first_lsn past q) n) in
    let r : rewritten_lsn past q ≡ rewritten_lsn (by who (Discard p) Absent ∷ past) q = sym (ap (λ (b : Bool). if b || false then None else rewritten_lsn past q) n) in
    λ i. record { page = q; block = block; pins = pins past q; is_unsaved = u i; is_rewritten = w i; is_writing = writing past q; first_lsn = f i; rewritten_lsn = r i; page_lsn = page_lsn past q; image = held past q }

module _ (c : Parameters) (past : Trail) (x : Parts) (a : Agrees c past x) (who p : ℕ) (client : nat_lt who c.clients ≡ true) (page : nat_lt p c.pages ≡ true) (idle : loading past p ≡ false)
    (h : Blocks) (settings : SameSettings x.blocks h) (stamps : HasStampsOf h p []) (others : (q : ℕ) → q ≢ p → SameAt x.blocks h q) (gone : is_held h p ≡ false) (later : latest_of h p ≤ latest_of x.blocks p) where
  stamped : (q : ℕ) (b : Bool) → (p == q) ≡ b → HasStampsOf h q (if b then [] else references c past q)
  stamped q true e = subst (λ y. HasStampsOf h y []) (eqb-true p q e) stamps
  stamped q false e = stamps-kept x.blocks h q (references c past q) settings (told-alike x.blocks h q (others q (λ i. other p q e (sym i)))) (a.observed.stamps_are q)

  now : (q : ℕ) (b : Bool) → (p == q) ≡ b → latest_of h q ≤ clock past
  now q true e = subst (λ y. latest_of h y ≤ clock past) (eqb-true p q e) (omega (arith, later, a.by_now p))
  now q false e = omega (arith, (others q (λ i. other p q e (sym i))).no_later, a.by_now q)

  -- ---- it is in no frame
  pub agrees-forget : resident past p ≡ false → Agrees c (by who (Discard p) Absent ∷ past) (record x { blocks = h })
  agrees-forget away = record {
    legal = record { here = record { client = client; allowed = page; reply = inl (sym replies) }; before = a.legal };
    observed = record {
      clock_is = a.observed.clock_is;
      durable_is = a.observed.durable_is;
      passes_is = a.observed.passes_is;
      tickets_is = a.observed.tickets_is;
      out_is = a.observed.out_is;
      reads_is = a.observed.reads_is;
      writes_is = a.observed.writes_is;
      frames_is = λ test. a.observed.frames_is test
          ∙ count-agree_but (λ q. test (frame_of past q (x.places q))) (λ q. test (frame_of (by who (Discard p) Absent ∷ past) q (x.places q))) (λ q. q == p) (λ q e. ap test (apart past who p q (x.places q) Absent absent (eqb-sym p q ∙ e))) (residents past) away;
      stamps_are = λ q. stamped q (p == q) refl;
      held_is = λ q. holds q (p == q) refl;
    };
    k_is = settings.k ∙ a.k_is;
    correlated_is = settings.correlated ∙ a.correlated_is;
    retained_is = settings.retained ∙ a.retained_is;
    in_time = a.in_time;
    by_now = λ q. now q (p == q) refl;
  }
    where
      replies : discard_reply past p ≡ Absent
      replies = rw (idle, away) refl

      holds : (q : ℕ) (b : Bool) → (p == q) ≡ b → is_held h q ≡ (resident past q || loading past q)
      holds q true e = subst (λ y. is_held h y ≡ (resident past y || loading past y)) (eqb-true p q e) (rw (idle, away) gone)
      holds q false e = (others q (λ i. other p q e (sym i))).held ∙ a.observed.held_is q

  -- ---- it leaves its frame
  pub agrees-discard : resident past p ≡ true → writing past p ≡ false → pins past p ≡ 0 → Agrees c (by who (Discard p) Discarded ∷ past) (record x { frames = without_page p x.frames; blocks = h })
  unfolding without_page
  agrees-discard here landed unpinned = record {
    legal = record { here = record { client = client; allowed = page; reply = inl (sym replies) }; before = a.legal };
    observed = record {
      clock_is = a.observed.clock_is;
      durable_is = a.observed.durable_is;
      passes_is = a.observed.passes_is;
      tickets_is = a.observed.tickets_is;
      out_is = a.observed.out_is;
      reads_is = a.observed.reads_is;
      writes_is = a.observed.writes_is;
      frames_is = λ test. count-filter test (λ f. not (is_frame_of p f)) x.frames ∙ a.observed.frames_is (λ f. not (is_frame_of p f) && test f) ∙ sym (count-filter (λ q. test (frame_of past q (x.places q))) (λ q. not (q == p)) (residents past))
          ∙ count-agree_but (λ q. test (frame_of past q (x.places q))) (λ q. test (frame_of (by who (Discard p) Discarded ∷ past) q (x.places q))) (λ q. q == p) (λ q e. ap test (apart past who p q (x.places q) Discarded left (eqb-sym p q ∙ e))) (filter (λ q. not (q == p)) (residents past)) (left-none p (residents past));
      stamps_are = λ q. stamped q (p == q) refl;
      held_is = λ q. holds q (p == q) refl;
    };
    k_is = settings.k ∙ a.k_is;
    correlated_is = settings.correlated ∙ a.correlated_is;
    retained_is = settings.retained ∙ a.retained_is;
    in_time = a.in_time;
    by_now = λ q. now q (p == q) refl;
  }
    where
      replies : discard_reply past p ≡ Discarded
      replies = rw (idle, here, landed, unpinned) refl

      holds : (q : ℕ) (b : Bool) → (p == q) ≡ b → is_held h q ≡ (resident (by who (Discard p) Discarded ∷ past) q || loading past q)
      holds q true e = subst (λ y. is_held h y ≡ (resident (by who (Discard p) Discarded ∷ past) y || loading past y)) (eqb-true p q e) (gone ∙ sym (ap (λ b. b || loading past p) (left-none p (residents past)) ∙ idle))
      holds q false e = (others q (λ i. other p q e (sym i))).held ∙ a.observed.held_is q ∙ ap (λ b. b || loading past q) (sym (left-other p q (eqb-sym q p ∙ e) (residents past)))
