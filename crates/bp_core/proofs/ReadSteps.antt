-- The begin and the end of a read keep what the core holds in agreement with the trail.
use Rattle.std.proofs.Common.{◌≡◌, ◌≢◌, ℕ, suc, ◌+◌, nat_lt, Bool, true, false, not, cond, if◌then◌else◌, ◌||◌, ◌&&◌, ◌==◌, ◌≤◌, inl, inr, List, ◌∷◌, length, filter, Some, None, refl, sym, ◌∙◌, ap, subst, arith}
use Rattle.std.specs.List.Sorted.{IsPermutation}
use Rattle.std.proofs.lemmas.Bool.{and_from, and_parts, or_left, or_right, or_cases, eqb-true, eq-eqb, false_from_ne_true, true≢false}
use Rattle.bp_references.specs.Burst.Reference.{fault}
use Rattle.bp_replacer.specs.Histories.{Blocks, is_held, latest_of, HasStampsOf, SameStampsAt, SameAt, SameSettings}
use Rattle.bp_trail.specs.declared.entries.Entry.{Entry}
use Rattle.bp_trail.specs.declared.entries.Call.TheVariants.{Fix, ReadEnd}
use Rattle.bp_trail.specs.declared.entries.Reply.{Reply}
use Rattle.bp_trail.specs.declared.entries.Reply.TheVariants.{Load, WriteFirst, NeedLog, Fixed, ReadFailed}
use Rattle.bp_frames.specs.declared.frame.Frame.{Frame}
use Rattle.bp_trail.specs.Parameters.{Parameters}
use Rattle.bp_trail.specs.Lists.{some, count}
use Rattle.bp_trail.specs.Event.{grant, begins_of, discards, writes, lsn_written}
use Rattle.bp_trail.specs.Trail.{Trail}
use Rattle.bp_trail.specs.Clock.{clock, durable}
use Rattle.bp_trail.specs.Passes.{passes, tickets, passes_out, reads_out, is_of, pins}
use Rattle.bp_trail.specs.Places.{residents, resident, loading, writing}
use Rattle.bp_trail.specs.Saved.{unsaved, page_lsn, began_saving, settles, first_lsn}
use Rattle.bp_trail.specs.Images.{held}
use Rattle.bp_trail.specs.References.{references}
use Rattle.bp_trail.specs.PageMap.{fix_reply}
use Rattle.bp_trail.specs.Legal.{is_out}
use Rattle.bp_frames.specs.Frames.{is_frame_of, loaded_with, without_page}
use Rattle.bp_core.specs.Agreement.{Parts, Agrees, frame_of, parts_writes, rewritten, rewritten_lsn}
use Rattle.bp_trail.proofs.Lists.{since-mono}
use Rattle.bp_trail.proofs.Redo.{first-unsaved, least-some, lsn-some, none-of}
use Rattle.bp_trail.proofs.Counting.{count-cons, none-count, count-agree_but, count-permutation, count-filter}
use Rattle.bp_trail.proofs.Serials.{numbered, rest}
use Rattle.bp_trail.proofs.Residents.{reads-rest, left-none, left-other}
use Rattle.bp_trail.proofs.Places.{places, out-of_page, one-gone}
use Rattle.bp_core.proofs.Changes.{tickets-load, page_lsn-load}
use Rattle.bp_trail.proofs.Ranges.{owned, owner, stays}
use Rattle.bp_core.proofs.StampsKept.{stamps-kept, told-alike}
use Rattle.bp_core.proofs.Steps.{by}
use Rattle.bp_core.proofs.PassSteps.{eqb-sym, other, others-stay}
use Rattle.bp_trail.proofs.Victim.{victim-is, candidate-resident}
use Rattle.bp_trail.specs.Victim.{victim}
use Rattle.bp_trail.specs.PageMap.{has_free_frame, replace_reply}

-- a page that is rewritten is unsaved
rewritten-unsaved : (past : Trail) (p : ℕ) → rewritten past p ≡ true → unsaved past p ≡ true
rewritten-unsaved past p m = since-mono (writes p) (settles past p) (parts_writes p) past tells m
  where
    began : (r : Reply) → began_saving past p r ≡ true → begins_of p r ≡ true
    began (WriteFirst t q image) k = (and_parts (q == p) _ k).0
    began _ k = cc

    tells : (e : Entry) → settles past p e ≡ true → parts_writes p e ≡ true
    tells e h = elim (or_cases (discards p e) (began_saving past p e.reply) h) as (λ _. parts_writes p e ≡ true)
        [ inl i ↦ or_left (discards p e) (begins_of p e.reply) i | inr j ↦ or_right (discards p e) (begins_of p e.reply) (began e.reply j) ]

module _ (c : Parameters) (past : Trail) (x : Parts) (a : Agrees c past x) (who p : ℕ) where
  -- ---- a page is asked of the device
  module _ (client : nat_lt who c.clients ≡ true) (page : nat_lt p c.pages ≡ true) (idle : loading past p ≡ false) (away : resident past p ≡ false) (h : Blocks) (settings : SameSettings x.blocks h) (stamps : (q : ℕ) → SameStampsAt x.blocks h q) where
    reply-load : has_free_frame c past ≡ true → fix_reply c past p ≡ Load (tickets past) None
    reply-load f = rw (idle, away, f) refl

    reply-replace : has_free_frame c past ≡ false → fix_reply c past p ≡ replace_reply past (victim c past)
    reply-replace f = rw (idle, away, f) refl

    pub agrees-load : has_free_frame c past ≡ true → is_held h p ≡ true → ((q : ℕ) → q ≢ p → is_held h q ≡ is_held x.blocks q)
        → Agrees c (by who (Fix p) (Load x.begun None) ∷ past) (record x { begun = x.begun + 1; reads = grant who p x.begun ∷ x.reads; blocks = h })
    agrees-load frame kept others = record {
      legal = record { here = record { client = client; allowed = page; reply = inl (ap (λ t. Load t None) a.observed.tickets_is ∙ sym (reply-load frame)) }; before = a.legal };
      observed = record {
        clock_is = a.observed.clock_is;
        durable_is = a.observed.durable_is;
        passes_is = a.observed.passes_is;
        tickets_is = omega (arith, a.observed.tickets_is, tickets-load past who p x.begun None);
        out_is = a.observed.out_is;
        reads_is = ap (λ gs. grant who p x.begun ∷ gs) a.observed.reads_is;
        writes_is = a.observed.writes_is;
        frames_is = a.observed.frames_is;
        stamps_are = λ q. stamps-kept x.blocks h q (references c past q) settings (stamps q) (a.observed.stamps_are q);
        held_is = λ q. holds q (p == q) refl;
      };
      k_is = settings.k ∙ a.k_is;
      correlated_is = settings.correlated ∙ a.correlated_is;
      retained_is = settings.retained ∙ a.retained_is;
      in_time = a.in_time;
      by_now = λ q. omega (arith, (stamps q).no_later, a.by_now q);
    }
      where
        holds : (q : ℕ) (b : Bool) → (p == q) ≡ b → is_held h q ≡ (resident past q || (b || loading past q))
        holds q true e = subst (λ y. is_held h y ≡ (resident past y || true)) (eqb-true p q e) (kept ∙ sym (ap (λ b. b || true) away))
        holds q false e = others q (λ i. other p q e (sym i)) ∙ a.observed.held_is q

    -- ---- and another leaves its frame
    pub agrees-evict : (v : ℕ) → has_free_frame c past ≡ false → victim c past ≡ Some v → unsaved past v ≡ false → is_held h p ≡ true → is_held h v ≡ false → ((q : ℕ) → q ≢ p → q ≢ v → is_held h q ≡ is_held x.blocks q)
        → Agrees c (by who (Fix p) (Load x.begun (Some v)) ∷ past) (record x { begun = x.begun + 1; reads = grant who p x.begun ∷ x.reads; frames = without_page v x.frames; blocks = h })
    unfolding without_page
    agrees-evict v full chosen saved kept gone others = record {
      legal = record { here = record { client = client; allowed = page; reply = inl (ap (λ t. Load t (Some v)) a.observed.tickets_is ∙ sym (reply-replace full ∙ replaces)) }; before = a.legal };
      observed = record {
        clock_is = a.observed.clock_is;
        durable_is = a.observed.durable_is;
        passes_is = a.observed.passes_is;
        tickets_is = omega (arith, a.observed.tickets_is, tickets-load past who p x.begun (Some v));
        out_is = a.observed.out_is;
        reads_is = ap (λ gs. grant who p x.begun ∷ gs) a.observed.reads_is;
        writes_is = a.observed.writes_is;
        frames_is = λ test. count-filter test (λ f. not (is_frame_of v f)) x.frames ∙ a.observed.frames_is (λ f. not (is_frame_of v f) && test f) ∙ sym (count-filter (λ q. test (frame_of past q (x.places q))) (λ q. not (q == v)) (residents past));
        stamps_are = λ q. stamps-kept x.blocks h q (references c past q) settings (stamps q) (a.observed.stamps_are q);
        held_is = λ q. holds q (p == q) refl (q == v) refl;
      };
      k_is = settings.k ∙ a.k_is;
      correlated_is = settings.correlated ∙ a.correlated_is;
      retained_is = settings.retained ∙ a.retained_is;
      in_time = a.in_time;
      by_now = λ q. omega (arith, (stamps q).no_later, a.by_now q);
    }
      where
        replaces : replace_reply past (victim c past) ≡ Load (tickets past) (Some v)
        replaces = ap (replace_reply past) chosen ∙ ap (λ b. if b then (if nat_lt (durable past) (page_lsn past v) then NeedLog (page_lsn past v) else WriteFirst (tickets past) v (held past v)) else Load (tickets past) (Some v)) saved

        here : resident past v ≡ true
        here = candidate-resident c past v (victim-is c past v chosen).eligible

        holds : (q : ℕ) (b : Bool) → (p == q) ≡ b → (d : Bool) → (q == v) ≡ d → is_held h q ≡ (some (λ r. r == q) (filter (λ r. not (r == v)) (residents past)) || (b || loading past q))
        holds q true e d k = subst (λ y. is_held h y ≡ true) (eqb-true p q e) kept ∙ sym (or-true (some (λ r. r == q) (filter (λ r. not (r == v)) (residents past))))
          where
            or-true : (b : Bool) → (b || true) ≡ true
            or-true true = refl
            or-true false = refl
        holds q false e true k =
            let busy : loading past v ≡ false = false_from_ne_true (loading past v) (λ t. true≢false (sym here ∙ (places c past a.legal).away v t)) in
            subst (λ y. is_held h y ≡ (some (λ r. r == y) (filter (λ r. not (r == v)) (residents past)) || loading past y)) (sym (eqb-true q v k)) (gone ∙ sym (ap (λ b. b || loading past v) (left-none v (residents past)) ∙ busy))
        holds q false e false k = others q (λ i. other p q e (sym i)) (other q v k) ∙ a.observed.held_is q ∙ ap (λ b. b || loading past q) (sym (left-other v q k (residents past)))

  -- ---- a read ends
  module _ (t : ℕ) (out : is_out (grant who p t) (reads_out past) ≡ true) (h : Blocks) (settings : SameSettings x.blocks h) where
    fewer : length (reads_out past) ≡ suc (length (rest t (reads_out past)))
    fewer = reads-rest who p t (reads_out past) (numbered c past a.legal).reads_once out

    clients : nat_lt who c.clients ≡ true
    clients = owner c who p t (reads_out past) (owned c past a.legal).reads out

    absent : resident past p ≡ false
    absent = (places c past a.legal).away p (out-of_page who p t (reads_out past) out)

    idle-after : some (is_of p) (rest t (reads_out past)) ≡ false
    idle-after = one-gone who p t (reads_out past) (places c past a.legal).once out

    idle-other : (q : ℕ) → (p == q) ≡ false → some (is_of q) (rest t (reads_out past)) ≡ loading past q
    idle-other q e = others-stay who p t q (reads_out past) (numbered c past a.legal).reads_once out e

    pub agrees-failed : ((q : ℕ) → SameStampsAt x.blocks h q) → is_held h p ≡ false → ((q : ℕ) → q ≢ p → is_held h q ≡ is_held x.blocks q)
        → Agrees c (by who (ReadEnd t p None) ReadFailed ∷ past) (record x { reads = filter (λ g. not (g.serial == t)) x.reads; blocks = h })
    agrees-failed stamps gone others = record {
      legal = record { here = record { client = clients; allowed = and_from _ _ out refl; reply = inl refl }; before = a.legal };
      observed = record {
        clock_is = a.observed.clock_is;
        durable_is = a.observed.durable_is;
        passes_is = a.observed.passes_is;
        tickets_is = a.observed.tickets_is;
        out_is = a.observed.out_is;
        reads_is = ap (filter (λ g. not (g.serial == t))) a.observed.reads_is;
        writes_is = a.observed.writes_is;
        frames_is = a.observed.frames_is;
        stamps_are = λ q. stamps-kept x.blocks h q (references c past q) settings (stamps q) (a.observed.stamps_are q);
        held_is = λ q. holds q (p == q) refl;
      };
      k_is = settings.k ∙ a.k_is;
      correlated_is = settings.correlated ∙ a.correlated_is;
      retained_is = settings.retained ∙ a.retained_is;
      in_time = a.in_time;
      by_now = λ q. omega (arith, (stamps q).no_later, a.by_now q);
    }
      where
        holds : (q : ℕ) (b : Bool) → (p == q) ≡ b → is_held h q ≡ (resident past q || some (is_of q) (rest t (reads_out past)))
        holds q true e = subst (λ y. is_held h y ≡ (resident past y || some (is_of y) (rest t (reads_out past)))) (eqb-true p q e) (gone ∙ sym (ap (λ b. b || some (is_of p) (rest t (reads_out past))) absent ∙ idle-after))
        holds q false e = others q (λ i. other p q e (sym i)) ∙ a.observed.held_is q ∙ ap (λ b. resident past q || b) (sym (idle-other q e))

    pub agrees-fixed : (block : ℕ) → x.places p ≡ Some block → (image : List ℕ) → length image ≡ c.size → (fs : List Frame) → IsPermutation (loaded_with p block image ∷ x.frames) fs → HasStampsOf h p (fault (clock past) ∷ references c past p) → ((q : ℕ) → q ≢ p → SameAt x.blocks h q) → is_held h p ≡ true → latest_of h p ≤ clock past
        → Agrees c (by who (ReadEnd t p (Some image)) (Fixed x.given) ∷ past)
        (record x { given = x.given + 1; out = grant who p x.given ∷ x.out; reads = filter (λ g. not (g.serial == t)) x.reads; frames = fs; blocks = h })
    agrees-fixed block place image size fs moved stamps others kept newest = record {
      legal = record { here = record { client = clients; allowed = and_from _ _ out (eq-eqb (length image) c.size size); reply = inl (ap Fixed a.observed.passes_is) }; before = a.legal };
      observed = record {
        clock_is = a.observed.clock_is;
        durable_is = a.observed.durable_is;
        passes_is = omega (arith, a.observed.passes_is, more-passes);
        tickets_is = a.observed.tickets_is;
        out_is = ap (λ gs. grant who p x.given ∷ gs) a.observed.out_is;
        reads_is = ap (filter (λ g. not (g.serial == t))) a.observed.reads_is;
        writes_is = a.observed.writes_is;
        frames_is = counts;
        stamps_are = λ q. stamped q (p == q) refl;
        held_is = λ q. holds q (p == q) refl;
      };
      k_is = settings.k ∙ a.k_is;
      correlated_is = settings.correlated ∙ a.correlated_is;
      retained_is = settings.retained ∙ a.retained_is;
      in_time = a.in_time;
      by_now = λ q. now q (p == q) refl;
    }
      where
        after : Trail
        after = by who (ReadEnd t p (Some image)) (Fixed x.given) ∷ past

        more-passes : passes (by who (ReadEnd t p (Some image)) (Fixed x.given) ∷ past) ≡ suc (passes past)
        more-passes = refl

        unpinned-now : pins past p ≡ 0
        unpinned-now = none-count (is_of p) (passes_out past) (false_from_ne_true (some (is_of p) (passes_out past)) (λ m. true≢false (sym ((places c past a.legal).pinned p m) ∙ absent)))

        saved-now : unsaved past p ≡ false
        saved-now = false_from_ne_true (unsaved past p) (λ m. true≢false (sym ((places c past a.legal).dirty p m) ∙ absent))

        settled-now : rewritten past p ≡ false
        settled-now = false_from_ne_true (rewritten past p) (λ m. true≢false (sym (rewritten-unsaved past p m) ∙ saved-now))

        first-now : first_lsn past p ≡ None
        first-now = none-of (first_lsn past p) (first-unsaved past p ∙ saved-now)

        since-now : rewritten_lsn past p ≡ None
        since-now = none-of (rewritten_lsn past p) (least-some (writes p) (lsn_written p) (parts_writes p) (lsn-some p) past ∙ settled-now)

        idle-now : writing past p ≡ false
        idle-now = false_from_ne_true (writing past p) (λ m. true≢false (sym (stays c past a.legal p m) ∙ absent))

        own-pins : pins (by who (ReadEnd t p (Some image)) (Fixed x.given) ∷ past) p ≡ 1
        own-pins = omega (arith, count-cons (is_of p) (grant who p x.given) (passes_out past), ap {B = ℕ} (λ b. cond b 1 0) (eq-eqb p p refl), unpinned-now)

        own-page_lsn : page_lsn (by who (ReadEnd t p (Some image)) (Fixed x.given) ∷ past) p ≡ 0
        own-page_lsn = page_lsn-load past who t p p x.given image ∙ ap (λ b. if b then 0 else page_lsn past p) (eq-eqb p p refl)

        own-image : held (by who (ReadEnd t p (Some image)) (Fixed x.given) ∷ past) p ≡ image
        own-image = ap (λ b. if b then image else held past p) (eq-eqb p p refl)

        own : frame_of (by who (ReadEnd t p (Some image)) (Fixed x.given) ∷ past) p (x.places p) ≡ loaded_with p block image
        own = λ i. record { page = p; block = place i; pins = own-pins i; is_unsaved = saved-now i; is_rewritten = settled-now i; is_writing = idle-now i; first_lsn = first-now i; rewritten_lsn = since-now i; page_lsn = own-page_lsn i; image = own-image i }

        others-frame : (q : ℕ) → (q == p) ≡ false → frame_of past q (x.places q) ≡ frame_of (by who (ReadEnd t p (Some image)) (Fixed x.given) ∷ past) q (x.places q)
        others-frame q e =
            let n : (p == q) ≡ false = eqb-sym p q ∙ e in
            let pins-same : pins past q ≡ pins (by who (ReadEnd t p (Some image)) (Fixed x.given) ∷ past) q = omega (arith, count-cons (is_of q) (grant who p x.given) (passes_out past), ap {B = ℕ} (λ b. cond b 1 0) n) in
            let page_lsn-same : page_lsn past q ≡ page_lsn (by who (ReadEnd t p (Some image)) (Fixed x.given) ∷ past) q = sym (page_lsn-load past who t p q x.given image ∙ ap (λ b. if b then 0 else page_lsn past q) n) in
            let image-same : held past q ≡ held (by who (ReadEnd t p (Some image)) (Fixed x.given) ∷ past) q = sym (ap (λ b. if b then image else held past q) n) in
            λ i. record { page = q; block = x.places q; pins = pins-same i; is_unsaved = unsaved past q; is_rewritten = rewritten past q; is_writing = writing past q; first_lsn = first_lsn past q; rewritten_lsn = rewritten_lsn past q; page_lsn = page_lsn-same i; image = image-same i }

        counts : (test : Frame → Bool) → count test fs ≡ count (λ q. test (frame_of (by who (ReadEnd t p (Some image)) (Fixed x.given) ∷ past) q (x.places q))) (p ∷ residents past)
        counts test =
            omega (
              arith,
              count-permutation test (loaded_with p block image ∷ x.frames) fs moved,
              count-cons test (loaded_with p block image) x.frames,
              count-cons (λ q. test (frame_of (by who (ReadEnd t p (Some image)) (Fixed x.given) ∷ past) q (x.places q))) p (residents past),
              ap {B = ℕ} (λ g. cond (test g) 1 0) own,
              a.observed.frames_is test,
              count-agree_but (λ q. test (frame_of past q (x.places q))) (λ q. test (frame_of (by who (ReadEnd t p (Some image)) (Fixed x.given) ∷ past) q (x.places q))) (λ q. q == p) (λ q e. ap test (others-frame q e)) (residents past) absent,
            )

        stamped : (q : ℕ) (b : Bool) → (p == q) ≡ b → HasStampsOf h q (if b then fault (clock past) ∷ references c past q else references c past q)
        stamped q true e = subst (λ y. HasStampsOf h y (fault (clock past) ∷ references c past y)) (eqb-true p q e) stamps
        stamped q false e = stamps-kept x.blocks h q (references c past q) settings (told-alike x.blocks h q (others q (λ i. other p q e (sym i)))) (a.observed.stamps_are q)

        now : (q : ℕ) (b : Bool) → (p == q) ≡ b → latest_of h q ≤ clock past
        now q true e = subst (λ y. latest_of h y ≤ clock past) (eqb-true p q e) newest
        now q false e = omega (arith, (others q (λ i. other p q e (sym i))).no_later, a.by_now q)

        holds : (q : ℕ) (b : Bool) → (p == q) ≡ b → is_held h q ≡ ((b || resident past q) || some (is_of q) (rest t (reads_out past)))
        holds q true e = subst (λ y. is_held h y ≡ true) (eqb-true p q e) kept
        holds q false e = (others q (λ i. other p q e (sym i))).held ∙ a.observed.held_is q ∙ ap (λ b. resident past q || b) (sym (idle-other q e))
