-- A hit, an unfix, a write and the end of a read keep what the core holds in agreement with the trail.
use Rattle.std.proofs.Common.{inl, ◌≡◌, ◌≢◌, ℕ, suc, ◌+◌, ◌-◌, ◌≤◌, nat_lt, max, Bool, true, false, not, if◌then◌else◌, ◌||◌, ◌==◌, List, ◌∷◌, length, filter, Some, None, refl, sym, ◌∙◌, ap, subst, arith}
use Rattle.std.proofs.lemmas.Bool.{le-leb, and_from, eqb-true, eqb-false, false_from_ne_true, true≢false}
use Rattle.std.proofs.lemmas.Bool.Decides.{nat_tests}
use Rattle.bp_page.specs.Patched.{patched}
use Rattle.bp_references.specs.Burst.Reference.{hit}
use Rattle.bp_replacer.specs.Histories.{Blocks, is_held, latest_of, HasStampsOf, SameAt, SameSettings}
use Rattle.bp_trail.specs.declared.entries.Call.TheVariants.{Fix, Write, Unfix}
use Rattle.bp_trail.specs.declared.entries.Reply.TheVariants.{Done, Hit}
use Rattle.bp_frames.specs.declared.frame.Frame.{Frame}
use Rattle.bp_trail.specs.Parameters.{Parameters}
use Rattle.bp_trail.specs.Lists.{some, count, or_less}
use Rattle.bp_trail.specs.Event.{Grant, grant}
use Rattle.bp_trail.specs.Trail.{Trail}
use Rattle.bp_trail.specs.Clock.{clock}
use Rattle.bp_trail.specs.Passes.{passes, passes_out, is_of, pins}
use Rattle.bp_trail.specs.Places.{residents, resident, loading, writing}
use Rattle.bp_trail.specs.Saved.{unsaved, page_lsn, first_lsn}
use Rattle.bp_trail.specs.Images.{held}
use Rattle.bp_trail.specs.References.{references}
use Rattle.bp_trail.specs.PageMap.{fix_reply}
use Rattle.bp_trail.specs.Legal.{is_out}
use Rattle.bp_frames.specs.Frames.{is_frame_of, pinned, unpinned, written_on, changed_at}
use Rattle.bp_core.specs.Agreement.{Parts, Agrees, frame_of, rewritten, rewritten_lsn}
use Rattle.bp_trail.proofs.Counting.{count-agree, count-map, some-from_counts}
use Rattle.bp_trail.proofs.Serials.{numbered, count-rest, rest, OneSerial}
use Rattle.bp_trail.proofs.Residents.{reads-rest}
use Rattle.bp_core.proofs.Changes.{passes-hit, pins-hit, pins-unfix, page_lsn-write}
use Rattle.bp_trail.proofs.Ranges.{owned, owner}
use Rattle.bp_core.proofs.StampsKept.{stamps-kept, told-alike}
use Rattle.bp_trail.proofs.Places.{places}
use Rattle.bp_core.proofs.Steps.{by}

pub eqb-sym : (m n : ℕ) → (m == n) ≡ (n == m)
eqb-sym m n = grind (arith, nat_tests)

-- a page that is not the one
pub other : (p q : ℕ) → (p == q) ≡ false → p ≢ q
other p q e = eqb-false p q e

-- the grants of another page stay as one is given back
pub others-stay : (who p t q : ℕ) (gs : List Grant) → OneSerial gs → is_out (grant who p t) gs ≡ true → (p == q) ≡ false → some (is_of q) (rest t gs) ≡ some (is_of q) gs
others-stay who p t q gs once out e =
    let k = count-rest (is_of q) who p t gs once out in
    some-from_counts (is_of q) (is_of q) (rest t gs) gs (sym (subst (λ b. count (is_of q) gs ≡ (if b then suc (count (is_of q) (rest t gs)) else count (is_of q) (rest t gs))) e k))

module _ (c : Parameters) (past : Trail) (x : Parts) (a : Agrees c past x) where
  -- a change of one page's frame
  pub frames-changed : (p : ℕ) (change : Frame → Frame) (later : Trail) → ((q : ℕ) → frame_of later q (x.places q) ≡ (if q == p then change (frame_of past q (x.places q)) else frame_of past q (x.places q)))
      → (test : Frame → Bool) → count test (changed_at p change x.frames) ≡ count (λ q. test (frame_of later q (x.places q))) (residents past)
  unfolding changed_at
  frames-changed p change later at test =
      count-map (λ f. if is_frame_of p f then change f else f) test x.frames
      ∙ a.observed.frames_is (λ f. test (if is_frame_of p f then change f else f))
      ∙ count-agree (λ q. test (if q == p then change (frame_of past q (x.places q)) else frame_of past q (x.places q))) (λ q. test (frame_of later q (x.places q))) (λ q. ap test (sym (at q))) (residents past)

  module _ (who p : ℕ) where
    -- ---- a pass is given back
    pub agrees-unfix : (n : ℕ) → is_out (grant who p n) (passes_out past) ≡ true
        → Agrees c (by who (Unfix n p) Done ∷ past) (record x { out = filter (λ g. not (g.serial == n)) x.out; frames = changed_at p unpinned x.frames })
    agrees-unfix n out =
        let fewer = reads-rest who p n (passes_out past) (numbered c past a.legal).passes_once out in
        let clients = owner c who p n (passes_out past) (owned c past a.legal).passes out in
        record {
          legal = record { here = record { client = clients; allowed = out; reply = inl refl }; before = a.legal };
          observed = record {
            clock_is = a.observed.clock_is;
            durable_is = a.observed.durable_is;
            passes_is = a.observed.passes_is;
            tickets_is = a.observed.tickets_is;
            out_is = ap (filter (λ g. not (g.serial == n))) a.observed.out_is;
            reads_is = a.observed.reads_is;
            writes_is = a.observed.writes_is;
            frames_is = frames-changed p unpinned (by who (Unfix n p) Done ∷ past) at;
            stamps_are = a.observed.stamps_are;
            held_is = a.observed.held_is;
          };
          k_is = a.k_is;
          correlated_is = a.correlated_is;
          retained_is = a.retained_is;
          in_time = a.in_time;
          by_now = a.by_now;
        }
      where
        one : (q : ℕ) (b : Bool) → (q == p) ≡ b → frame_of (by who (Unfix n p) Done ∷ past) q (x.places q) ≡ (if b then unpinned (frame_of past q (x.places q)) else frame_of past q (x.places q))
        one q true e =
            let k = subst (λ b. pins past q ≡ (if b then suc (pins (by who (Unfix n p) Done ∷ past) q) else pins (by who (Unfix n p) Done ∷ past) q)) (eqb-sym p q ∙ e) (pins-unfix past who c n p q a.legal out) in
            let less : pins (by who (Unfix n p) Done ∷ past) q ≡ pins past q - 1 = omega (arith, k) in
            ap (λ m. record (frame_of past q (x.places q)) { pins = m }) less
        one q false e =
            let k = subst (λ b. pins past q ≡ (if b then suc (pins (by who (Unfix n p) Done ∷ past) q) else pins (by who (Unfix n p) Done ∷ past) q)) (eqb-sym p q ∙ e) (pins-unfix past who c n p q a.legal out) in
            ap (λ m. record (frame_of past q (x.places q)) { pins = m }) (sym k)

        at : (q : ℕ) → frame_of (by who (Unfix n p) Done ∷ past) q (x.places q) ≡ (if q == p then unpinned (frame_of past q (x.places q)) else frame_of past q (x.places q))
        at q = one q (q == p) refl

    -- ---- a write
    pub agrees-write : (n offset : ℕ) (bytes : List ℕ) (lsn : ℕ) → is_out (grant who p n) (passes_out past) ≡ true → offset + length bytes ≤ c.size
        → Agrees c (by who (Write n p offset bytes lsn) Done ∷ past) (record x { frames = changed_at p (written_on offset bytes lsn) x.frames })
    agrees-write n offset bytes lsn out fits =
        let clients = owner c who p n (passes_out past) (owned c past a.legal).passes out in
        record {
          legal = record { here = record { client = clients; allowed = and_from _ _ out (le-leb (offset + length bytes) c.size fits); reply = inl refl }; before = a.legal };
          observed = record {
            clock_is = a.observed.clock_is;
            durable_is = a.observed.durable_is;
            passes_is = a.observed.passes_is;
            tickets_is = a.observed.tickets_is;
            out_is = a.observed.out_is;
            reads_is = a.observed.reads_is;
            writes_is = a.observed.writes_is;
            frames_is = frames-changed p (written_on offset bytes lsn) (by who (Write n p offset bytes lsn) Done ∷ past) at;
            stamps_are = a.observed.stamps_are;
            held_is = a.observed.held_is;
          };
          k_is = a.k_is;
          correlated_is = a.correlated_is;
          retained_is = a.retained_is;
          in_time = a.in_time;
          by_now = a.by_now;
        }
      where
        later : Trail
        later = by who (Write n p offset bytes lsn) Done ∷ past

        put : (q : ℕ) (b : Bool) (t : ℕ) → t ≡ (if b then max lsn (page_lsn past q) else page_lsn past q)
            → (let f : Frame = record { page = q; block = x.places q; pins = pins past q; is_unsaved = b || unsaved past q; is_rewritten = b || rewritten past q; is_writing = writing past q; first_lsn = or_less (if b then Some lsn else None) (first_lsn past q); rewritten_lsn = or_less (if b then Some lsn else None) (rewritten_lsn past q); page_lsn = t; image = if b then patched offset bytes (held past q) else held past q } in f) ≡ (if b then written_on offset bytes lsn (frame_of past q (x.places q)) else frame_of past q (x.places q))
        put q true t e = ap (λ m. record (written_on offset bytes lsn (frame_of past q (x.places q))) { page_lsn = m }) e
        put q false t e = ap (λ m. record (frame_of past q (x.places q)) { page_lsn = m }) e

        at : (q : ℕ) → frame_of (by who (Write n p offset bytes lsn) Done ∷ past) q (x.places q) ≡ (if q == p then written_on offset bytes lsn (frame_of past q (x.places q)) else frame_of past q (x.places q))
        at q = put q (p == q) (page_lsn (by who (Write n p offset bytes lsn) Done ∷ past) q) (page_lsn-write past who n p q offset bytes lsn) ∙ ap (λ b. if b then written_on offset bytes lsn (frame_of past q (x.places q)) else frame_of past q (x.places q)) (eqb-sym p q)

    -- ---- a hit
    pub reply-hit : loading past p ≡ false → resident past p ≡ true → fix_reply c past p ≡ Hit (passes past)
    reply-hit l r = rw (l, r) refl

    pub agrees-hit : (h : Blocks) → nat_lt who c.clients ≡ true → nat_lt p c.pages ≡ true → resident past p ≡ true
        → SameSettings x.blocks h → HasStampsOf h p (hit (clock past) ∷ references c past p) → ((q : ℕ) → q ≢ p → SameAt x.blocks h q) → is_held h p ≡ true → latest_of h p ≤ clock past
        → Agrees c (by who (Fix p) (Hit x.given) ∷ past) (record x { given = x.given + 1; out = grant who p x.given ∷ x.out; frames = changed_at p pinned x.frames; blocks = h })
    agrees-hit h client page here settings stamps others kept newest = record {
      legal = record { here = record { client = client; allowed = page; reply = inl (ap Hit a.observed.passes_is ∙ sym (reply-hit (false_from_ne_true (loading past p) (λ l. true≢false (sym here ∙ (places c past a.legal).away p l))) here)) }; before = a.legal };
      observed = record {
        clock_is = a.observed.clock_is;
        durable_is = a.observed.durable_is;
        passes_is = omega (arith, a.observed.passes_is, passes-hit past who p x.given);
        tickets_is = a.observed.tickets_is;
        out_is = ap (λ gs. grant who p x.given ∷ gs) a.observed.out_is;
        reads_is = a.observed.reads_is;
        writes_is = a.observed.writes_is;
        frames_is = frames-changed p pinned (by who (Fix p) (Hit x.given) ∷ past) at;
        stamps_are = λ q. stamped q (p == q) refl;
        held_is = λ q. holds q (p == q) refl;
      };
      k_is = settings.k ∙ a.k_is;
      correlated_is = settings.correlated ∙ a.correlated_is;
      retained_is = settings.retained ∙ a.retained_is;
      in_time = a.in_time;
      by_now = λ q. now q (p == q) refl;
    }
      where
        one : (q : ℕ) (b : Bool) → (q == p) ≡ b → frame_of (by who (Fix p) (Hit x.given) ∷ past) q (x.places q) ≡ (if b then pinned (frame_of past q (x.places q)) else frame_of past q (x.places q))
        one q true e =
            let k = subst (λ b. pins (by who (Fix p) (Hit x.given) ∷ past) q ≡ (if b then suc (pins past q) else pins past q)) (eqb-sym p q ∙ e) (pins-hit past who p x.given q) in
            let more : pins (by who (Fix p) (Hit x.given) ∷ past) q ≡ pins past q + 1 = omega (arith, k) in
            ap (λ m. record (frame_of past q (x.places q)) { pins = m }) more
        one q false e =
            let k = subst (λ b. pins (by who (Fix p) (Hit x.given) ∷ past) q ≡ (if b then suc (pins past q) else pins past q)) (eqb-sym p q ∙ e) (pins-hit past who p x.given q) in
            ap (λ m. record (frame_of past q (x.places q)) { pins = m }) k

        at : (q : ℕ) → frame_of (by who (Fix p) (Hit x.given) ∷ past) q (x.places q) ≡ (if q == p then pinned (frame_of past q (x.places q)) else frame_of past q (x.places q))
        at q = one q (q == p) refl

        stamped : (q : ℕ) (b : Bool) → (p == q) ≡ b → HasStampsOf h q (if b then hit (clock past) ∷ references c past q else references c past q)
        stamped q true e = subst (λ y. HasStampsOf h y (hit (clock past) ∷ references c past y)) (eqb-true p q e) stamps
        stamped q false e = stamps-kept x.blocks h q (references c past q) settings (told-alike x.blocks h q (others q (λ i. other p q e (sym i)))) (a.observed.stamps_are q)

        now : (q : ℕ) (b : Bool) → (p == q) ≡ b → latest_of h q ≤ clock past
        now q true e = subst (λ y. latest_of h y ≤ clock past) (eqb-true p q e) newest
        now q false e = omega (arith, (others q (λ i. other p q e (sym i))).no_later, a.by_now q)

        holds : (q : ℕ) (b : Bool) → (p == q) ≡ b → is_held h q ≡ (resident past q || loading past q)
        holds q true e = subst (λ y. is_held h y ≡ (resident past y || loading past y)) (eqb-true p q e) (kept ∙ sym (ap (λ b. b || loading past p) here))
        holds q false e = (others q (λ i. other p q e (sym i))).held ∙ a.observed.held_is q
