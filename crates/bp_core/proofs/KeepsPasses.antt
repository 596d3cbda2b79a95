-- A core stays one as a page is fixed that is resident, written or given back.
use Rattle.std.proofs.Common.{◌≡◌, ◌≢◌, ℕ, zero, suc, ◌+◌, ◌-◌, ◌<◌, ◌≤◌, true, List, ◌∷◌, length, filter, sym, ap, subst, arith, Bool, if◌then◌else◌, Some, None, refl, ◌∙◌}
use Rattle.std.specs.Prelude.{not, ◌==◌, ◌&&◌, Contains}
use Rattle.std.proofs.lemmas.Bool.Decides.{nat_tests}
use Rattle.std.proofs.lemmas.Bool.{lt-ltb, ne_eqb}
use Rattle.bp_references.specs.Burst.{Reference}
use Rattle.bp_references.specs.Burst.Reference.{hit}
use Rattle.bp_references.specs.Stamp.{IsTimed}
use Rattle.bp_references.specs.Candidates.{Entered, entry_of, NoPageTwice, SameLimits}
use Rattle.bp_replacer.specs.Histories.{Blocks, latest_of, is_held, place_of, stamp_of, last_of, HasStampsOf, SameAt, SameSettings, KeepsPlaces}
use Rattle.bp_trail.specs.declared.entries.Call.TheVariants.{Fix, Write, Unfix}
use Rattle.bp_trail.specs.declared.entries.Reply.TheVariants.{Done, Hit}
use Rattle.bp_trail.specs.Passes.{passes_out, is_of, pins}
use Rattle.bp_trail.specs.Places.{resident, writing}
use Rattle.bp_trail.specs.References.{references}
use Rattle.bp_trail.specs.Legal.{is_out}
use Rattle.bp_frames.specs.Frames.{is_unused, changed_at, pinned, unpinned, written_on}
use Rattle.bp_frames.specs.declared.frame.Frame.{Frame}
use Rattle.bp_frames.specs.Tables.{with_changed}
use Rattle.bp_trail.proofs.Counting.{some-count}
use Rattle.bp_trail.proofs.Serials.{numbered}
use Rattle.bp_trail.proofs.Places.{places, out-of_page}
use Rattle.bp_core.proofs.Seen.{ranked, resident_seen}
use Rattle.bp_frames.specs.Frames.{is_frame_of}
use Rattle.bp_trail.specs.Lists.{some}
use Rattle.bp_core.proofs.Placed.{place-kept, placed-after, held-before, held-here, rehoused}
use Rattle.bp_core.proofs.Uses.{frame-after}
use Rattle.bp_core.proofs.CandidateSteps.{no-entry, stay, move-hit, move-unfix}
use Rattle.bp_trail.proofs.Residents.{reads-rest}
use Rattle.bp_trail.proofs.Timed.{references-timed}
use Rattle.bp_core.proofs.PassSteps.{agrees-unfix, agrees-write, agrees-hit}
use Rattle.bp_core.specs.declared.state.State.{State}
use Rattle.bp_trail.specs.Parameters.{Parameters}
use Rattle.bp_trail.specs.Event.{grant}
use Rattle.bp_trail.specs.Trail.{Trail}
use Rattle.bp_core.specs.CoreView.{CoreView, EachPast, HasRoomFor}
use Rattle.bp_keeper.specs.Kept.{Kept, with_next}
use Rattle.bp_frames.specs.GrantLists.{Given, with_grant, GivesAsMuch}
use Rattle.bp_core.specs.Agreement.{parts_of, IsCore, view_of}
use Rattle.bp_core.proofs.Keeps.{longer, at-past, at-parameters, at-room}

module _ (c : Parameters) (trail : Kept) (x : State) (core : IsCore c trail x) (v : CoreView) (is : view_of c trail ≡ v) where
  at : (P : Parameters → Trail → Type 0) → EachPast v (P v.parameters) → P c trail.past
  at = at-past c trail x core v is

  given : (P : Parameters → Type 0) → P v.parameters → P c
  given = at-parameters c trail x core v is

  -- a pass that is out is of a page with a frame, and with a pass
  pub pinned-page : (who p n : ℕ) → EachPast v (λ past. is_out (grant who p n) (passes_out past) ≡ true) → resident trail.past p ≡ true
  pinned-page who p n known = (places c trail.past core.agrees.legal).pinned p (out-of_page who p n (passes_out trail.past) (at (λ q past. is_out (grant who p n) (passes_out past) ≡ true) known))

  pub frame-here : (who p n : ℕ) → EachPast v (λ past. is_out (grant who p n) (passes_out past) ≡ true) → some (is_frame_of p) x.frames.frames ≡ true
  frame-here who p n known = resident_seen c trail.past (parts_of x) core.agrees p ∙ pinned-page who p n known

  -- whether nobody uses it any longer, once that pass is given back
  pub last-pass : (who p n : ℕ) → EachPast v (λ past. is_out (grant who p n) (passes_out past) ≡ true) → (f : Frame) → Contains (changed_at p unpinned x.frames.frames) f → f.page ≡ p → EachPast v (λ past. is_unused f ≡ ((pins past p == 1) && not (writing past p)))
  last-pass who p n known f here page =
      let some = some-count (is_of p) (passes_out trail.past) (out-of_page who p n (passes_out trail.past) (at (λ q past. is_out (grant who p n) (passes_out past) ≡ true) known)) in
      subst (λ u. EachPast u (λ past. is_unused f ≡ ((pins past p == 1) && not (writing past p)))) is
      (ap is_unused (frame-after c trail x core p unpinned (λ f. refl) f here page) ∙ ap (λ b. b && not (writing trail.past p)) (down (pins trail.past p) (omega (arith, some))))
    where
      down : (m : ℕ) → 0 < m → (m - 1 == 0) ≡ (m == 1)
      down zero lt = absurd (omega (arith, lt))
      down (suc m) lt = let e : suc m - 1 ≡ m = omega arith in ap (λ n. n == 0) e ∙ sym (one m)
        where
          one : (m : ℕ) → (suc m == 1) ≡ (m == 0)
          one m = grind (arith, nat_tests)

  pub keeps-unfix : (who p n : ℕ) → EachPast v (λ past. is_out (grant who p n) (passes_out past) ≡ true) → (unused_now : Bool) → EachPast v (λ past. unused_now ≡ ((pins past p == 1) && not (writing past p)))
      → (e : Entered) → SameLimits x.frames.candidates e → (NoPageTwice x.frames.candidates.entries → NoPageTwice e.entries) → ((q : ℕ) → q ≢ p → entry_of e q ≡ entry_of x.frames.candidates q) → entry_of e p ≡ (if unused_now then Some (stamp_of x.histories p c.k, last_of x.histories p) else entry_of x.frames.candidates p)
      → (ps : Given) → ps.out ≡ filter (λ g. not (g.serial == n)) x.passes.out → GivesAsMuch x.passes ps
      → IsCore c (with_next trail who (Unfix n p) Done) (record x { frames = record (with_changed x.frames p unpinned) { candidates = e }; passes = ps })
  keeps-unfix who p n known unused_now last_one e limits pages others entered ps left more =
      let out = at (λ q past. is_out (grant who p n) (passes_out past) ≡ true) known in
      let fewer = reads-rest who p n (passes_out trail.past) (numbered c trail.past core.agrees.legal).passes_once out in
      record {
        agrees = rw left (agrees-unfix c trail.past (parts_of x) core.agrees who p n out);
        candidates = move-unfix c trail.past x.frames.candidates core.candidates e limits pages p others who n unused_now (at (λ q past. unused_now ≡ ((pins past p == 1) && not (writing past p))) last_one) core.agrees.legal out (pinned-page who p n known)
            (entered ∙ ap (λ t. if unused_now then Some t else entry_of x.frames.candidates p) (ranked c trail.past (parts_of x) core.agrees p));
        trail_room = longer c _ core.trail_room _ (omega (arith, fewer, core.trail_room.owed)) (omega arith) (omega arith);
        opening = core.opening;
        placed = core.placed;
        numbers = record { of_pass = omega (arith, more.next, core.numbers.of_pass); of_read = core.numbers.of_read; of_write = core.numbers.of_write };
        pass_room = record { reserved = omega (arith, core.pass_room.reserved, more.room) };
        frame_room = core.frame_room;
      }

  pub keeps-write : (who p n offset : ℕ) (bytes : List ℕ) (lsn : ℕ) → EachPast v (λ past. is_out (grant who p n) (passes_out past) ≡ true) → offset + length bytes ≤ v.parameters.size → HasRoomFor 1 v
      → IsCore c (with_next trail who (Write n p offset bytes lsn) Done) (record x { frames = with_changed x.frames p (written_on offset bytes lsn) })
  keeps-write who p n offset bytes lsn known fits room =
      let out = at (λ q past. is_out (grant who p n) (passes_out past) ≡ true) known in
      record {
        agrees = agrees-write c trail.past (parts_of x) core.agrees who p n offset bytes lsn out (given (λ q. offset + length bytes ≤ q.size) fits);
        candidates = stay c trail.past x.frames.candidates core.candidates _ (λ q. refl);
        trail_room = longer c _ core.trail_room _ (omega (arith, at-room c trail x core v is 1 room)) (omega arith) (omega arith);
        opening = core.opening;
        placed = core.placed;
        numbers = core.numbers;
        pass_room = core.pass_room;
        frame_room = core.frame_room;
      }

  pub keeps-hit : (who p : ℕ) → who < v.parameters.clients → p < v.parameters.pages → EachPast v (λ past. resident past p ≡ true) → HasRoomFor 3 v
      → (ps : Given) → ps.out ≡ x.passes.out → length x.reads.out + 1 ≤ ps.room
      → (h : Blocks) → SameSettings x.histories h → ((refs : List Reference) → IsTimed refs → HasStampsOf x.histories p refs → HasStampsOf h p (hit x.clock ∷ refs)) → ((q : ℕ) → q ≢ p → SameAt x.histories h q) → is_held h p ≡ true → latest_of h p ≡ x.clock → KeepsPlaces x.histories h
      → (e : Entered) → SameLimits x.frames.candidates e → (NoPageTwice x.frames.candidates.entries → NoPageTwice e.entries) → ((q : ℕ) → q ≢ p → entry_of e q ≡ entry_of x.frames.candidates q) → entry_of e p ≡ None
      → IsCore c (with_next trail who (Fix p) (Hit x.passes_given)) (record x { passes_given = x.passes_given + 1; passes = with_grant ps who p x.passes_given; frames = record (with_changed x.frames p pinned) { candidates = e }; histories = h })
  keeps-hit who p client page here room ps same ready h settings stamps others kept newest places e limits pages leaves gone =
      let a = core.agrees in
      let refs = references c trail.past p in
      let stamped = subst (λ t. HasStampsOf h p (hit t ∷ refs)) a.observed.clock_is (stamps refs (references-timed c trail.past p).timed (a.observed.stamps_are p)) in
      let next = agrees-hit c trail.past (parts_of x) a who p h (lt-ltb who c.clients (given (λ q. who < q.clients) client)) (lt-ltb p c.pages (given (λ q. p < q.pages) page)) (at (λ q past. resident past p ≡ true) here) settings stamped others kept (omega (arith, newest, a.observed.clock_is)) in
      let was = held-here c trail.past (parts_of x) a in
      let moved = rehoused c _ _ next (place_of h) (λ q here. place-kept x.histories h places q (was q here) (held-here c _ _ next q here)) in
      record {
        agrees = rw same moved;
        candidates = move-hit c trail.past x.frames.candidates core.candidates e limits pages p leaves who x.passes_given gone;
        trail_room = longer c _ core.trail_room _ (omega (arith, at-room c trail x core v is 3 room)) (omega arith) (omega arith);
        opening = core.opening;
        placed = placed-after x.histories h places core.placed (held-before x.histories h p others (was p (at (λ q past. resident past p ≡ true) here)));
        numbers = record { of_pass = omega arith; of_read = core.numbers.of_read; of_write = core.numbers.of_write };
        pass_room = record { reserved = omega (arith, ready) };
        frame_room = core.frame_room;
      }
