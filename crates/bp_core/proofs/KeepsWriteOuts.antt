-- A core stays one as a write-out of a page begins and ends.
use Rattle.std.proofs.Common.{◌≡◌, ℕ, ◌+◌, ◌<◌, true, false, length, filter, sym, ◌∙◌, arith, ◌≢◌, Bool, if◌then◌else◌, Some, None, refl, ap, subst}
use Rattle.std.specs.Prelude.{not, ◌==◌, ◌&&◌, Contains}
use Rattle.std.proofs.lemmas.Bool.{lt-ltb, eq-eqb, true≢false}
use Rattle.bp_references.specs.Candidates.{Entered, entry_of, NoPageTwice, SameLimits}
use Rattle.bp_replacer.specs.Histories.{place_of, stamp_of, last_of}
use Rattle.bp_trail.specs.declared.entries.Call.{Call}
use Rattle.bp_trail.specs.declared.entries.Call.TheVariants.{WriteEnd}
use Rattle.bp_trail.specs.declared.entries.Reply.TheVariants.{WriteFirst, Cleaned, StillDirty, WriteFailed}
use Rattle.bp_trail.specs.Passes.{tickets, writes_out, pins, is_of}
use Rattle.bp_trail.specs.Lists.{some}
use Rattle.bp_trail.specs.References.{references}
use Rattle.bp_trail.specs.Places.{resident, writing}
use Rattle.bp_trail.specs.Saved.{written_since}
use Rattle.bp_trail.specs.Images.{held}
use Rattle.bp_trail.specs.PageMap.{reply_of}
use Rattle.bp_trail.specs.Legal.{is_out, allowed}
use Rattle.bp_frames.specs.declared.frame.Frame.{Frame}
use Rattle.bp_frames.specs.Frames.{is_unused, changed_at, saving, saved, not_saved}
use Rattle.bp_frames.specs.Tables.{with_changed}
use Rattle.bp_core.specs.Outcomes.{IsBegin}
use Rattle.bp_core.specs.Outcomes.IsBegin.{by_fix, by_flush}
use Rattle.bp_core.specs.Agreement.{rewritten, frame_of, HasCandidates, HasTrailRoom}
use Rattle.bp_trail.proofs.Serials.{numbered, rest}
use Rattle.bp_trail.proofs.Places.{out-of_page}
use Rattle.bp_trail.proofs.Ranges.{stays}
use Rattle.bp_trail.proofs.Residents.{reads-rest}
use Rattle.bp_core.proofs.WriteSteps.{agrees-begin, agrees-cleaned, agrees-still_dirty, agrees-write_failed, written-seen, landed, still}
use Rattle.bp_core.proofs.Seen.{ranked, resident_seen}
use Rattle.bp_frames.specs.Frames.{is_frame_of}
use Rattle.bp_core.proofs.Uses.{frame-after}
use Rattle.bp_core.proofs.CandidateSteps.{no-entry, move-begin, move-write_end}
use Rattle.bp_core.specs.declared.state.State.{State}
use Rattle.bp_trail.specs.Parameters.{Parameters}
use Rattle.bp_trail.specs.Event.{grant}
use Rattle.bp_trail.specs.Trail.{Trail}
use Rattle.bp_core.specs.CoreView.{CoreView, EachPast, HasRoomFor}
use Rattle.bp_keeper.specs.Kept.{Kept, with_next}
use Rattle.bp_frames.specs.GrantLists.{Given, with_grant, GivesAsMuch}
use Rattle.bp_core.specs.Agreement.{parts_of, IsCore, view_of}
use Rattle.bp_core.proofs.Keeps.{longer, at-past, at-parameters, at-room}

module _ (c : Parameters) (trail : Kept) (x : State) (core : IsCore c trail x) (v : CoreView) (is : view_of c trail ≡ v) (who : ℕ) where
  at : (P : Parameters → Trail → Type 0) → EachPast v (P v.parameters) → P c trail.past
  at = at-past c trail x core v is

  given : (P : Parameters → Type 0) → P v.parameters → P c
  given = at-parameters c trail x core v is

  pub keeps-begin : (call : Call) (p : ℕ) → IsBegin call → who < v.parameters.clients → EachPast v (λ past. allowed v.parameters past who call ≡ true) → EachPast v (λ past. WriteFirst (tickets past) p (held past p) ≡ reply_of v.parameters past call) → HasRoomFor 2 v
      → (ws : Given) → ws.out ≡ x.writes.out
      → (e : Entered) → SameLimits x.frames.candidates e → (NoPageTwice x.frames.candidates.entries → NoPageTwice e.entries) → ((q : ℕ) → q ≢ p → entry_of e q ≡ entry_of x.frames.candidates q) → entry_of e p ≡ None
      → IsCore c (with_next trail who call (WriteFirst x.tickets_given p (held trail.past p))) (record x { tickets_given = x.tickets_given + 1; writes = with_grant ws who p x.tickets_given; frames = record (with_changed x.frames p saving) { candidates = e } })
  keeps-begin call p begins client may lawful room ws same e limits pages leaves gone =
      let next = agrees-begin c trail.past (parts_of x) core.agrees who p (lt-ltb who c.clients (given (λ q. who < q.clients) client)) call begins (at (λ q past. allowed q past who call ≡ true) may)
      (at (λ q past. WriteFirst (tickets past) p (held past p) ≡ reply_of q past call) lawful) in
      record {
        agrees = rw same next;
        candidates = move-begin c trail.past x.frames.candidates core.candidates e limits pages p leaves who call x.tickets_given (held trail.past p) begins gone;
        trail_room = roomy call begins;
        opening = core.opening;
        placed = core.placed;
        numbers = record { of_pass = core.numbers.of_pass; of_read = omega (arith, core.numbers.of_read); of_write = omega arith };
        pass_room = core.pass_room;
        frame_room = core.frame_room;
      }
    where
      roomy : (call : Call) → IsBegin call → HasTrailRoom c (with_next trail who call (WriteFirst x.tickets_given p (held trail.past p)))
      roomy _ (by_fix q) = longer c _ core.trail_room _ (omega (arith, at-room c trail x core v is 2 room)) (omega arith) (omega arith)
      roomy _ (by_flush q) = longer c _ core.trail_room _ (omega (arith, at-room c trail x core v is 2 room)) (omega arith) (omega arith)

  module _ (p t : ℕ) (known : EachPast v (λ past. is_out (grant who p t) (writes_out past) ≡ true)) where
    out-now : is_out (grant who p t) (writes_out trail.past) ≡ true
    out-now = at (λ q past. is_out (grant who p t) (writes_out past) ≡ true) known

    fewer : length (writes_out trail.past) ≡ length (filter (λ g. not (g.serial == t)) (writes_out trail.past)) + 1
    fewer = omega (arith, reads-rest who p t (writes_out trail.past) (numbered c trail.past core.agrees.legal).writes_once out-now)

    -- its page is resident
    pub here-now : EachPast v (λ past. resident past p ≡ false) → ⊥
    here-now away = true≢false (sym (stays c trail.past core.agrees.legal p (out-of_page who p t (writes_out trail.past) out-now)) ∙ at (λ q past. resident past p ≡ false) away)

    pub frame-here : some (is_frame_of p) x.frames.frames ≡ true
    frame-here = resident_seen c trail.past (parts_of x) core.agrees p ∙ stays c trail.past core.agrees.legal p (out-of_page who p t (writes_out trail.past) out-now)

    -- whether nobody uses it any longer, once the write-out ends
    pub idle-after : (change : Frame → Frame) → ((f : Frame) → (change f).page ≡ f.page) → ((f : Frame) → (change f).pins ≡ f.pins) → ((f : Frame) → (change f).is_writing ≡ false) → (f : Frame) → Contains (changed_at p change x.frames.frames) f → f.page ≡ p → EachPast v (λ past. is_unused f ≡ (pins past p == 0))
    idle-after change same pins_same landed f here page =
        let was = frame_of trail.past p (place_of x.histories p) in
        subst (λ u. EachPast u (λ past. is_unused f ≡ (pins past p == 0))) is
        (ap is_unused (frame-after c trail x core p change same f here page) ∙ (λ i. (pins_same was i == 0) && not (landed was i)) ∙ and-true (pins trail.past p == 0))
      where
        and-true : (b : Bool) → (b && true) ≡ b
        and-true true = refl
        and-true false = refl

    since : rewritten trail.past p ≡ written_since trail.past t p
    since = written-seen c trail.past (parts_of x) core.agrees who t p out-now

    -- its page is entered among the candidates if no pass of it is out
    module _ (ws : Given) (left : ws.out ≡ filter (λ g. not (g.serial == t)) x.writes.out) (more : GivesAsMuch x.writes ws) (unused_now : Bool) (idle : EachPast v (λ past. unused_now ≡ (pins past p == 0))) (e : Entered) (limits : SameLimits x.frames.candidates e) (pages : NoPageTwice x.frames.candidates.entries → NoPageTwice e.entries) (others : (q : ℕ) → q ≢ p → entry_of e q ≡ entry_of x.frames.candidates q)
        (entered : entry_of e p ≡ (if unused_now then Some (stamp_of x.histories p c.k, last_of x.histories p) else entry_of x.frames.candidates p)) where
      ended : (later : Trail) → ((q : ℕ) → resident later q ≡ resident trail.past q) → ((q : ℕ) → pins later q ≡ pins trail.past q) → ((q : ℕ) → references c later q ≡ references c trail.past q)
          → writing later p ≡ some (is_of p) (rest t (writes_out trail.past)) → ((q : ℕ) → writing later q ≡ some (is_of q) (rest t (writes_out trail.past))) → HasCandidates c later e
      ended later r n f landing flying = move-write_end c trail.past x.frames.candidates core.candidates e limits pages p others later r n f (out-of_page who p t (writes_out trail.past) out-now)
          (landing ∙ landed c trail.past (parts_of x) core.agrees who t p out-now p (eq-eqb p p refl)) (λ q apart. flying q ∙ still c trail.past (parts_of x) core.agrees who t p out-now q apart) (stays c trail.past core.agrees.legal p (out-of_page who p t (writes_out trail.past) out-now))
          (entered ∙ (λ i. if at (λ q past. unused_now ≡ (pins past p == 0)) idle i then Some (ranked c trail.past (parts_of x) core.agrees p i) else entry_of x.frames.candidates p))

      pub keeps-cleaned : EachPast v (λ past. rewritten past p ≡ false)
          → IsCore c (with_next trail who (WriteEnd t p true) Cleaned) (record x { writes = ws; frames = record (with_changed x.frames p saved) { candidates = e } })
      keeps-cleaned none = record {
        agrees = rw left (agrees-cleaned c trail.past (parts_of x) core.agrees who t p out-now (sym since ∙ at (λ q past. rewritten past p ≡ false) none));
        candidates = ended _ (λ q. refl) (λ q. refl) (λ q. refl) refl (λ q. refl);
        trail_room = longer c _ core.trail_room _ (omega (arith, core.trail_room.owed, fewer)) (omega arith) (omega arith);
        opening = core.opening;
        placed = core.placed;
        numbers = record { of_pass = core.numbers.of_pass; of_read = core.numbers.of_read; of_write = omega (arith, more.next, core.numbers.of_write) };
        pass_room = core.pass_room;
        frame_room = core.frame_room;
      }

      pub keeps-still_dirty : EachPast v (λ past. rewritten past p ≡ true)
          → IsCore c (with_next trail who (WriteEnd t p true) StillDirty) (record x { writes = ws; frames = record (with_changed x.frames p saved) { candidates = e } })
      keeps-still_dirty some = record {
        agrees = rw left (agrees-still_dirty c trail.past (parts_of x) core.agrees who t p out-now (sym since ∙ at (λ q past. rewritten past p ≡ true) some));
        candidates = ended _ (λ q. refl) (λ q. refl) (λ q. refl) refl (λ q. refl);
        trail_room = longer c _ core.trail_room _ (omega (arith, core.trail_room.owed, fewer)) (omega arith) (omega arith);
        opening = core.opening;
        placed = core.placed;
        numbers = record { of_pass = core.numbers.of_pass; of_read = core.numbers.of_read; of_write = omega (arith, more.next, core.numbers.of_write) };
        pass_room = core.pass_room;
        frame_room = core.frame_room;
      }

      pub keeps-fail_write_out : IsCore c (with_next trail who (WriteEnd t p false) WriteFailed) (record x { writes = ws; frames = record (with_changed x.frames p not_saved) { candidates = e } })
      keeps-fail_write_out = record {
        agrees = rw left (agrees-write_failed c trail.past (parts_of x) core.agrees who t p out-now);
        candidates = ended _ (λ q. refl) (λ q. refl) (λ q. refl) refl (λ q. refl);
        trail_room = longer c _ core.trail_room _ (omega (arith, core.trail_room.owed, fewer)) (omega arith) (omega arith);
        opening = core.opening;
        placed = core.placed;
        numbers = record { of_pass = core.numbers.of_pass; of_read = core.numbers.of_read; of_write = omega (arith, more.next, core.numbers.of_write) };
        pass_room = core.pass_room;
        frame_room = core.frame_room;
      }
