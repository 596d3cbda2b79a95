-- A core stays one as a read of a page begins and ends.
use Rattle.std.specs.Prelude.{IsSome}
use Rattle.std.proofs.Common.{◌≡◌, ◌≢◌, ℕ, ◌+◌, ◌<◌, ◌≤◌, true, false, List, ◌∷◌, length, filter, Some, None, refl, sym, ◌∙◌, ap, subst, arith}
use Rattle.std.specs.Prelude.{not, ◌==◌, ◌||◌}
use Rattle.std.specs.List.Sorted.{IsPermutation}
use Rattle.std.proofs.lemmas.Bool.{lt-ltb, ltb-true, or_left, or_right, true≢false}
use Rattle.bp_references.specs.Burst.{Reference}
use Rattle.bp_references.specs.Burst.Reference.{fault}
use Rattle.bp_references.specs.Stamp.{IsTimed}
use Rattle.bp_references.specs.Candidates.{Entered, entry_of, NoPageTwice, SameLimits}
use Rattle.bp_replacer.specs.Histories.{Blocks, latest_of, is_held, place_of, HasStampsOf, SameAt, SameStampsAt, SameSettings, KeepsPlaces}
use Rattle.bp_trail.specs.declared.entries.Call.TheVariants.{Fix, ReadEnd}
use Rattle.bp_trail.specs.declared.entries.Reply.TheVariants.{Load, Fixed, ReadFailed}
use Rattle.bp_trail.specs.Passes.{reads_out}
use Rattle.bp_trail.specs.Places.{loading, resident, residents}
use Rattle.bp_trail.specs.Saved.{unsaved}
use Rattle.bp_trail.specs.References.{references}
use Rattle.bp_trail.specs.Victim.{victim}
use Rattle.bp_trail.specs.PageMap.{has_free_frame}
use Rattle.bp_trail.specs.Legal.{is_out}
use Rattle.bp_frames.specs.Frames.{is_frame_of, loaded_with, without_page}
use Rattle.bp_trail.specs.Lists.{some}
use Rattle.bp_frames.specs.Tables.{Table}
use Rattle.bp_trail.proofs.Serials.{numbered}
use Rattle.bp_trail.proofs.Places.{places, out-of_page}
use Rattle.bp_trail.proofs.Victim.{victim-is, candidate-resident}
use Rattle.bp_core.proofs.Seen.{resident_seen, occupied_is}
use Rattle.bp_trail.proofs.Residents.{reads-rest}
use Rattle.bp_trail.proofs.Timed.{references-timed}
use Rattle.bp_core.proofs.Placed.{place-kept, placed-after, placed-prepared, held-before, stayed-here, held-here, rehoused}
use Rattle.bp_core.proofs.CandidateSteps.{stay, stay-end_load, move-evict}
use Rattle.bp_core.proofs.StampsKept.{unprepared, same-after, settings-after}
use Rattle.bp_core.proofs.ReadSteps.{agrees-load, agrees-evict, agrees-failed, agrees-fixed}
use Rattle.bp_core.specs.declared.state.State.{State}
use Rattle.bp_trail.specs.Parameters.{Parameters}
use Rattle.bp_trail.specs.Event.{grant}
use Rattle.bp_trail.specs.Trail.{Trail}
use Rattle.bp_core.specs.CoreView.{CoreView, EachPast, HasRoomFor}
use Rattle.bp_keeper.specs.Kept.{Kept, with_next}
use Rattle.bp_frames.specs.GrantLists.{Given, with_grant, GivesAsMuch}
use Rattle.bp_core.specs.Agreement.{parts_of, HasCandidates, IsCore, view_of}
use Rattle.bp_trail.proofs.Ranges.{ranges}
use Rattle.bp_core.proofs.Keeps.{longer, at-past, at-parameters, at-room}

module _ (c : Parameters) (trail : Kept) (x : State) (core : IsCore c trail x) (v : CoreView) (is : view_of c trail ≡ v) (who p : ℕ) where
  at : (P : Parameters → Trail → Type 0) → EachPast v (P v.parameters) → P c trail.past
  at = at-past c trail x core v is

  given : (P : Parameters → Type 0) → P v.parameters → P c
  given = at-parameters c trail x core v is

  -- ---- the victim is another page, and is resident
  module _ (gone : ℕ) (chosen : EachPast v (λ past. victim v.parameters past ≡ Some gone)) where
    victim-resident : resident trail.past gone ≡ true
    victim-resident = candidate-resident c trail.past gone (victim-is c trail.past gone (at (λ q past. victim q past ≡ Some gone) chosen)).eligible

    pub victim-here : some (is_frame_of gone) x.frames.frames ≡ true
    victim-here = resident_seen c trail.past (parts_of x) core.agrees gone ∙ victim-resident

    pub victim-apart : EachPast v (λ past. resident past p ≡ false) → gone ≢ p
    victim-apart away e = true≢false (sym victim-resident ∙ ap (resident trail.past) e ∙ at (λ q past. resident past p ≡ false) away)

    pub victim-held : is_held x.histories gone ≡ true
    victim-held = core.agrees.observed.held_is gone ∙ or_left (resident trail.past gone) (loading trail.past gone) victim-resident

  -- ---- a page that is asked for while it is neither resident nor loading
  pub free-frame : EachPast v (λ past. has_free_frame v.parameters past ≡ true) → length x.frames.frames + length x.reads.out < c.frames
  free-frame frame = omega (arith, occupied_is c trail.past (parts_of x) core.agrees, ltb-true (length (residents trail.past) + length (reads_out trail.past)) c.frames (at (λ q past. has_free_frame q past ≡ true) frame))

  pub not-held : EachPast v (λ past. loading past p ≡ false) → EachPast v (λ past. resident past p ≡ false) → is_held x.histories p ≡ false
  not-held idle away =
      core.agrees.observed.held_is p
      ∙ ap (λ b. b || loading trail.past p) (at (λ q past. resident past p ≡ false) away)
      ∙ at (λ q past. loading past p ≡ false) idle

  -- ---- a read begins
  module _ (client : who < v.parameters.clients) (page : p < v.parameters.pages) (idle : EachPast v (λ past. loading past p ≡ false)) (away : EachPast v (λ past. resident past p ≡ false)) (room : HasRoomFor 3 v) (ps : Given) (same : ps.out ≡ x.passes.out) (more : GivesAsMuch x.passes ps) (ready : length x.reads.out + 1 ≤ ps.room) (rs : Given) (same_reads : rs.out ≡ x.reads.out) where
    pub keeps-load : EachPast v (λ past. has_free_frame v.parameters past ≡ true) → (fs : Table) → fs.frames ≡ x.frames.frames → fs.size ≡ x.frames.size → fs.capacity ≡ x.frames.capacity → fs.pages ≡ x.frames.pages → fs.candidates ≡ x.frames.candidates → length x.reads.out < fs.empty_frames
        → (h : Blocks) → SameSettings x.histories h → SameStampsAt x.histories h p → ((q : ℕ) → q ≢ p → SameAt x.histories h q) → is_held h p ≡ true → KeepsPlaces x.histories h → IsSome (place_of h p)
        → IsCore c (with_next trail who (Fix p) (Load x.tickets_given None)) (record x { tickets_given = x.tickets_given + 1; reads = with_grant rs who p x.tickets_given; passes = ps; frames = fs; histories = h })
    keeps-load frame fs frames size capacity in_file same_candidates empty_frames h settings stamps others kept places place =
        let next = agrees-load c trail.past (parts_of x) core.agrees who p (lt-ltb who c.clients (given (λ q. who < q.clients) client)) (lt-ltb p c.pages (given (λ q. p < q.pages) page))
        (at (λ q past. loading past p ≡ false) idle) (at (λ q past. resident past p ≡ false) away) h settings (unprepared x.histories h p stamps others)
        (at (λ q past. has_free_frame q past ≡ true) frame) kept (λ q n. (others q n).held) in
        let moved = rehoused c _ _ next (place_of h) (λ q here. place-kept x.histories h places q (held-here c trail.past (parts_of x) core.agrees q here) (held-here c _ _ next q here)) in
        record {
          agrees = rw (same, same_reads, frames) moved;
          candidates = subst (HasCandidates c (with_next trail who (Fix p) (Load x.tickets_given None)).past) (sym same_candidates) (stay c trail.past x.frames.candidates core.candidates _ (λ q. refl));
          trail_room = longer c _ core.trail_room _ (omega (arith, at-room c trail x core v is 3 room)) (omega arith) (omega arith);
          opening = core.opening;
          placed = placed-prepared x.histories h p others places core.placed place;
          numbers = record { of_pass = omega (arith, more.next, core.numbers.of_pass); of_read = omega arith; of_write = omega (arith, core.numbers.of_write) };
          pass_room = record { reserved = omega (arith, ready, ap length same_reads) };
          frame_room = record { few = core.frame_room.few; reserved = omega (arith, empty_frames, ap length same_reads); size_is = omega (arith, size, core.frame_room.size_is); capacity_is = omega (arith, capacity, core.frame_room.capacity_is); pages_is = omega (arith, in_file, core.frame_room.pages_is) };
        }

    pub keeps-replace : (gone : ℕ) (ws : List ℕ) → EachPast v (λ past. has_free_frame v.parameters past ≡ false) → EachPast v (λ past. victim v.parameters past ≡ Some gone) → EachPast v (λ past. unsaved past gone ≡ false)
        → (e : Entered) → SameLimits x.frames.candidates e → (NoPageTwice x.frames.candidates.entries → NoPageTwice e.entries) → ((q : ℕ) → q ≢ gone → entry_of e q ≡ entry_of x.frames.candidates q) → entry_of e gone ≡ None
        → (g h : Blocks) → SameSettings x.histories g → SameStampsAt x.histories g p → ((q : ℕ) → q ≢ p → SameAt x.histories g q) → is_held g p ≡ true → KeepsPlaces x.histories g → IsSome (place_of g p)
        → SameSettings g h → SameStampsAt g h gone → ((q : ℕ) → q ≢ gone → SameAt g h q) → is_held h gone ≡ false → KeepsPlaces g h
        → IsCore c (with_next trail who (Fix p) (Load x.tickets_given (Some gone)))
        (record x { tickets_given = x.tickets_given + 1; reads = with_grant rs who p x.tickets_given; passes = ps; frames = record x.frames { frames = without_page gone x.frames.frames; empty_frames = x.frames.empty_frames + 1; places = ws; candidates = e }; histories = h })
    keeps-replace gone ws full chosen saved e limits pages leaves out g h g_settings g_stamps g_others g_kept g_places g_place h_settings h_stamps h_others h_gone h_places =
        let apart = victim-apart gone chosen away in
        let first = unprepared x.histories g p g_stamps g_others in
        let second = unprepared g h gone h_stamps h_others in
        let next = agrees-evict c trail.past (parts_of x) core.agrees who p (lt-ltb who c.clients (given (λ q. who < q.clients) client)) (lt-ltb p c.pages (given (λ q. p < q.pages) page))
        (at (λ q past. loading past p ≡ false) idle) (at (λ q past. resident past p ≡ false) away) h (settings-after x.histories g h g_settings h_settings) (λ q. same-after x.histories g h q (first q) (second q))
        gone (at (λ q past. has_free_frame q past ≡ false) full) (at (λ q past. victim q past ≡ Some gone) chosen) (at (λ q past. unsaved past gone ≡ false) saved)
        ((h_others p (λ e. apart (sym e))).held ∙ g_kept) h_gone (λ q n m. (h_others q m).held ∙ (g_others q n).held) in
        let was = held-here c trail.past (parts_of x) core.agrees in
        let still : (q : ℕ) → resident trail.past q ≡ true → is_held g q ≡ true = λ q here. (g_others q (λ e. true≢false (sym here ∙ ap (resident trail.past) e ∙ at (λ q past. resident past p ≡ false) away))).held ∙ was q here in
        let moved = rehoused c _ _ next (place_of h) (λ q here.
        let before = stayed-here trail.past gone q here in
        place-kept g h h_places q (still q before) (held-here c _ _ next q here) ∙ place-kept x.histories g g_places q (was q before) (still q before)) in
        record {
          agrees = rw (same, same_reads) moved;
          candidates = move-evict c trail.past x.frames.candidates core.candidates e limits pages gone leaves who p x.tickets_given out;
          trail_room = longer c _ core.trail_room _ (omega (arith, at-room c trail x core v is 3 room)) (omega arith) (omega arith);
          opening = core.opening;
          placed = placed-after g h h_places (placed-prepared x.histories g p g_others g_places core.placed g_place) (held-before g h gone h_others ((g_others gone apart).held ∙ victim-held gone chosen));
          numbers = record { of_pass = omega (arith, more.next, core.numbers.of_pass); of_read = omega arith; of_write = omega (arith, core.numbers.of_write) };
          pass_room = record { reserved = omega (arith, ready, ap length same_reads) };
          frame_room = record { few = core.frame_room.few; reserved = omega (arith, core.frame_room.reserved, ap length same_reads); size_is = core.frame_room.size_is; capacity_is = core.frame_room.capacity_is; pages_is = core.frame_room.pages_is };
        }

  -- ---- a read ends
  module _ (t : ℕ) (known : EachPast v (λ past. is_out (grant who p t) (reads_out past) ≡ true)) where
    out-now : is_out (grant who p t) (reads_out trail.past) ≡ true
    out-now = at (λ q past. is_out (grant who p t) (reads_out past) ≡ true) known

    -- its page is held, and has no frame
    pub held-now : is_held x.histories p ≡ true
    held-now = core.agrees.observed.held_is p ∙ or_right (resident trail.past p) (loading trail.past p) (out-of_page who p t (reads_out trail.past) out-now)

    absent : resident trail.past p ≡ false
    absent = (places c trail.past core.agrees.legal).away p (out-of_page who p t (reads_out trail.past) out-now)

    pub in-file : p < x.frames.pages
    in-file = omega (arith, ltb-true p c.pages ((ranges c trail.past core.agrees.legal).reads p (out-of_page who p t (reads_out trail.past) out-now)), core.frame_room.pages_is)

    pub absent-now : some (is_frame_of p) x.frames.frames ≡ false
    absent-now = resident_seen c trail.past (parts_of x) core.agrees p ∙ absent

    fewer : length (reads_out trail.past) ≡ length (filter (λ g. not (g.serial == t)) (reads_out trail.past)) + 1
    fewer = omega (arith, reads-rest who p t (reads_out trail.past) (numbered c trail.past core.agrees.legal).reads_once out-now)

    fewer-kept : length x.reads.out ≡ length (filter (λ g. not (g.serial == t)) x.reads.out) + 1
    fewer-kept = subst (λ gs. length gs ≡ length (filter (λ g. not (g.serial == t)) gs) + 1) (sym core.agrees.observed.reads_is) fewer

    pub keeps-fail_load : (rs : Given) → rs.out ≡ filter (λ g. not (g.serial == t)) x.reads.out → GivesAsMuch x.reads rs → (h : Blocks) → SameSettings x.histories h → SameStampsAt x.histories h p → ((q : ℕ) → q ≢ p → SameAt x.histories h q) → is_held h p ≡ false → KeepsPlaces x.histories h
        → IsCore c (with_next trail who (ReadEnd t p None) ReadFailed) (record x { reads = rs; histories = h })
    keeps-fail_load rs left more h settings stamps others gone places =
        let next = agrees-failed c trail.past (parts_of x) core.agrees who p t out-now h settings (unprepared x.histories h p stamps others) gone (λ q n. (others q n).held) in
        record {
          agrees = rw left (rehoused c _ _ next (place_of h) (λ q here. place-kept x.histories h places q (held-here c trail.past (parts_of x) core.agrees q here) (held-here c _ _ next q here)));
          candidates = stay c trail.past x.frames.candidates core.candidates _ (λ q. refl);
          trail_room = longer c _ core.trail_room _ (omega (arith, core.trail_room.owed, fewer)) (omega arith) (omega arith);
          opening = core.opening;
          placed = placed-after x.histories h places core.placed (held-before x.histories h p others held-now);
          numbers = record { of_pass = core.numbers.of_pass; of_read = omega (arith, more.next, core.numbers.of_read); of_write = core.numbers.of_write };
          pass_room = record { reserved = omega (arith, core.pass_room.reserved, fewer-kept, ap length left) };
          frame_room = record { few = core.frame_room.few; reserved = omega (arith, core.frame_room.reserved, fewer-kept, ap length left); size_is = core.frame_room.size_is; capacity_is = core.frame_room.capacity_is; pages_is = core.frame_room.pages_is };
        }

    pub keeps-end_load : (rs : Given) → rs.out ≡ filter (λ g. not (g.serial == t)) x.reads.out → GivesAsMuch x.reads rs → (block : ℕ) → place_of x.histories p ≡ Some block → (image : List ℕ) → length image ≡ v.parameters.size → (fs : Table) → IsPermutation (loaded_with p block image ∷ x.frames.frames) fs.frames → fs.empty_frames + 1 ≡ x.frames.empty_frames → fs.size ≡ x.frames.size → fs.capacity ≡ x.frames.capacity → fs.pages ≡ x.frames.pages → fs.candidates ≡ x.frames.candidates
        → (h : Blocks) → SameSettings x.histories h → ((refs : List Reference) → IsTimed refs → HasStampsOf x.histories p refs → HasStampsOf h p (fault x.clock ∷ refs)) → ((q : ℕ) → q ≢ p → SameAt x.histories h q) → is_held h p ≡ true → latest_of h p ≡ x.clock → KeepsPlaces x.histories h
        → IsCore c (with_next trail who (ReadEnd t p (Some image)) (Fixed x.passes_given))
        (record x { passes_given = x.passes_given + 1; passes = with_grant x.passes who p x.passes_given; reads = rs; frames = fs; histories = h })
    keeps-end_load rs left more block place image fits fs moved empty_frames size capacity in_file same_candidates h settings stamps others kept newest places =
        let a = core.agrees in
        let refs = references c trail.past p in
        let stamped = subst (λ u. HasStampsOf h p (fault u ∷ refs)) a.observed.clock_is (stamps refs (references-timed c trail.past p).timed (a.observed.stamps_are p)) in
        let next = agrees-fixed c trail.past (parts_of x) a who p t out-now h settings block place image (given (λ q. length image ≡ q.size) fits) fs.frames moved stamped others kept (omega (arith, newest, a.observed.clock_is)) in
        let was = held-before x.histories h p others held-now in
        record {
          agrees = rw left (rehoused c _ _ next (place_of h) (λ q here. let holds = held-here c _ _ next q here in place-kept x.histories h places q (was q holds) holds));
          candidates = subst (HasCandidates c (with_next trail who (ReadEnd t p (Some image)) (Fixed x.passes_given)).past) (sym same_candidates) (stay-end_load c trail.past x.frames.candidates core.candidates who t p x.passes_given image absent);
          trail_room = longer c _ core.trail_room _ (omega (arith, core.trail_room.owed, fewer)) (omega arith) (omega arith);
          opening = core.opening;
          placed = placed-after x.histories h places core.placed was;
          numbers = record { of_pass = omega arith; of_read = omega (arith, more.next, core.numbers.of_read); of_write = core.numbers.of_write };
          pass_room = record { reserved = omega (arith, core.pass_room.reserved, fewer-kept, ap length left) };
          frame_room = record { few = core.frame_room.few; reserved = omega (arith, core.frame_room.reserved, fewer-kept, empty_frames, ap length left); size_is = omega (arith, size, core.frame_room.size_is); capacity_is = omega (arith, capacity, core.frame_room.capacity_is); pages_is = omega (arith, in_file, core.frame_room.pages_is) };
        }
