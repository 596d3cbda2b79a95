-- A discard keeps all that a core promises of itself.
use Rattle.std.proofs.Common.{◌≡◌, ◌≢◌, ℕ, ◌+◌, ◌<◌, ◌≤◌, ◌==◌, ◌&&◌, not, Bool, true, false, List, [], None, refl, sym, ◌∙◌, ap, arith}
use Rattle.std.proofs.lemmas.Bool.{and_parts, lt-ltb, eqb-true, eqb-false, not-true, true≢false}
use Rattle.bp_references.specs.Candidates.{Entered, entry_of, NoPageTwice, SameLimits}
use Rattle.bp_replacer.specs.Histories.{Blocks, is_held, place_of, latest_of, HasStampsOf, SameAt, SameSettings, KeepsPlaces}
use Rattle.bp_trail.specs.declared.entries.Call.TheVariants.{Discard}
use Rattle.bp_trail.specs.declared.entries.Reply.TheVariants.{Absent, Discarded}
use Rattle.bp_trail.specs.Parameters.{Parameters}
use Rattle.bp_trail.specs.Trail.{Trail}
use Rattle.bp_trail.specs.Passes.{pins}
use Rattle.bp_trail.specs.Places.{resident, loading, writing}
use Rattle.bp_frames.specs.Frames.{is_frame_of, without_page}
use Rattle.bp_trail.specs.Lists.{some}
use Rattle.bp_keeper.specs.Kept.{Kept, with_next}
use Rattle.bp_core.specs.declared.state.State.{State}
use Rattle.bp_core.specs.CoreView.{CoreView, EachPast, HasRoomFor}
use Rattle.bp_core.specs.Agreement.{parts_of, unused, IsCore, view_of}
use Rattle.bp_core.proofs.Seen.{resident_seen}
use Rattle.bp_core.proofs.Placed.{place-kept, placed-after, held-before, stayed-here, held-here, rehoused}
use Rattle.bp_core.proofs.CandidateSteps.{stay-forget, move-discard}
use Rattle.bp_core.proofs.DiscardSteps.{agrees-forget, agrees-discard}
use Rattle.bp_core.proofs.Keeps.{longer, at-past, at-parameters, at-room}

-- a page that nobody uses is in a frame, with no pass out, and is not being written out
module _ (c : Parameters) (trail : Kept) (x : State) (core : IsCore c trail x) (v : CoreView) (is : view_of c trail ≡ v) (p : ℕ) (idle : EachPast v (λ past. unused past p ≡ true)) where
  parts : (resident trail.past p ≡ true) × (((pins trail.past p == 0) && not (writing trail.past p)) ≡ true)
  parts = and_parts (resident trail.past p) _ (at-past c trail x core v is (λ q past. unused past p ≡ true) idle)

  unpinned : pins trail.past p ≡ 0
  unpinned = eqb-true (pins trail.past p) 0 (and_parts (pins trail.past p == 0) _ parts.1).0

  landed : writing trail.past p ≡ false
  landed = not-true (writing trail.past p) (and_parts (pins trail.past p == 0) _ parts.1).1

  pub dropped-here : some (is_frame_of p) x.frames.frames ≡ true
  dropped-here = resident_seen c trail.past (parts_of x) core.agrees p ∙ parts.0

  pub dropped-held : is_held x.histories p ≡ true
  dropped-held = held-here c trail.past (parts_of x) core.agrees p parts.0

module _ (c : Parameters) (trail : Kept) (x : State) (core : IsCore c trail x) (v : CoreView) (is : view_of c trail ≡ v) (who p : ℕ) (client : who < v.parameters.clients) (page : p < v.parameters.pages) (idle : EachPast v (λ past. loading past p ≡ false)) (room : HasRoomFor 1 v) where
  at : (P : Parameters → Trail → Type 0) → EachPast v (P v.parameters) → P c trail.past
  at = at-past c trail x core v is

  given : (P : Parameters → Type 0) → P v.parameters → P c
  given = at-parameters c trail x core v is

  module _ (h : Blocks) (settings : SameSettings x.histories h) (stamps : HasStampsOf h p []) (others : (q : ℕ) → q ≢ p → SameAt x.histories h q) (gone : is_held h p ≡ false) (later : latest_of h p ≤ latest_of x.histories p) (places : KeepsPlaces x.histories h) where
    pub keeps-forget : EachPast v (λ past. resident past p ≡ false) → IsCore c (with_next trail who (Discard p) Absent) (record x { histories = h })
    keeps-forget away =
        let next = agrees-forget c trail.past (parts_of x) core.agrees who p (lt-ltb who c.clients (given (λ q. who < q.clients) client)) (lt-ltb p c.pages (given (λ q. p < q.pages) page)) (at (λ q past. loading past p ≡ false) idle) h settings stamps others gone later (at (λ q past. resident past p ≡ false) away) in
        let was = held-here c trail.past (parts_of x) core.agrees in
        let unheld : is_held x.histories p ≡ false = core.agrees.observed.held_is p ∙ rw (at (λ q past. resident past p ≡ false) away, at (λ q past. loading past p ≡ false) idle) refl in
        record {
          agrees = rehoused c _ _ next (place_of h) (λ q here. place-kept x.histories h places q (was q here) (held-here c _ _ next q here));
          candidates = stay-forget c trail.past x.frames.candidates core.candidates who p (at (λ q past. resident past p ≡ false) away);
          trail_room = longer c _ core.trail_room _ (omega (arith, at-room c trail x core v is 1 room)) (omega arith) (omega arith);
          opening = core.opening;
          placed = placed-after x.histories h places core.placed (held-after unheld);
          numbers = core.numbers;
          pass_room = core.pass_room;
          frame_room = core.frame_room;
        }
      where
        -- who is held after was held before
        held-after : is_held x.histories p ≡ false → (q : ℕ) → is_held h q ≡ true → is_held x.histories q ≡ true
        held-after unheld q holds = go (q == p) refl
          where
            go : (b : Bool) → (q == p) ≡ b → is_held x.histories q ≡ true
            go true e = absurd (true≢false (sym holds ∙ ap (is_held h) (eqb-true q p e) ∙ gone))
            go false e = sym (others q (eqb-false q p e)).held ∙ holds

    pub keeps-discard : EachPast v (λ past. unused past p ≡ true) → (ws : List ℕ) (e : Entered) → SameLimits x.frames.candidates e → (NoPageTwice x.frames.candidates.entries → NoPageTwice e.entries) → ((q : ℕ) → q ≢ p → entry_of e q ≡ entry_of x.frames.candidates q) → entry_of e p ≡ None
        → IsCore c (with_next trail who (Discard p) Discarded)
        (record x { frames = record x.frames { frames = without_page p x.frames.frames; empty_frames = x.frames.empty_frames + 1; places = ws; candidates = e }; histories = h })
    keeps-discard free ws e limits pages leaves out =
        let next = agrees-discard c trail.past (parts_of x) core.agrees who p (lt-ltb who c.clients (given (λ q. who < q.clients) client)) (lt-ltb p c.pages (given (λ q. p < q.pages) page)) (at (λ q past. loading past p ≡ false) idle) h settings stamps others gone later (parts c trail x core v is p free).0 (landed c trail x core v is p free) (unpinned c trail x core v is p free) in
        let was = held-here c trail.past (parts_of x) core.agrees in
        record {
          agrees = rehoused c _ _ next (place_of h) (λ q still. place-kept x.histories h places q (was q (stayed-here trail.past p q still)) (held-here c _ _ next q still));
          candidates = move-discard c trail.past x.frames.candidates core.candidates e limits pages p leaves who out;
          trail_room = longer c _ core.trail_room _ (omega (arith, at-room c trail x core v is 1 room)) (omega arith) (omega arith);
          opening = core.opening;
          placed = placed-after x.histories h places core.placed (held-before x.histories h p others (dropped-held c trail x core v is p free));
          numbers = core.numbers;
          pass_room = core.pass_room;
          frame_room = record { few = core.frame_room.few; reserved = omega (arith, core.frame_room.reserved); size_is = core.frame_room.size_is; capacity_is = core.frame_room.capacity_is; pages_is = core.frame_room.pages_is };
        }
