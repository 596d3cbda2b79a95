-- A core stays one as a page that is in a frame is fixed, read and unfixed at once.
use Rattle.std.proofs.Common.{◌≡◌, ◌≢◌, ℕ, suc, ◌+◌, ◌-◌, ◌<◌, ◌≤◌, Bool, true, false, if◌then◌else◌, List, [], ◌∷◌, length, filter, Some, None, refl, sym, ap, ◌∙◌, subst, arith}
use Rattle.std.specs.Prelude.{not, ◌==◌, ◌&&◌, Contains}
use Rattle.std.proofs.lemmas.Bool.Decides.{nat_tests}
use Rattle.std.proofs.lemmas.Bool.{eqb-true, eq-eqb, ne_eqb, true≢false}
use Rattle.bp_references.specs.Burst.{Reference}
use Rattle.bp_references.specs.Burst.Reference.{hit}
use Rattle.bp_references.specs.Stamp.{IsTimed}
use Rattle.bp_references.specs.Candidates.{Candidate, Entered, entry_of, find_entry, NoPageTwice, SameLimits}
use Rattle.bp_replacer.specs.Histories.{Blocks, latest_of, is_held, place_of, stamp_of, last_of, HasStampsOf, SameAt, SameSettings, KeepsPlaces}
use Rattle.bp_trail.specs.declared.entries.Call.TheVariants.{Fix, Read, Unfix}
use Rattle.bp_trail.specs.declared.entries.Reply.TheVariants.{Done, Hit, Content}
use Rattle.bp_trail.specs.Event.{Grant, grant}
use Rattle.bp_trail.specs.Images.{held}
use Rattle.bp_trail.specs.Legal.{is_out}
use Rattle.bp_trail.specs.Parameters.{Parameters}
use Rattle.bp_trail.specs.Passes.{passes_out, pins}
use Rattle.bp_trail.specs.Places.{resident, writing}
use Rattle.bp_trail.proofs.Serials.{AllBelow, numbered}
use Rattle.bp_frames.specs.declared.frame.Frame.{Frame}
use Rattle.bp_frames.specs.Frames.{is_frame_of, is_unused, changed_at, pinned, unpinned}
use Rattle.bp_frames.specs.GrantLists.{Given, with_grant}
use Rattle.bp_frames.specs.Tables.{with_changed}
use Rattle.bp_keeper.specs.Kept.{Kept, with_next}
use Rattle.bp_core.specs.declared.state.State.{State}
use Rattle.bp_core.specs.Agreement.{parts_of, unused, TellBlocks, IsCore, view_of}
use Rattle.bp_core.specs.CoreView.{CoreView, EachPast, HasRoomFor}
use Rattle.bp_core.specs.Outcomes.IsQuiet.{page_read}
use Rattle.bp_core.proofs.CandidateSteps.{no-entry}
use Rattle.bp_core.proofs.Changes.{pins-hit}
use Rattle.bp_core.proofs.Keeps.{at-past, at-parameters, at-room, keeps-quiet}
use Rattle.bp_core.proofs.KeepsPasses.{keeps-hit, keeps-unfix}
use Rattle.bp_core.proofs.Seen.{frame_in}
use Rattle.bp_core.proofs.Uses.{told-after}

-- a pass more and then one fewer leaves a frame as it was
back : (f : Frame) → unpinned (pinned f) ≡ f
back f = let e : f.pins + 1 - 1 ≡ f.pins = omega arith in ap (λ m. record f { pins = m }) e

pub unchanged : (p : ℕ) (fs : List Frame) → changed_at p unpinned (changed_at p pinned fs) ≡ fs
unfolding changed_at
unchanged p [] = refl
unchanged p (f ∷ fs) = ap (λ g. g ∷ changed_at p unpinned (changed_at p pinned fs)) (one (is_frame_of p f) refl) ∙ ap (λ gs. f ∷ gs) (unchanged p fs)
  where
    again : Frame → Frame
    again g = if is_frame_of p g then unpinned g else g

    one : (b : Bool) → is_frame_of p f ≡ b → again (if is_frame_of p f then pinned f else f) ≡ f
    one true e = ap (λ b. again (if b then pinned f else f)) e ∙ ap (λ b. if b then unpinned (pinned f) else pinned f) e ∙ back f
    one false e = ap (λ b. again (if b then pinned f else f)) e ∙ ap (λ b. if b then unpinned f else f) e

-- the candidates but for one page
abbrev but : ℕ → List Candidate → List Candidate
but p es = filter (λ e. not (e.2 == p)) es

gone : (p : ℕ) (es : List Candidate) → find_entry (but p es) p ≡ None
gone p [] = refl
gone p (e ∷ es) = go (e.2 == p) refl (gone p es)
  where
    go : (b : Bool) → (e.2 == p) ≡ b → find_entry (but p es) p ≡ None → find_entry (but p (e ∷ es)) p ≡ None
    go true is rest = rw is rest
    go false is rest = rw is (rw is rest)

others-stay : (p q : ℕ) (es : List Candidate) → q ≢ p → find_entry (but p es) q ≡ find_entry es q
others-stay p q [] other = refl
others-stay p q (e ∷ es) other = go (e.2 == p) refl (others-stay p q es other)
  where
    go : (b : Bool) → (e.2 == p) ≡ b → find_entry (but p es) q ≡ find_entry es q → find_entry (but p (e ∷ es)) q ≡ find_entry (e ∷ es) q
    go true is rest = rw (is, ne_eqb e.2 q (λ i. other (sym i ∙ eqb-true e.2 p is))) rest
    go false is rest = rw is (ap (λ o. if e.2 == q then Some (e.0, e.1) else o) rest)

once-still : (p : ℕ) (es : List Candidate) → NoPageTwice es → NoPageTwice (but p es)
once-still p [] once = tt
once-still p (e ∷ es) once = go (e.2 == p) refl (once-still p es once.1)
  where
    go : (b : Bool) → (e.2 == p) ≡ b → NoPageTwice (but p es) → NoPageTwice (but p (e ∷ es))
    go true is rest = rw is rest
    go false is rest = rw is (others-stay p e.2 es (λ i. let t : (e.2 == p) ≡ true = eq-eqb e.2 p i in absurd (true≢false (sym t ∙ is))) ∙ once.0, rest)

-- no grant with a number above those of all goes
left : (n : ℕ) (gs : List Grant) → AllBelow n gs → filter (λ g. not (g.serial == n)) gs ≡ gs
left n [] below = refl
left n (g ∷ gs) below = rw (ne_eqb g.serial n (λ e. let k = below.0 in absurd (omega (arith, k, e)))) (ap (λ l. g ∷ l) (left n gs below.1))

newest-out : (who p n : ℕ) (gs : List Grant) → is_out (grant who p n) (grant who p n ∷ gs) ≡ true
newest-out who p n gs = rw (eq-eqb who who refl, eq-eqb p p refl, eq-eqb n n refl) refl

newest-goes : (who p n : ℕ) (gs : List Grant) → AllBelow n gs → gs ≡ filter (λ g. not (g.serial == n)) (grant who p n ∷ gs)
newest-goes who p n gs below = rw (eq-eqb n n refl) (sym (left n gs below))

module _ (c : Parameters) (trail : Kept) (x : State) (core : IsCore c trail x) (v : CoreView) (is : view_of c trail ≡ v) (who p : ℕ) (client : who < v.parameters.clients) (page : p < v.parameters.pages) (here : EachPast v (λ past. resident past p ≡ true)) (room : HasRoomFor 3 v)
    (h : Blocks) (settings : SameSettings x.histories h) (stamps : (refs : List Reference) → IsTimed refs → HasStampsOf x.histories p refs → HasStampsOf h p (hit x.clock ∷ refs)) (others : (q : ℕ) → q ≢ p → SameAt x.histories h q) (kept : is_held h p ≡ true) (newest : latest_of h p ≡ x.clock) (places : KeepsPlaces x.histories h) where
  abbrev pub n : ℕ
  n = x.passes_given

  -- what the core would be once the page is fixed: the pass has a place of its own, and the page is no candidate
  abbrev ready : Given
  ready = record x.passes { room = x.passes.room + 1 }

  abbrev away : Entered
  away = record x.frames.candidates { entries = but p x.frames.candidates.entries }

  abbrev trail1 : Kept
  trail1 = with_next trail who (Fix p) (Hit n)

  abbrev x1 : State
  x1 = record x { passes_given = n + 1; passes = with_grant ready who p n; frames = record (with_changed x.frames p pinned) { candidates = away }; histories = h }

  fixed : IsCore c trail1 x1
  fixed = keeps-hit c trail x core v is who p client page here room ready refl (omega (arith, core.pass_room.reserved)) h settings stamps others kept newest places away (record { frames = refl; correlated = refl }) (once-still p x.frames.candidates.entries) (λ q other. others-stay p q x.frames.candidates.entries other) (gone p x.frames.candidates.entries)

  -- each frame tells where the block of its page is, before and after
  pub told-still : TellBlocks h x.frames.frames
  told-still = subst (TellBlocks h) (unchanged p x.frames.frames) (told-after c trail1 x1 fixed p unpinned (λ f. refl) (λ f. refl))

  pub keeps-read : (image : List ℕ) → image ≡ held trail.past p
      → (f : Frame) → Contains x.frames.frames f → f.page ≡ p
      → (e : Entered) → SameLimits x.frames.candidates e → (NoPageTwice x.frames.candidates.entries → NoPageTwice e.entries) → ((q : ℕ) → q ≢ p → entry_of e q ≡ entry_of x.frames.candidates q) → entry_of e p ≡ (if is_unused f then Some (stamp_of h p c.k, last_of h p) else entry_of x.frames.candidates p)
      → IsCore c (with_next (with_next (with_next trail who (Fix p) (Hit n)) who (Read n p) (Content image)) who (Unfix n p) Done) (record x { passes_given = n + 1; frames = record x.frames { candidates = e }; histories = h })
  keeps-read image held_is f in_list of_page e limits pages apart entered =
      let read = keeps-quiet c trail1 x1 fixed (view_of c trail1) refl who (Read n p) (Content image) (page_read n p image) (at-parameters c trail x core v is (λ q. who < q.clients) client) out1 (ap Content held_is) (omega (arith, at-room c trail x core v is 3 room, core.trail_room.counted)) in
      subst (λ fs. IsCore c (with_next trail2 who (Unfix n p) Done) (record x { passes_given = n + 1; frames = record x.frames { frames = fs; candidates = e }; histories = h })) (unchanged p x.frames.frames)
      (keeps-unfix c trail2 x1 read (view_of c trail2) refl who p n out1 (is_unused f) last_one e (record { frames = limits.frames; correlated = limits.correlated }) (λ once. pages core.candidates.once) (λ q other. apart q other ∙ sym (others-stay p q x.frames.candidates.entries other)) (in_use (is_unused f) refl) x.passes goes (record { room = omega arith; next = omega (arith, core.numbers.of_pass) }))
    where
      trail2 : Kept
      trail2 = with_next trail1 who (Read n p) (Content image)

      out1 : is_out (grant who p n) (passes_out trail1.past) ≡ true
      out1 = newest-out who p n (passes_out trail.past)

      unused_is : is_unused f ≡ ((pins trail.past p == 0) && not (writing trail.past p))
      unused_is = ap is_unused (frame_in c trail.past (parts_of x) core.agrees p f in_list of_page)

      last_one : is_unused f ≡ ((pins trail2.past p == 1) && not (writing trail2.past p))
      last_one = unused_is ∙ ap (λ b. b && not (writing trail.past p)) (one (pins trail.past p) ∙ ap (λ m. m == 1) (sym more))
        where
          more : pins trail1.past p ≡ suc (pins trail.past p)
          more = pins-hit trail.past who p n p ∙ ap (λ b. if b then suc (pins trail.past p) else pins trail.past p) (eq-eqb p p refl)

          one : (m : ℕ) → (m == 0) ≡ (suc m == 1)
          one m = grind (arith, nat_tests)

      in_use : (b : Bool) → is_unused f ≡ b → entry_of e p ≡ (if is_unused f then Some (stamp_of h p c.k, last_of h p) else entry_of away p)
      in_use true u = entered ∙ rw u refl
      in_use false u =
          let used : unused trail.past p ≡ false = ap (λ b. b && ((pins trail.past p == 0) && not (writing trail.past p))) (at-past c trail x core v is (λ q past. resident past p ≡ true) here) ∙ sym unused_is ∙ u in
          entered ∙ rw u (core.candidates.entries_are p ∙ no-entry c trail.past trail.past p used ∙ sym (gone p x.frames.candidates.entries))

      goes : x.passes.out ≡ filter (λ g. not (g.serial == n)) (grant who p n ∷ x.passes.out)
      goes = newest-goes who p n x.passes.out below
        where
          below : AllBelow n x.passes.out
          below = rw (core.agrees.observed.passes_is, core.agrees.observed.out_is) (numbered c trail.past core.agrees.legal).passes_below
