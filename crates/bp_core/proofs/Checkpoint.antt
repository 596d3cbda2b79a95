-- The unsaved pages among the frames are those of the entries.
use Rattle.std.proofs.Common.{◌≡◌, ℕ, ◌≤◌, ◌<◌, ◌&&◌, ◌==◌, Bool, true, false, Option, Some, None, refl, sym, ap, ◌∙◌, subst}
use Rattle.std.specs.Prelude.{Contains, All, IfSome, IfNone}
use Rattle.std.specs.Option.{is_some, option_map_or}
use Rattle.std.proofs.lemmas.Bool.{and_parts, and_from, eqb-true, eq-eqb, ltb-true, true≢false, false_from_ne_true}
use Rattle.bp_trail.specs.Parameters.{Parameters}
use Rattle.bp_trail.specs.Lists.{some}
use Rattle.bp_trail.specs.Saved.{unsaved, first_lsn, IsRedoFrom}
use Rattle.bp_trail.specs.Trail.{Trail}
use Rattle.bp_trail.proofs.Elements.{passing, some-contained}
use Rattle.bp_trail.proofs.Places.{places}
use Rattle.bp_trail.proofs.Ranges.{ranges}
use Rattle.bp_trail.proofs.Redo.{first-unsaved, none-of}
use Rattle.bp_frames.specs.declared.frame.Frame.{Frame}
use Rattle.bp_frames.specs.Frames.{is_frame_of, is_to_save, has_first, has_unsaved, IsLeastUnsaved}
use Rattle.bp_frames.specs.PageSets.{IsNext, NoneFrom}
use Rattle.bp_keeper.specs.Kept.{Kept}
use Rattle.bp_core.specs.declared.state.State.{State}
use Rattle.bp_core.specs.Agreement.{Parts, Agrees, parts_of, IsCore, view_of}
use Rattle.bp_core.specs.CoreView.{CoreView, EachPast}
use Rattle.bp_core.specs.Unsaved.{FindsUnsaved}
use Rattle.bp_core.proofs.Seen.{frame_in, resident_seen}

module _ (c : Parameters) (past : Trail) (x : Parts) (a : Agrees c past x) where
  -- a resident page's frame
  record Here (p : ℕ) : Type 0 where
    frame : Frame
    inside : Contains x.frames frame
    page_is : frame.page ≡ p
    lsn_is : frame.first_lsn ≡ first_lsn past p

  here : (p : ℕ) → unsaved past p ≡ true → Here p
  here p u =
      let w = passing (is_frame_of p) x.frames (resident_seen c past x a p ∙ (places c past a.legal).dirty p u) in
      let page = eqb-true w.element.page p w.passes in
      record { frame = w.element; inside = w.inside; page_is = page; lsn_is = ap (λ (f : Frame). f.first_lsn) (frame_in c past x a p w.element w.inside page) }

  saved-none : (p : ℕ) → unsaved past p ≡ false → first_lsn past p ≡ None
  saved-none p u = none-of (first_lsn past p) (first-unsaved past p ∙ u)

  -- what is true of each frame is true of that of a page that is unsaved
  of-page : (P : Frame → Type 0) → All P x.frames → (p : ℕ) (h : Here p) → P h.frame
  of-page P all p h = subst P h.inside.2 (all h.inside.0 h.frame h.inside.1)

  first-is : (lsn : ℕ) (o : Option ℕ) → option_map_or (λ first. first == lsn) o false ≡ true → o ≡ Some lsn
  first-is lsn None h = absurd (true≢false (sym h))
  first-is lsn (Some m) h = ap Some (eqb-true m lsn h)

  pub redo-seen : (o : Option ℕ) → IsLeastUnsaved x.frames o → IsRedoFrom past o
  redo-seen None all = λ p. go p (unsaved past p) refl
    where
      go : (p : ℕ) (b : Bool) → unsaved past p ≡ b → first_lsn past p ≡ None
      go p true u = let h = here p u in sym h.lsn_is ∙ of-page (λ f. f.first_lsn ≡ None) all p h
      go p false u = saved-none p u
  redo-seen (Some lsn) least =
      let w = passing (has_first lsn) x.frames least.0 in
      let first = first-is lsn w.element.first_lsn w.passes in
      ((w.element.page, sym (ap (λ (f : Frame). f.first_lsn) (frame_in c past x a w.element.page w.element w.inside refl)) ∙ first), at-least)
    where
      at-least : (p later : ℕ) → first_lsn past p ≡ Some later → lsn ≤ later
      at-least p later e =
          let h = here p (sym (first-unsaved past p) ∙ ap is_some e) in
          of-page (λ f. (m : ℕ) → f.first_lsn ≡ Some m → lsn ≤ m) least.1 p h later (h.lsn_is ∙ e)

  -- a page that is unsaved is so in its frame, and no other is
  pub unsaved-seen : (p : ℕ) → has_unsaved x.frames p ≡ unsaved past p
  unsaved-seen p = go (unsaved past p) refl
    where
      go : (b : Bool) → unsaved past p ≡ b → has_unsaved x.frames p ≡ b
      go true u =
          let h = here p u in
          some-contained (λ f. is_frame_of p f && is_to_save f) x.frames h.frame h.inside
          (and_from (h.frame.page == p) _ (eq-eqb h.frame.page p h.page_is) (ap is_some h.lsn_is ∙ first-unsaved past p ∙ u))
      go false u = false_from_ne_true (has_unsaved x.frames p) (λ t.
          let w = passing (λ f. is_frame_of p f && is_to_save f) x.frames t in
          let parts = and_parts (w.element.page == p) _ w.passes in
          let page = eqb-true w.element.page p parts.0 in
          let lsn = ap (λ (f : Frame). f.first_lsn) (frame_in c past x a p w.element w.inside page) in
          true≢false (sym parts.1 ∙ ap is_some lsn ∙ first-unsaved past p ∙ u))

  in-file : (p : ℕ) → unsaved past p ≡ true → p < c.pages
  in-file p u = ltb-true p c.pages ((ranges c past a.legal).pages p ((places c past a.legal).dirty p u))

  pub next-seen : (from : ℕ) (o : Option ℕ) → IfSome o (IsNext (has_unsaved x.frames) from) → IfNone o (NoneFrom (has_unsaved x.frames) from) → FindsUnsaved c.pages from past o
  next-seen from (Some page) some none =
      let u = sym (unsaved-seen page) ∙ some.here in
      (some.not_before, in-file page u, u, λ q after before. sym (unsaved-seen q) ∙ some.none_between q after before)
  next-seen from None some none = λ q after before. sym (unsaved-seen q) ∙ none q after

module _ (c : Parameters) (trail : Kept) (x : State) (core : IsCore c trail x) (v : CoreView) (is : view_of c trail ≡ v) where
  pub redo-told : (o : Option ℕ) → IsLeastUnsaved x.frames.frames o → EachPast v (λ past. IsRedoFrom past o)
  redo-told o least = subst (λ u. EachPast u (λ past. IsRedoFrom past o)) is (redo-seen c trail.past (parts_of x) core.agrees o least)

  pub next-told : (from : ℕ) (o : Option ℕ) → IfSome o (IsNext (has_unsaved x.frames.frames) from) → IfNone o (NoneFrom (has_unsaved x.frames.frames) from) → EachPast v (λ past. FindsUnsaved v.parameters.pages from past o)
  next-told from o some none = subst (λ u. EachPast u (λ past. FindsUnsaved u.parameters.pages from past o)) is (next-seen c trail.past (parts_of x) core.agrees from o some none)
