-- The frame that a page was put into.
use Rattle.std.proofs.Common.{◌≡◌, ℕ, zero, suc, ◌<◌, false, List, ◌∷◌, length, get_or, sym, ap, subst, ◌∙◌, arith}
use Rattle.std.specs.Prelude.{Contains}
use Rattle.std.specs.List.Sorted.{IsPermutation}
use Rattle.std.proofs.lemmas.Bool.{eq-eqb, true≢false}
use Rattle.std.proofs.lemmas.List.Sorted.{Contains-permutation, IsPermutation-sym}
use Rattle.bp_trail.specs.Lists.{some}
use Rattle.bp_trail.proofs.Counting.{some-at}
use Rattle.bp_frames.specs.declared.frame.Frame.{Frame}
use Rattle.bp_frames.specs.Frames.{is_frame_of, loaded_with}
use Rattle.bp_frames.specs.Tables.{Table}

-- the frame of a page that had none is the one that was put there
filled : (page : ℕ) (g : Frame) (old new : List Frame) → IsPermutation (g ∷ old) new → some (is_frame_of page) old ≡ false → (f : Frame) → Contains new f → f.page ≡ page → f ≡ g
filled page g old new moved absent f inside is =
    let there = Contains-permutation new (g ∷ old) f (IsPermutation-sym (g ∷ old) new moved) inside in
    go there.0 there.1 there.2
  where
    go : (i : ℕ) → i < length (g ∷ old) → get_or (g ∷ old) i f ≡ f → f ≡ g
    go zero lt e = sym e
    go (suc i) lt e = absurd (true≢false (sym (some-at (is_frame_of page) old i f (omega arith) (eq-eqb (get_or old i f).page page (ap (λ (h : Frame). h.page) e ∙ is))) ∙ absent))

-- so it has the image that was put there, and that in the table as it is a little later
pub filled-image : (page block : ℕ) (image : List ℕ) (old : List Frame) (new now : Table) → IsPermutation (loaded_with page block image ∷ old) new.frames → some (is_frame_of page) old ≡ false → now ≡ new → (f : Frame) → Contains now.frames f → f.page ≡ page → f.image ≡ image
filled-image page block image old new now moved absent same f inside is = ap (λ (g : Frame). g.image) (filled page (loaded_with page block image) old new.frames moved absent f (subst (λ (t : Table). Contains t.frames f) same inside) is)
