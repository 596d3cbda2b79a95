-- The blocks of the pages in frames stay where they are.
use Rattle.std.proofs.Common.{◌≡◌, ◌≢◌, refl, sym, ap, subst, ◌∙◌, ℕ, Bool, true, false, not, ◌==◌, cond, List, [], ◌∷◌, filter, Option, arith}
use Rattle.std.specs.Prelude.{IsSome, is_some, ◌&&◌}
use Rattle.std.proofs.lemmas.Bool.{eqb-true, eqb-false, eq-eqb, and_parts, and_from, or_left, or_right, true≢false}
use Rattle.bp_replacer.specs.Histories.{Blocks, is_held, place_of, SameAt, KeepsPlaces}
use Rattle.bp_trail.specs.Parameters.{Parameters}
use Rattle.bp_trail.specs.Lists.{some, count}
use Rattle.bp_trail.specs.Trail.{Trail}
use Rattle.bp_trail.specs.Places.{residents, resident, loading}
use Rattle.bp_trail.proofs.Lists.{member}
use Rattle.bp_trail.proofs.Counting.{count-cons}
use Rattle.bp_trail.proofs.Residents.{left-none, left-other}
use Rattle.bp_core.specs.declared.state.State.{State}
use Rattle.bp_keeper.specs.Kept.{Kept}
use Rattle.bp_core.specs.Agreement.{Parts, parts_of, Agrees, frame_of, ArePlaced, TellBlocks, IsCore}
use Rattle.bp_core.proofs.Seen.{same_number, same_number-is, same_number-itself, all_frames}

-- ---- what a change of the blocks leaves

module _ (old new : Blocks) where
  pub place-kept : KeepsPlaces old new → (q : ℕ) → is_held old q ≡ true → is_held new q ≡ true → place_of new q ≡ place_of old q
  unfolding KeepsPlaces
  place-kept keeps = keeps

  -- where no page is held that was not
  pub placed-after : KeepsPlaces old new → ArePlaced old → ((q : ℕ) → is_held new q ≡ true → is_held old q ≡ true) → ArePlaced new
  placed-after keeps placed before q holds = subst IsSome (sym (place-kept keeps q (before q holds) holds)) (placed q (before q holds))

  module _ (p : ℕ) (others : (q : ℕ) → q ≢ p → SameAt old new q) where
    -- no page is held that was not, if this one was
    pub held-before : is_held old p ≡ true → (q : ℕ) → is_held new q ≡ true → is_held old q ≡ true
    held-before own q holds = go (q == p) refl
      where
        go : (b : Bool) → (q == p) ≡ b → is_held old q ≡ true
        go true e = subst (λ y. is_held old y ≡ true) (sym (eqb-true q p e)) own
        go false e = sym (others q (eqb-false q p e)).held ∙ holds

    -- this page alone is held anew
    pub placed-prepared : KeepsPlaces old new → ArePlaced old → IsSome (place_of new p) → ArePlaced new
    placed-prepared keeps placed own q holds = go (q == p) refl
      where
        go : (b : Bool) → (q == p) ≡ b → IsSome (place_of new q)
        go true e = subst (λ y. IsSome (place_of new y)) (sym (eqb-true q p e)) own
        go false e =
            let was = sym (others q (eqb-false q p e)).held ∙ holds in
            subst IsSome (sym (place-kept keeps q was holds)) (placed q was)

-- ---- frames and the trail

pub same-counts : (f g : ℕ → Bool) (xs : List ℕ) → ((q : ℕ) → member q xs ≡ true → f q ≡ g q) → count f xs ≡ count g xs
same-counts f g [] same = refl
same-counts f g (x ∷ xs) same =
    omega (arith, count-cons f x xs, count-cons g x xs, ap {B = ℕ} (λ b. cond b 1 0) (same x (or_left (x == x) (member x xs) (eq-eqb x x refl))), same-counts f g xs (λ q m. same q (or_right (x == q) (member q xs) m)))

-- a page that stays resident as another leaves was so before
pub stayed-here : (past : Trail) (v q : ℕ) → some (λ r. r == q) (filter (λ r. not (r == v)) (residents past)) ≡ true → resident past q ≡ true
stayed-here past v q here = go (q == v) refl
  where
    go : (b : Bool) → (q == v) ≡ b → resident past q ≡ true
    go true e = absurd (true≢false (sym here ∙ subst (λ y. some (λ r. r == y) (filter (λ r. not (r == v)) (residents past)) ≡ false) (sym (eqb-true q v e)) (left-none v (residents past))))
    go false e = sym (left-other v q e (residents past)) ∙ here

module _ (c : Parameters) (past : Trail) (x : Parts) (a : Agrees c past x) where
  pub held-here : (q : ℕ) → resident past q ≡ true → is_held x.blocks q ≡ true
  held-here q here = a.observed.held_is q ∙ or_left (resident past q) (loading past q) here

  -- the blocks of resident pages are where they were
  pub rehoused : (places : ℕ → Option ℕ) → ((q : ℕ) → resident past q ≡ true → places q ≡ x.places q) → Agrees c past (record x { places = places })
  rehoused places same = record {
    legal = a.legal;
    observed = record {
      clock_is = a.observed.clock_is;
      durable_is = a.observed.durable_is;
      passes_is = a.observed.passes_is;
      tickets_is = a.observed.tickets_is;
      out_is = a.observed.out_is;
      reads_is = a.observed.reads_is;
      writes_is = a.observed.writes_is;
      frames_is = λ test. a.observed.frames_is test ∙ same-counts (λ q. test (frame_of past q (x.places q))) (λ q. test (frame_of past q (places q))) (residents past) (λ q here. ap (λ b. test (frame_of past q b)) (sym (same q here)));
      stamps_are = a.observed.stamps_are;
      held_is = a.observed.held_is;
    };
    k_is = a.k_is;
    correlated_is = a.correlated_is;
    retained_is = a.retained_is;
    in_time = a.in_time;
    by_now = a.by_now;
  }

-- each frame tells where the block of its page is
pub tell-blocks : (c : Parameters) (trail : Kept) (x : State) → IsCore c trail x → TellBlocks x.histories x.frames.frames
tell-blocks c trail x core =
    all_frames c trail.past (parts_of x) core.agrees (λ f. IsSome f.block × (f.block ≡ place_of x.histories f.page)) (λ f. is_some f.block && same_number f.block (place_of x.histories f.page))
    (λ f e. let both = and_parts (is_some f.block) _ e in (both.0, same_number-is f.block (place_of x.histories f.page) both.1))
    (λ q here. and_from _ _ (core.placed q (held-here c trail.past (parts_of x) core.agrees q here)) (same_number-itself (place_of x.histories q)))
