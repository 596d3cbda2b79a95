-- No stamp of a page is after its last reference, so the victim's backward K-distance is the greatest.
use Rattle.std.proofs.Common.{◌≡◌, refl, ◌∙◌, ℕ, zero, suc, ◌+◌, ◌-◌, ◌<◌, ◌≤◌, nat_lt, Bool, true, false, List, [], ◌∷◌, Some, inl, inr, arith}
use Rattle.std.proofs.lemmas.Bool.{cases_lt, le-ltb, lt-ltb}
use Rattle.std.proofs.lemmas.Bool.Decides.{nat_tests}
use Rattle.bp_references.specs.Burst.{Reference, last_time, time}
use Rattle.bp_references.specs.Burst.Reference.{hit, fault}
use Rattle.bp_references.specs.Stamp.{stamp, IsTimed}
use Rattle.bp_references.specs.Distance.{backward_distance, is_farther}
use Rattle.bp_references.proofs.StampLaws.{no_stamps}
use Rattle.bp_references.proofs.DistanceLaws.{farther_is_less}
use Rattle.bp_references.proofs.BurstLaws.{newest_stamp_at_hit, stamp_at_hit, stamp_at_correlated_hit, newest_stamp_at_fault, stamp_at_fault, widened}
use Rattle.bp_trail.specs.Parameters.{Parameters}
use Rattle.bp_trail.specs.Trail.{Trail}
use Rattle.bp_trail.specs.Clock.{clock}
use Rattle.bp_trail.specs.References.{references, hist}
use Rattle.bp_trail.specs.Victim.{Rank, rank, before, victim}
use Rattle.bp_trail.specs.Sentences.{IsCandidate}
use Rattle.bp_trail.proofs.Sentences.{candidate-decides}
use Rattle.bp_trail.proofs.Timed.{references-timed}
use Rattle.bp_trail.proofs.Victim.{victim-is}

-- each stamp is at most the newest one, and that one at most the last time
pub record Bounded (k c : ℕ) (rs : List Reference) : Type 0 where
  pub below : (i : ℕ) → stamp k c i rs ≤ stamp k c 1 rs
  pub by_last : stamp k c 1 rs ≤ last_time rs

widened-within : (w n : ℕ) → widened w n ≤ n + w
widened-within w n = grind (arith, nat_tests)

module _ (k c t : ℕ) where
  beyond : (i : ℕ) (rs : List Reference) → k ≤ i → stamp k c (suc i) rs ≡ 0
  beyond i rs past = rw (le-ltb i k past) refl

  -- a list whose newest stamp is t, and whose others are at most t
  topped : (r : Reference) (older : List Reference) → time r ≡ t → (1 ≤ k → stamp k c 1 (r ∷ older) ≡ t) → ((i : ℕ) → suc i < k → stamp k c (suc (suc i)) (r ∷ older) ≤ t) → Bounded k c (r ∷ older)
  topped r older now newest others = record { below = below; by_last = by_last }
    where
      by_last : stamp k c 1 (r ∷ older) ≤ time r
      by_last = elim (cases_lt 0 k) as (λ _. stamp k c 1 (r ∷ older) ≤ time r)
          [ inl lt ↦ (let n = newest lt in omega arith) | inr past ↦ (let n = beyond 0 (r ∷ older) past in omega arith) ]

      below : (i : ℕ) → stamp k c i (r ∷ older) ≤ stamp k c 1 (r ∷ older)
      below zero = omega arith
      below (suc zero) = omega arith
      below (suc (suc i)) = elim (cases_lt (suc i) k) as (λ _. stamp k c (suc (suc i)) (r ∷ older) ≤ stamp k c 1 (r ∷ older))
          [ inl lt ↦ (let n = newest (omega arith) in let o = others i lt in omega arith) | inr past ↦ (let n = beyond (suc i) (r ∷ older) past in omega arith) ]

  alone : stamp k c 1 (hit t ∷ []) ≤ t
  alone = elim (cases_lt 0 k) as (λ _. stamp k c 1 (hit t ∷ []) ≤ t)
      [ inl lt ↦ rw (lt-ltb 0 k lt) (omega arith) | inr past ↦ (let n = beyond 0 (hit t ∷ []) past in omega arith) ]

  alone-below : (i : ℕ) → stamp k c i (hit t ∷ []) ≤ stamp k c 1 (hit t ∷ [])
  alone-below zero = omega arith
  alone-below (suc zero) = omega arith
  alone-below (suc (suc i)) = elim (cases_lt (suc i) k) as (λ _. stamp k c (suc (suc i)) (hit t ∷ []) ≤ stamp k c 1 (hit t ∷ []))
      [ inl lt ↦ (let n : stamp k c (suc (suc i)) (hit t ∷ []) ≡ 0 = rw (lt-ltb (suc i) k lt, le-ltb (suc i) 1 (omega arith)) refl in omega arith) | inr past ↦ (let n = beyond (suc i) (hit t ∷ []) past in omega arith) ]

pub bounded : (k c : ℕ) (rs : List Reference) → IsTimed rs → Bounded k c rs
bounded k c [] timed = record { below = λ i. let a = no_stamps k c i in omega arith; by_last = let a = no_stamps k c 1 in omega arith }
bounded k c (fault t ∷ older) timed =
    let b = bounded k c older timed.older in
    topped k c t (fault t) older refl (newest_stamp_at_fault k c t older) (λ i lt. let s = stamp_at_fault k c t i older timed.older lt in let m = b.below (suc i) in let l = b.by_last in let n = timed.not_before in omega arith)
bounded k c (hit t ∷ []) timed = record { below = alone-below k c t; by_last = alone k c t }
bounded k c (hit t ∷ r ∷ older) timed = go (nat_lt c (t - time r)) refl (bounded k c (r ∷ older) timed.older)
  where
    go : (b : Bool) → nat_lt c (t - time r) ≡ b → Bounded k c (r ∷ older) → Bounded k c (hit t ∷ r ∷ older)
    go true e b = topped k c t (hit t) (r ∷ older) refl (λ lt. newest_stamp_at_hit k c t r older lt e)
        (λ i lt. let s = stamp_at_hit k c t i r older timed.older e lt in let w = widened-within (time r - stamp k c 1 (r ∷ older)) (stamp k c (suc i) (r ∷ older)) in let m = b.below (suc i) in let l = b.by_last in let n = timed.not_before in omega arith)
    go false e b = record {
      below = λ i. let s = stamp_at_correlated_hit k c t i r older e in let u = stamp_at_correlated_hit k c t 1 r older e in let m = b.below i in omega arith;
      by_last = let u = stamp_at_correlated_hit k c t 1 r older e in let l = b.by_last in let n = timed.not_before in omega arith;
    }

-- no stamp is after the clock
pub by-now : (c : Parameters) (past : Trail) (p i : ℕ) → hist c past p i ≤ clock past
by-now c past p i =
    let t = references-timed c past p in
    let b = bounded c.k c.correlated (references c past p) t.timed in
    let m = b.below i in
    let l = b.by_last in
    let n = t.past in
    omega arith

lesser : (a b : Rank) → before a b ≡ false → nat_lt a.stamp b.stamp ≡ false
lesser a b h = grind (arith, nat_tests)

-- no candidate is farther back than the victim
pub none-farther : (c : Parameters) (past : Trail) (v q : ℕ) → victim c past ≡ Some v → IsCandidate c past q → is_farther (backward_distance (clock past) (hist c past q c.k)) (backward_distance (clock past) (hist c past v c.k)) ≡ false
none-farther c past v q h k =
    farther_is_less (clock past) (hist c past q c.k) (hist c past v c.k) (by-now c past q c.k) (by-now c past v c.k)
    ∙ lesser (rank c past q) (rank c past v) ((victim-is c past v h).first q ((candidate-decides c past q).1 k))
