-- Two lists of references with the same stamps and the same newest time have them after the same further references.
use Rattle.std.proofs.Common.{◌≡◌, refl, sym, ◌∙◌, ap, ℕ, zero, suc, ◌-◌, nat_lt, if◌then◌else◌, Bool, true, false, List, [], ◌∷◌, arith}
use Rattle.std.proofs.lemmas.Bool.{ltb-true}
use Rattle.bp_references.specs.Burst.{Reference, time, bursts}
use Rattle.bp_references.specs.Burst.Reference.{hit, fault}
use Rattle.bp_references.specs.Stamp.{burst_stamp, stamp, IsTimed}
use Rattle.bp_references.specs.Alike.{Alike}
use Rattle.bp_references.proofs.BurstLaws.{newest_stamp_at_hit, stamp_at_hit, stamp_at_correlated_hit, newest_stamp_at_fault, stamp_at_fault, widened}

-- beyond K every stamp is 0
beyond : (k c place : ℕ) (rs : List Reference) → nat_lt place k ≡ false → stamp k c (suc place) rs ≡ 0
beyond k c place rs e = ap (λ b. if b then burst_stamp (bursts c rs) place else 0) e

both-beyond : (k c place : ℕ) (rs rs' : List Reference) → nat_lt place k ≡ false → stamp k c (suc place) rs ≡ stamp k c (suc place) rs'
both-beyond k c place rs rs' e = beyond k c place rs e ∙ sym (beyond k c place rs' e)

module _ (k c t : ℕ) where
  opened : (r r' : Reference) (older older' : List Reference) → IsTimed (r ∷ older) → IsTimed (r' ∷ older')
      → Alike k c (r ∷ older) (r' ∷ older') → nat_lt c (t - time r) ≡ true → nat_lt c (t - time r') ≡ true → (i : ℕ) → stamp k c i (hit t ∷ r ∷ older) ≡ stamp k c i (hit t ∷ r' ∷ older')
  opened r r' older older' m m' a e e' zero = refl
  opened r r' older older' m m' a e e' (suc zero) = go (nat_lt 0 k) refl
    where
      go : (b : Bool) → nat_lt 0 k ≡ b → stamp k c 1 (hit t ∷ r ∷ older) ≡ stamp k c 1 (hit t ∷ r' ∷ older')
      go true w = newest_stamp_at_hit k c t r older (ltb-true 0 k w) e ∙ sym (newest_stamp_at_hit k c t r' older' (ltb-true 0 k w) e')
      go false w = both-beyond k c 0 (hit t ∷ r ∷ older) (hit t ∷ r' ∷ older') w
  opened r r' older older' m m' a e e' (suc (suc i)) = go (nat_lt (suc i) k) refl
    where
      go : (b : Bool) → nat_lt (suc i) k ≡ b → stamp k c (suc (suc i)) (hit t ∷ r ∷ older) ≡ stamp k c (suc (suc i)) (hit t ∷ r' ∷ older')
      go true w =
          let h = ltb-true (suc i) k w in
          stamp_at_hit k c t i r older m e h
          ∙ (λ n. widened (a.last n - a.stamps 1 n) (a.stamps (suc i) n))
          ∙ sym (stamp_at_hit k c t i r' older' m' e' h)
      go false w = both-beyond k c (suc i) (hit t ∷ r ∷ older) (hit t ∷ r' ∷ older') w

  pub alike-hit : (rs rs' : List Reference) → IsTimed rs → IsTimed rs' → Alike k c rs rs' → Alike k c (hit t ∷ rs) (hit t ∷ rs')
  alike-hit [] [] m m' a = record { last = refl; stamps = λ i. refl }
  alike-hit [] (r' ∷ older') m m' a = let x = a.last in let y = m'.from_one in absurd (omega arith)
  alike-hit (r ∷ older) [] m m' a = let x = a.last in let y = m.from_one in absurd (omega arith)
  alike-hit (r ∷ older) (r' ∷ older') m m' a = record { last = refl; stamps = go (nat_lt c (t - time r)) refl }
    where
      go : (b : Bool) → nat_lt c (t - time r) ≡ b → (i : ℕ) → stamp k c i (hit t ∷ r ∷ older) ≡ stamp k c i (hit t ∷ r' ∷ older')
      go true e i = opened r r' older older' m m' a e (sym (λ n. nat_lt c (t - a.last n)) ∙ e) i
      go false e i = stamp_at_correlated_hit k c t i r older e ∙ a.stamps i ∙ sym (stamp_at_correlated_hit k c t i r' older' (sym (λ n. nat_lt c (t - a.last n)) ∙ e))

  pub alike-fault : (rs rs' : List Reference) → IsTimed rs → IsTimed rs' → Alike k c rs rs' → Alike k c (fault t ∷ rs) (fault t ∷ rs')
  alike-fault rs rs' m m' a = record { last = refl; stamps = at }
    where
      at : (i : ℕ) → stamp k c i (fault t ∷ rs) ≡ stamp k c i (fault t ∷ rs')
      at zero = refl
      at (suc zero) = go (nat_lt 0 k) refl
        where
          go : (b : Bool) → nat_lt 0 k ≡ b → stamp k c 1 (fault t ∷ rs) ≡ stamp k c 1 (fault t ∷ rs')
          go true w = newest_stamp_at_fault k c t rs (ltb-true 0 k w) ∙ sym (newest_stamp_at_fault k c t rs' (ltb-true 0 k w))
          go false w = both-beyond k c 0 (fault t ∷ rs) (fault t ∷ rs') w
      at (suc (suc i)) = go (nat_lt (suc i) k) refl
        where
          go : (b : Bool) → nat_lt (suc i) k ≡ b → stamp k c (suc (suc i)) (fault t ∷ rs) ≡ stamp k c (suc (suc i)) (fault t ∷ rs')
          go true w = stamp_at_fault k c t i rs m (ltb-true (suc i) k w) ∙ a.stamps (suc i) ∙ sym (stamp_at_fault k c t i rs' m' (ltb-true (suc i) k w))
          go false w = both-beyond k c (suc i) (fault t ∷ rs) (fault t ∷ rs') w
