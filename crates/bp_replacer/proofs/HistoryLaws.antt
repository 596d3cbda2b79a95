-- The stamps of a page, told by its block.
use Rattle.std.proofs.Common.{◌≡◌, ℕ, zero, suc, ◌-◌, ◌<◌, ◌≤◌, ◌==◌, Bool, true, false, if◌then◌else◌, List, ◌∷◌, get_or, refl, sym, ap, subst, ◌∙◌, inl, inr, arith}
use Rattle.std.proofs.lemmas.Bool.{lt-ltb, le-ltb, cases_lt, eq-eqb, ne_eqb}
use Rattle.bp_replacer.specs.declared.histories.Block.{Block}
use Rattle.bp_references.specs.Burst.{Reference, last_time}
use Rattle.bp_references.specs.Burst.Reference.{hit, fault}
use Rattle.bp_references.specs.Stamp.{stamp, IsTimed}
use Rattle.bp_references.specs.Shift.{IsShifted}
use Rattle.bp_replacer.specs.Histories.{Blocks, block_of, time_of, stamp_of, HasStampsOf}
use Rattle.bp_references.proofs.StampLaws.{AreOf, stamps_of_fault, stamps_of_late_hit, stamps_of_soon_hit}

-- the time of a block that has a stamp is its own
pub known_time : (b : Block) → 0 < time_of b → time_of b ≡ b.last
known_time b known = go (get_or b.stamps 0 0 == 0) refl known
  where
    go : (z : Bool) → (get_or b.stamps 0 0 == 0) ≡ z → 0 < (if z then 0 else b.last) → time_of b ≡ b.last
    go true i k = absurd (omega arith)
    go false i k = ap (λ (z : Bool). if z then 0 else b.last) i

pub stamped_time : (b : Block) (t : ℕ) → get_or b.stamps 0 0 ≡ t → 0 < t → time_of b ≡ b.last
stamped_time b t newest positive = ap (λ (z : Bool). if z then 0 else b.last) (ne_eqb (get_or b.stamps 0 0) 0 (λ e. absurd (omega arith)))

pub unstamped_time : (b : Block) → get_or b.stamps 0 0 ≡ 0 → time_of b ≡ 0
unstamped_time b none = ap (λ (z : Bool). if z then 0 else b.last) (eq-eqb (get_or b.stamps 0 0) 0 none)

pub stamped : (b : Block) → 0 < time_of b → 0 < get_or b.stamps 0 0
stamped b known = go (get_or b.stamps 0 0) refl
  where
    go : (n : ℕ) → get_or b.stamps 0 0 ≡ n → 0 < get_or b.stamps 0 0
    go zero i = let z = unstamped_time b i in absurd (omega arith)
    go (suc n) i = omega arith

told : (h : Blocks) (page n : ℕ) (b : Block) → block_of h page ≡ b → n < h.k → stamp_of h page (suc n) ≡ get_or b.stamps n 0
told h page n b is lt = rw (lt-ltb n h.k lt, is) refl

untold : (h : Blocks) (page n : ℕ) → h.k ≤ n → stamp_of h page (suc n) ≡ 0
untold h page n le = rw (le-ltb n h.k le) refl

-- what the page tells is what its block stores
block_has : (h : Blocks) (page : ℕ) (refs : List Reference) (b : Block) → block_of h page ≡ b → HasStampsOf h page refs → AreOf h.correlated h.k refs b.stamps (time_of b)
block_has h page refs b is has = record {
  stamps_agree = λ n lt. sym (told h page n b is lt) ∙ has.stamps (suc n);
  last_agrees = subst (λ (x : Block). time_of x ≡ last_time refs) is has.last;
}

-- there is no stamp beyond the K-th
none_beyond : (k c n : ℕ) (refs : List Reference) → k ≤ n → stamp k c (suc n) refs ≡ 0
none_beyond k c n refs le = rw (le-ltb n k le) refl

page_has : (h : Blocks) (page : ℕ) (refs : List Reference) (b : Block) → block_of h page ≡ b → AreOf h.correlated h.k refs b.stamps (time_of b) → HasStampsOf h page refs
page_has h page refs b is are = record {
  stamps = agree;
  last = subst (λ (x : Block). time_of x ≡ last_time refs) (sym is) are.last_agrees;
}
  where
    agree : (i : ℕ) → stamp_of h page i ≡ stamp h.k h.correlated i refs
    agree zero = refl
    agree (suc n) = elim (cases_lt n h.k) [
      | inl lt ↦ told h page n b is lt ∙ are.stamps_agree n lt
      | inr le ↦ untold h page n le ∙ sym (none_beyond h.k h.correlated n refs le)
    ]

module _ (old new : Blocks) (k : new.k ≡ old.k) (correlated : new.correlated ≡ old.correlated) (k_positive : 1 ≤ old.k) (page t : ℕ) (b d : Block) (was : block_of old page ≡ b) (is : block_of new page ≡ d) (now : time_of d ≡ t) (refs : List Reference) (timed : IsTimed refs) (has : HasStampsOf old page refs) where
  are : AreOf old.correlated old.k refs b.stamps (time_of b)
  are = block_has old page refs b was has

  gives : (refs : List Reference) → AreOf old.correlated old.k refs d.stamps t → HasStampsOf new page refs
  gives refs are = page_has new page refs d is (rw (k, correlated, now) are)

  pub has_after_fault : IsShifted old.k 0 t b.stamps d.stamps → HasStampsOf new page (fault t ∷ refs)
  has_after_fault shifted = gives _ (stamps_of_fault old.correlated old.k k_positive b.stamps (time_of b) t refs timed are d.stamps shifted)

  -- where there are references, their time is the block's
  referenced : 0 < time_of b → AreOf old.correlated old.k refs b.stamps b.last
  referenced known = subst (λ n. AreOf old.correlated old.k refs b.stamps n) (known_time b known) are

  pub has_after_late_hit : 0 < time_of b → old.correlated < t - b.last → IsShifted old.k (b.last - get_or b.stamps 0 0) t b.stamps d.stamps → HasStampsOf new page (hit t ∷ refs)
  has_after_late_hit known late shifted = gives _ (stamps_of_late_hit old.correlated old.k k_positive b.stamps b.last t refs timed (referenced known) d.stamps (subst (λ n. 0 < n) (known_time b known) known) late shifted)

  pub has_after_soon_hit : 0 < time_of b → t - b.last ≤ old.correlated → d.stamps ≡ b.stamps → HasStampsOf new page (hit t ∷ refs)
  has_after_soon_hit known soon same = gives _ (rw same (stamps_of_soon_hit old.correlated old.k k_positive b.stamps b.last t refs (referenced known) (subst (λ n. 0 < n) (known_time b known) known) soon))
