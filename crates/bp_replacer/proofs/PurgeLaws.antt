-- What a purge leaves, and how many pages it forgets.
use Rattle.std.proofs.Common.{◌≡◌, ◌≢◌, ℕ, zero, suc, ◌+◌, ◌-◌, ◌<◌, nat_lt, not, ◌&&◌, Bool, true, false, [], None, unwrap_or, if◌then◌else◌, refl, sym, ap, inl, inr, arith}
use Rattle.std.proofs.lemmas.Bool.{cases_eq}
use Rattle.std.proofs.lemmas.Bool.Decides.{nat_tests}
use Rattle.bp_replacer.specs.declared.histories.Block.{Block}
use Rattle.bp_references.specs.Stamp.{stamp}
use Rattle.bp_references.proofs.StampLaws.{no_stamps}
use Rattle.bp_replacer.specs.Histories.{Blocks, find_block, no_block, block_of, time_of, stamp_of, is_outdated, HasStampsOf, SameAt}
use Rattle.bp_references.specs.Numbers.{count_below}

-- ---- one page

-- a page without a block has no history
pub has_none : (h : Blocks) (page : ℕ) → find_block h.entries page ≡ None → HasStampsOf h page []
has_none h page none = record { stamps = at; last = ap time_of blank }
  where
    blank : block_of h page ≡ no_block
    blank = ap (λ o. unwrap_or o no_block) none

    at : (i : ℕ) → stamp_of h page i ≡ stamp h.k h.correlated i []
    at zero = sym (no_stamps h.k h.correlated 0)
    at (suc n) = rw (blank, no_stamps h.k h.correlated (suc n)) (grind (arith, nat_tests))

-- ---- the count

-- two tests that agree below n count alike
pub count_below_same : (f g : ℕ → Bool) (n : ℕ) → ((q : ℕ) → q < n → g q ≡ f q) → count_below g n ≡ count_below f n
count_below_same f g zero same = refl
count_below_same f g (suc n) same = rw (count_below_same f g n (λ q lt. same q (omega arith)), same n (omega arith)) refl

-- a test that answers b at one number, where f says no, counts that one more
pub count_below_put : (f g : ℕ → Bool) (at : ℕ) (b : Bool) → f at ≡ false → g at ≡ b → ((q : ℕ) → q ≢ at → g q ≡ f q) → (n : ℕ) → (b ≡ true → at < n) → count_below g n ≡ (if b then 1 else 0) + count_below f n
count_below_put f g at true absent here same zero below = absurd (omega (arith, below refl))
count_below_put f g at false absent here same zero below = refl
count_below_put f g at b absent here same (suc n) below = elim (cases_eq at n) [
  | inl is ↦
      let earlier : count_below g n ≡ count_below f n = count_below_same f g n (λ q lt. same q (omega arith)) in
      rw (earlier, ← is, here, absent) (omega arith)
  | inr not_n ↦
      let before : count_below g n ≡ (if b then 1 else 0) + count_below f n = count_below_put f g at b absent here same n (λ yes. omega (arith, below yes)) in
      rw (before, same n (λ e. not_n (sym e))) (omega arith)
]

-- a test that no number below n passes counts none
pub count_below_none : (f : ℕ → Bool) (n : ℕ) → ((q : ℕ) → f q ≡ false) → count_below f n ≡ 0
count_below_none f zero none = refl
count_below_none f (suc n) none = rw (count_below_none f n none, none n) refl

pub never_outdated : (retained t : ℕ) (b : Block) → time_of b ≡ 0 → is_outdated retained t b ≡ false
never_outdated retained t b unknown = go (time_of b) unknown
  where
    go : (n : ℕ) → n ≡ 0 → (not b.held && (nat_lt 0 n && nat_lt retained (t - n))) ≡ false
    go n none = grind (arith, nat_tests)

-- ---- what is told of a page

-- a page whose block stays is told of as before
pub same_at : (old new : Blocks) → new.k ≡ old.k → (page : ℕ) → block_of new page ≡ block_of old page → SameAt old new page
same_at old new k page same = record {
  held = ap (λ (b : Block). b.held) same;
  last = ap time_of same;
  no_later = omega (arith, ap (λ (b : Block). b.last) same);
  stamps = stamps;
}
  where
    stamps : (i : ℕ) → stamp_of new page i ≡ stamp_of old page i
    stamps zero = refl
    stamps (suc n) = rw (k, same) refl

-- a page that is forgotten wasn't held, and isn't
pub outdated_not_held : (retained t : ℕ) (b : Block) → is_outdated retained t b ≡ true → b.held ≡ false
outdated_not_held retained t b old = go (time_of b) old
  where
    go : (n : ℕ) → (not b.held && (nat_lt 0 n && nat_lt retained (t - n))) ≡ true → b.held ≡ false
    go n old = grind (arith, nat_tests)
