-- How often numbers can be halved.
use Rattle.std.proofs.Common.{◌≡◌, ℕ, suc, zero, ◌+◌, ◌-◌, ◌^◌, ◌<◌, ◌≤◌, ap, subst, arith}
use Rattle.std.specs.Int.Count.{count_leading_zeros, leading_of_zero}
use Rattle.std.proofs.Math.Nat.{one-le-pow, pow-le-pow_right}
use Rattle.std.proofs.lemmas.Nat.{leading_top}
use Rattle.bp_charts.specs.Scale.{halvings}

-- between which powers of two a number stands
pub record IsTop (n h : ℕ) : Type 0 where
  pub from : 2 ^ h ≤ n
  pub below : n < 2 ^ (h + 1)

pub halvings-top : (n : ℕ) → 0 < n → n < 2 ^ 64 → IsTop n (halvings n)
halvings-top n some few =
    let t = leading_top 64 n some few in
    let is : t.0 ≡ halvings n = omega (arith, t.1) in
    let next : suc t.0 ≡ t.0 + 1 = omega arith in
    subst (IsTop n) is (record { from = t.2; below = subst (λ (k : ℕ). n < 2 ^ k) next t.3 })

-- a number that reaches a power of two can be halved as often
pub halvings-from : (h n : ℕ) → 2 ^ h ≤ n → 0 < n → n < 2 ^ 64 → h ≤ halvings n
halvings-from h n reaches some few =
    let top = halvings-top n some few in
    let never : halvings n + 1 ≤ h → ⊥ = λ (less : halvings n + 1 ≤ h). (let more : 2 ^ (halvings n + 1) ≤ 2 ^ h = pow-le-pow_right {n = 2} (omega arith) less in omega (arith, top.below)) in
    omega arith

-- so many doublings from 1 on do not go past whoever reaches the number
pub halvings-below : (n m : ℕ) → n ≤ m → 0 < m → n < 2 ^ 64 → 2 ^ halvings n ≤ m
halvings-below zero m le some few =
    let none : 63 - count_leading_zeros 64 zero ≡ 0 = ap (λ (k : ℕ). 63 - k) (leading_of_zero 64) in
    rw none some
halvings-below (suc n) m le some few = omega (arith, (halvings-top (suc n) (omega arith) few).from)

-- one more goes past the number
pub halvings-above : (n : ℕ) → n < 2 ^ 64 → n < 2 ^ (halvings n + 1)
halvings-above zero few = one-le-pow (halvings zero + 1) 2 (omega arith)
halvings-above (suc n) few = (halvings-top (suc n) (omega arith) few).below
