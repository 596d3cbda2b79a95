-- The bits of a word, and the first of them from one on.
use Rattle.std.proofs.Common.{◌≡◌, ◌≢◌, ℕ, ◌+◌, ◌-◌, ◌/◌, ◌%◌, ◌^◌, ◌<◌, ◌≤◌, ◌==◌, min, Bool, true, false, not, List, length, get_or, bit_and, bit_or, refl, sym, ap, ◌∙◌, inl, inr, arith}
use Rattle.std.specs.Prelude.{if◌then◌else◌}
use Rattle.std.specs.Int.{w64, bit_at, trailing_zeros}
use Rattle.std.proofs.lemmas.Bool.{cases_eq, cases_lt, eq-eqb, eqb-true, ne_eqb, true≢false}
use Rattle.std.proofs.lemmas.List.{get_or_past}
use Rattle.std.proofs.lemmas.Nat.{shr-shr, pow_below, shr_le}
use Rattle.std.proofs.lemmas.Nat.Bits.{bit_at_and, bit_at_or, bit_at_not, bit_at-pow_same, bit_at-pow_other, bit_at-lt, bit_at-zero, bit_at_above, bit_at-trailing_zeros}
use Rattle.bp_frames.specs.PageSets.{is_set, holds, holds_any}

-- ---- one bit changed
module _ (word bit i : ℕ) (within : bit < 64) where
  pub set-bit : is_set (bit_or word (2 ^ bit)) i ≡ (if i == bit then true else is_set word i)
  set-bit = elim (cases_eq i bit) [
    | inl same ↦
        let whole : bit_at (bit_or word (2 ^ bit)) i ≡ 1 = omega (arith, bit_at_or word (2 ^ bit) i, ap (bit_at (2 ^ bit)) same, bit_at-pow_same bit, bit_at-lt word i) in
        ap (λ n. n == 1) whole ∙ sym (ap (λ b. if b then true else is_set word i) (eq-eqb i bit same))
    | inr other ↦
        let whole : bit_at (bit_or word (2 ^ bit)) i ≡ bit_at word i = omega (arith, bit_at_or word (2 ^ bit) i, bit_at-pow_other bit i other) in
        ap (λ n. n == 1) whole ∙ sym (ap (λ b. if b then true else is_set word i) (ne_eqb i bit other))
  ]

  pub clear-bit : i < 64 → is_set (bit_and word (2 ^ 64 - 1 - 2 ^ bit)) i ≡ (if i == bit then false else is_set word i)
  clear-bit lt = elim (cases_eq i bit) [
    | inl same ↦
        let whole : bit_at (bit_and word (2 ^ 64 - 1 - 2 ^ bit)) i ≡ 0 = omega (arith, both, unset, ap (bit_at (2 ^ bit)) same, bit_at-pow_same bit) in
        ap (λ n. n == 1) whole ∙ sym (ap (λ b. if b then false else is_set word i) (eq-eqb i bit same))
    | inr other ↦
        let whole : bit_at (bit_and word (2 ^ 64 - 1 - 2 ^ bit)) i ≡ bit_at word i = omega (arith, both, unset, bit_at-pow_other bit i other, bit_at-lt word i) in
        ap (λ n. n == 1) whole ∙ sym (ap (λ b. if b then false else is_set word i) (ne_eqb i bit other))
  ]
    where
      both : bit_at (bit_and word (2 ^ 64 - 1 - 2 ^ bit)) i ≡ min (bit_at word i) (bit_at (2 ^ 64 - 1 - 2 ^ bit) i)
      both = bit_at_and word (2 ^ 64 - 1 - 2 ^ bit) i

      unset : bit_at (2 ^ 64 - 1 - 2 ^ bit) i ≡ 1 - bit_at (2 ^ bit) i
      unset = bit_at_not w64 (2 ^ bit) i (pow_below bit 64 within) lt

-- a word with no bits
pub no-bits : (row : List ℕ) (word q : ℕ) → get_or row word 0 ≡ 0 → q / 64 ≡ word → holds row q ≡ false
no-bits row word q none at = ap (λ w. is_set w (q % 64)) (ap (λ n. get_or row n 0) at ∙ none) ∙ ap (λ n. n == 1) (bit_at-zero (q % 64))

pub none-any : (row : List ℕ) (word : ℕ) → holds_any row word ≡ false → get_or row word 0 ≡ 0
none-any row word none = eqb-true (get_or row word 0) 0 (go (get_or row word 0 == 0) none)
  where
    go : (b : Bool) → not b ≡ false → b ≡ true
    go true is = refl
    go false is = absurd (true≢false is)

pub past-any : (row : List ℕ) (word : ℕ) → length row ≤ word → holds_any row word ≡ false
past-any row word past = ap (λ n. not (n == 0)) (get_or_past row word 0 past)

-- ---- the first bit in the word of a number
module _ (row : List ℕ) (from word : ℕ) (word-is : get_or row (from / 64) 0 ≡ word) where
  bit-is : (q : ℕ) → q / 64 ≡ from / 64 → holds row q ≡ is_set word (q % 64)
  bit-is q same = ap (λ w. is_set w (q % 64)) (ap (λ n. get_or row n 0) same ∙ word-is)

  abbrev rest : ℕ
  rest = word / 2 ^ (from % 64)

  rest-bit : (i : ℕ) → bit_at rest i ≡ bit_at word (from % 64 + i)
  rest-bit i = ap (λ n. n % 2) (shr-shr word (from % 64) i)

  pub none-here : rest ≡ 0 → (q : ℕ) → from ≤ q → q / 64 ≡ from / 64 → holds row q ≡ false
  none-here none q le same =
      let i = q % 64 - from % 64 in
      let at : from % 64 + i ≡ q % 64 = omega (arith, le, same) in
      let bit : bit_at word (q % 64) ≡ 0 = ap (bit_at word) (sym at) ∙ sym (rest-bit i) ∙ ap (λ w. bit_at w i) none ∙ bit_at-zero i in
      bit-is q same ∙ ap (λ n. n == 1) bit

  pub none-whole : rest ≡ 0 → from % 64 ≡ 0 → holds_any row (from / 64) ≡ false
  none-whole none start =
      let whole : word ≡ 0 = omega (arith, none, ap (λ n. word / 2 ^ n) start) in
      ap (λ n. not (n == 0)) (word-is ∙ whole)

  module _ (fits : word < 2 ^ 64) (some : rest ≢ 0) where
    abbrev pub place : ℕ
    place = trailing_zeros w64 rest

    lowest : (place < 64) × (bit_at rest place ≡ 1) × ((i : ℕ) → i < place → bit_at rest i ≡ 0)
    lowest = bit_at-trailing_zeros w64 rest (omega (arith, some)) (omega (arith, shr_le word (from % 64), fits))

    within : from % 64 + place < 64
    within = elim (cases_lt (from % 64 + place) 64) [
      | inl lt ↦ lt
      | inr past ↦ absurd (omega (arith, bit_at_above word 64 (from % 64 + place) fits past, rest-bit place, lowest.1))
    ]

    pub first-word : (from + place) / 64 ≡ from / 64
    first-word = omega (arith, within)

    pub first-here : holds row (from + place) ≡ true
    first-here =
        let at : (from + place) % 64 ≡ from % 64 + place = omega (arith, within) in
        bit-is (from + place) first-word ∙ ap (is_set word) at ∙ ap (λ n. n == 1) (sym (rest-bit place) ∙ lowest.1)

    pub first-fits : from < 2 ^ 64 → from + place < 2 ^ 64
    first-fits lt = omega (arith, within)

    pub first-none : (q : ℕ) → from ≤ q → q < from + place → holds row q ≡ false
    first-none q le lt =
        let same : q / 64 ≡ from / 64 = omega (arith, within) in
        let i = q - from in
        let at : q % 64 ≡ from % 64 + i = omega (arith, within) in
        bit-is q same ∙ ap (is_set word) at ∙ ap (λ n. n == 1) (sym (rest-bit i) ∙ lowest.2 i (omega arith))
