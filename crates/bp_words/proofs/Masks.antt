-- What a mask leaves of a word, field by field.
use Rattle.std.proofs.Common.{◌≡◌, ℕ, zero, suc, ◌+◌, ◌*◌, ◌/◌, ◌%◌, ◌<◌, ◌^◌, bit_and, sym, ap, ◌∙◌, arith}
use Rattle.std.specs.Int.Bits.{and_zero_r}
use Rattle.std.proofs.lemmas.Nat.{and_mask, and_block}
use Rattle.std.proofs.lemmas.Nat.Bits.{and_pow, and_high}
use Rattle.bp_words.specs.Fields.{packed}

-- the fields from the highest on
abbrev nested : ℕ → ℕ → ℕ → ℕ → ℕ → ℕ → ℕ → ℕ → ℕ
nested r p w q o s c j = ((((((j * 2 ^ 1 + c) * 2 ^ 1 + s) * 2 ^ 1 + o) * 2 ^ 1 + q) * 2 ^ 1 + w) * 2 ^ 20 + p) * 2 ^ 20 + r

packed_nested : (r p w q o s c j : ℕ) → nested r p w q o s c j ≡ packed r p w q o s c j
packed_nested r p w q o s c j = omega arith

-- each field by itself
pub and_fields : (r p w q o s c j r' p' w' q' o' s' c' j' : ℕ) → r < 1048576 → p < 1048576 → w < 2 → q < 2 → o < 2 → s < 2 → c < 2 → r' < 1048576 → p' < 1048576 → w' < 2 → q' < 2 → o' < 2 → s' < 2 → c' < 2
    → bit_and (packed r p w q o s c j) (packed r' p' w' q' o' s' c' j') ≡ packed (bit_and r r') (bit_and p p') (bit_and w w') (bit_and q q') (bit_and o o') (bit_and s s') (bit_and c c') (bit_and j j')
and_fields r p w q o s c j r' p' w' q' o' s' c' j' lr lp lw lq lo ls lc lr' lp' lw' lq' lo' ls' lc' =
    let e1 = and_block 1 j j' c c' lc lc' in
    let e2 = and_block 1 (j * 2 ^ 1 + c) (j' * 2 ^ 1 + c') s s' ls ls' in
    let e3 = and_block 1 ((j * 2 ^ 1 + c) * 2 ^ 1 + s) ((j' * 2 ^ 1 + c') * 2 ^ 1 + s') o o' lo lo' in
    let e4 = and_block 1 (((j * 2 ^ 1 + c) * 2 ^ 1 + s) * 2 ^ 1 + o) (((j' * 2 ^ 1 + c') * 2 ^ 1 + s') * 2 ^ 1 + o') q q' lq lq' in
    let e5 = and_block 1 ((((j * 2 ^ 1 + c) * 2 ^ 1 + s) * 2 ^ 1 + o) * 2 ^ 1 + q) ((((j' * 2 ^ 1 + c') * 2 ^ 1 + s') * 2 ^ 1 + o') * 2 ^ 1 + q') w w' lw lw' in
    let e6 = and_block 20 (((((j * 2 ^ 1 + c) * 2 ^ 1 + s) * 2 ^ 1 + o) * 2 ^ 1 + q) * 2 ^ 1 + w) (((((j' * 2 ^ 1 + c') * 2 ^ 1 + s') * 2 ^ 1 + o') * 2 ^ 1 + q') * 2 ^ 1 + w') p p' lp lp' in
    let e7 = and_block 20 ((((((j * 2 ^ 1 + c) * 2 ^ 1 + s) * 2 ^ 1 + o) * 2 ^ 1 + q) * 2 ^ 1 + w) * 2 ^ 20 + p) ((((((j' * 2 ^ 1 + c') * 2 ^ 1 + s') * 2 ^ 1 + o') * 2 ^ 1 + q') * 2 ^ 1 + w') * 2 ^ 20 + p') r r' lr lr' in
    let whole : bit_and (nested r p w q o s c j) (nested r' p' w' q' o' s' c' j') ≡ packed (bit_and r r') (bit_and p p') (bit_and w w') (bit_and q q') (bit_and o o') (bit_and s s') (bit_and c c') (bit_and j j') = omega arith in
    (λ i. bit_and (sym (packed_nested r p w q o s c j) i) (sym (packed_nested r' p' w' q' o' s' c' j') i)) ∙ whole

-- a word is its fields
pub whole : (n : ℕ) → n ≡ packed (n % 1048576) (n / 1048576 % 1048576) (n / 1099511627776 % 2) (n / 2199023255552 % 2) (n / 4398046511104 % 2) (n / 8796093022208 % 2) (n / 17592186044416 % 2) (n / 35184372088832)
whole n = omega arith

-- what a mask of whole flags leaves, and of parts of the counts
pub masked : (n r p w q o s c j : ℕ) → r < 1048576 → p < 1048576 → w < 2 → q < 2 → o < 2 → s < 2 → c < 2
    → bit_and n (packed r p w q o s c j) ≡ packed (bit_and (n % 1048576) r) (bit_and (n / 1048576 % 1048576) p) (n / 1099511627776 % 2 * w) (n / 2199023255552 % 2 * q) (n / 4398046511104 % 2 * o) (n / 8796093022208 % 2 * s) (n / 17592186044416 % 2 * c) (bit_and (n / 35184372088832) j)
masked n r p w q o s c j lr lp lw lq lo ls lc =
    ap (λ k. bit_and k (packed r p w q o s c j)) (whole n)
    ∙ (and_fields (n % 1048576) (n / 1048576 % 1048576) (n / 1099511627776 % 2) (n / 2199023255552 % 2) (n / 4398046511104 % 2) (n / 8796093022208 % 2) (n / 17592186044416 % 2) (n / 35184372088832) r p w q o s c j
    (omega arith) (omega arith) (omega arith) (omega arith) (omega arith) (omega arith) (omega arith) lr lp lw lq lo ls lc
    ∙ (λ i. packed (bit_and (n % 1048576) r) (bit_and (n / 1048576 % 1048576) p) (flag (n / 1099511627776) w lw i) (flag (n / 2199023255552) q lq i) (flag (n / 4398046511104) o lo i) (flag (n / 8796093022208) s ls i) (flag (n / 17592186044416) c lc i) (bit_and (n / 35184372088832) j)))
  where
    flag : (m b : ℕ) → b < 2 → bit_and (m % 2) b ≡ m % 2 * b
    flag m zero l = and_zero_r (m % 2) ∙ omega arith
    flag m (suc zero) l = and_mask (m % 2) 1 ∙ omega arith
    flag m (suc (suc b)) l = absurd (omega arith)

-- a count of which all is kept, or whether it is half of the most, and joins
pub none_of : (m : ℕ) → bit_and m 0 ≡ 0
none_of m = and_zero_r m

pub all_of : (m : ℕ) → m < 1048576 → bit_and m 1048575 ≡ m
all_of m small = and_mask m 20 ∙ omega arith

pub half_of : (m : ℕ) → m < 1048576 → bit_and m 524288 ≡ 524288 * (m / 524288)
half_of m small = let e : bit_and m 524288 ≡ m / 524288 % 2 * 524288 = and_pow m 19 in omega arith

pub due_of : (m : ℕ) → m < 524288 → bit_and m 524256 ≡ 32 * (m / 32)
due_of m small = let e : bit_and m 524256 ≡ m / 32 % 16384 * 32 = and_high m 14 5 in omega arith

pub all_joins : (m : ℕ) → m < 524288 → bit_and m 524287 ≡ m
all_joins m small = and_mask m 19 ∙ omega arith
