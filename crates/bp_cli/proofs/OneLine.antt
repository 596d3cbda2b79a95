-- Texts without a line end.
use Rattle.std.proofs.Common.{◌≡◌, ℕ, ◌+◌, ◌/◌, ◌%◌, ◌≤◌, ◌≢◌, ◌&&◌, ◌||◌, ◌++◌, nat_le, nat_lt, cond, if◌then◌else◌, true, false, Bool, Bor, List, [], ◌∷◌, map, ap, refl, sym, arith}
use Rattle.std.proofs.lemmas.Bool.{le-leb, leb-false, ne_eqb}
use Rattle.std.proofs.lemmas.List.Folds.{flat_map-map}
use Rattle.std.specs.Char.{encode_utf8, is_control}
use Rattle.std.specs.List.{join_by, list_all}
use Rattle.std.specs.Prelude.{chars, encode_utf8_all}
use Rattle.bp_cli.specs.Line.{is_line, is_plain_byte, plain, plain_char}

-- the same text, of the texts behind references
pub join-texts : (sep : List ℕ) (lines : List (Bor (List ℕ))) → join_by (λ line. line.now) sep lines ≡ join_by (λ line. line) sep (map (λ line. line.now) lines)
join-texts sep [] = refl
join-texts sep (x ∷ rest) =
    let same = flat_map-map (λ (y : List ℕ). sep ++ y) (λ (line : Bor (List ℕ)). line.now) rest in
    ap (λ (t : List ℕ). x.now ++ t) (sym same)

and_both : (a b : Bool) → a && b ≡ true → (a ≡ true) × (b ≡ true)
and_both true b e = (refl, e)
and_both false b e = cc

pub all-append : {X : Type 0} (p : X → Bool) (xs ys : List X) → list_all p xs ≡ true → list_all p ys ≡ true → list_all p (xs ++ ys) ≡ true
all-append p [] ys e f = f
all-append p (x ∷ xs) ys e f =
    let parts = and_both (p x) (list_all p xs) e in
    rw (parts.0, all-append p xs ys parts.1 f) refl

pub byte-plain : (b : ℕ) → 32 ≤ b → b ≢ 127 → is_plain_byte b ≡ true
byte-plain b least other = rw (le-leb 32 b least, ne_eqb b 127 other) refl

high-plain : (b : ℕ) → 128 ≤ b → is_plain_byte b ≡ true
high-plain b high = byte-plain b (omega arith) (λ e. omega arith)

-- a character that is no control character is no such byte
low-plain : (c : ℕ) → is_control c ≡ false → is_plain_byte c ≡ true
low-plain c none = go (nat_le 0 c) (nat_le c 31) (nat_le 127 c) (nat_le c 159) refl refl refl refl none
  where
    go : (w x y z : Bool) → nat_le 0 c ≡ w → nat_le c 31 ≡ x → nat_le 127 c ≡ y → nat_le c 159 ≡ z → (w && x) || (y && z) ≡ false → is_plain_byte c ≡ true
    go false x y z least less more most none = let bad : nat_le 0 c ≡ true = le-leb 0 c (omega arith) in cc
    go true true y z least less more most none = cc
    go true false true true least less more most none = cc
    go true false true false least less more most none =
        let above = leb-false c 159 most in
        byte-plain c (omega (arith, above)) (λ e. omega (arith, above))
    go true false false z least less more most none =
        let above = leb-false c 31 less in
        let below = leb-false 127 c more in
        byte-plain c (omega (arith, above)) (λ e. omega (arith, below))

encoded-line : (c : ℕ) → is_control c ≡ false → is_line (encode_utf8 c) ≡ true
unfolding encode_utf8
encoded-line c none = go (nat_lt c 128) (nat_lt c 2048) (nat_lt c 65536)
  where
    next : (n : ℕ) → is_plain_byte (128 + n % 64) ≡ true
    next n = high-plain (128 + n % 64) (omega arith)

    go : (x y z : Bool) → is_line (cond x (c ∷ []) (cond y ((192 + c / 64) ∷ (128 + c % 64) ∷ [])
        (cond z ((224 + c / 4096) ∷ (128 + (c / 64) % 64) ∷ (128 + c % 64) ∷ [])
        ((240 + c / 262144) ∷ (128 + (c / 4096) % 64) ∷ (128 + (c / 64) % 64) ∷ (128 + c % 64) ∷ [])))) ≡ true
    go true y z = rw (low-plain c none) refl
    go false true z = rw (high-plain (192 + c / 64) (omega arith), next c) refl
    go false false true = rw (high-plain (224 + c / 4096) (omega arith), next (c / 64), next c) refl
    go false false false = rw (high-plain (240 + c / 262144) (omega arith), next (c / 4096), next (c / 64), next c) refl

char-line : (c : ℕ) → is_line (encode_utf8 (plain_char c)) ≡ true
unfolding encode_utf8
char-line c = go (is_control c) refl
  where
    go : (b : Bool) → is_control c ≡ b → is_line (encode_utf8 (if b then 63 else c)) ≡ true
    go true is = refl
    go false is = encoded-line c is

chars-line : (cs : List ℕ) → is_line (encode_utf8_all (map plain_char cs)) ≡ true
chars-line [] = refl
chars-line (c ∷ cs) = all-append is_plain_byte (encode_utf8 (plain_char c)) (encode_utf8_all (map plain_char cs)) (char-line c) (chars-line cs)

-- a plain text is one line
pub plain-is_line : (text : List ℕ) → is_line (plain text) ≡ true
plain-is_line text = chars-line (chars text)
