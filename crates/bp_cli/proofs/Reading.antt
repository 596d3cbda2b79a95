-- What a getter of matches reads.
use Rattle.std.proofs.Common.{◌≡◌, ℕ, ◌-◌, ◌^◌, ◌<◌, ◌≤◌, ◌&&◌, nat_lt, nat_le, true, false, Bool, ap, refl, List, Option, Some, None, Result, Ok, Err, arith}
use Rattle.std.proofs.lemmas.Bool.{le-leb, lt-ltb, ltb-true}
use Rattle.std.specs.Str.Parse.{IsNumeral, ParsesUnsigned, digits_value, without_leading_plus}
use Rattle.clap.specs.declared.builder.value_parser.ValueParser.TheVariants as parser
use Rattle.clap.specs.ValueTests.{is_numeral}
use Rattle.clap.specs.Words.{ReadsOne}
use Rattle.clap.proofs.ValueTestLemmas.{Accepts-accepts, accepts-Accepts}
use Rattle.clap.proofs.WalkLemmas.{both}
use Rattle.bp_cli.specs.Words.{unsigned_of, ◌>>=◌}

-- whether `u64` reads a number from the text
abbrev is_unsigned : List ℕ → Bool
is_unsigned text = is_numeral (without_leading_plus text) && nat_lt (digits_value 10 (without_leading_plus text)) (2 ^ 64)

abbrev IsUnsigned : List ℕ → Type 0
IsUnsigned text = IsNumeral 10 (without_leading_plus text) × (digits_value 10 (without_leading_plus text) < 2 ^ 64)

and_true : (a b : Bool) → a ≡ true → b ≡ true → a && b ≡ true
and_true true true e f = refl
and_true true false e f = f
and_true false b e f = e

tested : (text : List ℕ) → IsUnsigned text → is_unsigned text ≡ true
tested text h =
    let digits = without_leading_plus text in
    let value = digits_value 10 digits in
    let most : value ≤ 2 ^ 64 - 1 = let fits : value < 2 ^ 64 = h.1 in omega arith in
    let passes = Accepts-accepts false (parser.Unsigned 0 (2 ^ 64 - 1)) text (h.0, h.1, omega arith, most) in
    let numeral = (both (is_numeral digits) (nat_lt value (2 ^ 64) && (nat_le 0 value && nat_le value (2 ^ 64 - 1))) passes).0 in
    and_true (is_numeral digits) (nat_lt value (2 ^ 64)) numeral (lt-ltb value (2 ^ 64) h.1)

proved : (text : List ℕ) → is_unsigned text ≡ true → IsUnsigned text
proved text e =
    let digits = without_leading_plus text in
    let value = digits_value 10 digits in
    let parts = both (is_numeral digits) (nat_lt value (2 ^ 64)) e in
    let fits : value < 2 ^ 64 = ltb-true value (2 ^ 64) parts.1 in
    let most : value ≤ 2 ^ 64 - 1 = omega arith in
    let ends = and_true (nat_le 0 value) (nat_le value (2 ^ 64 - 1)) (le-leb 0 value (omega arith)) (le-leb value (2 ^ 64 - 1) most) in
    let passes = accepts-Accepts false (parser.Unsigned 0 (2 ^ 64 - 1)) text
    (and_true (is_numeral digits) _ parts.0 (and_true (nat_lt value (2 ^ 64)) _ parts.1 ends)) in
    (passes.0, fits)

-- a getter of a number reads what the text says, and nothing where it says no number
pub unsigned_read : {E : Type 0} (gives : List ℕ → Result ℕ E → Type 0) (text : List ℕ) (r : Option ℕ)
    → ((x : Result ℕ E) → gives text x → ParsesUnsigned 64 10 text x) → ReadsOne gives text r → r ≡ unsigned_of text
unsigned_read gives text (Some n) parses reads =
    let got = parses (Ok n) reads in
    rw (tested text got.0) (ap Some got.1)
unsigned_read gives text None parses reads = go (is_unsigned text) refl
  where
    go : (b : Bool) → is_unsigned text ≡ b → None ≡ unsigned_of text
    go true e = absurd (parses (Err reads.0) reads.1 (proved text e))
    go false e = rw e refl

-- the same where there may be no text
pub number_read : {E : Type 0} (gives : List ℕ → Result ℕ E → Type 0) (text : Option (List ℕ)) (r : Option ℕ)
    → ((t : List ℕ) (x : Result ℕ E) → gives t x → ParsesUnsigned 64 10 t x) → (text ≡ None → r ≡ None)
    → ((t : List ℕ) → text ≡ Some t → ReadsOne gives t r) → r ≡ text >>= unsigned_of
number_read gives None r parses none some = none refl
number_read gives (Some t) r parses none some = unsigned_read gives t r (parses t) (some t refl)
