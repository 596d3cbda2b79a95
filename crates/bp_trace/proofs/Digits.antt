-- Digits, one after the other.
use Rattle.std.proofs.Common.{◌≡◌, ◌∙◌, ℕ, ◌+◌, ◌-◌, ◌*◌, ◌<◌, ◌≤◌, ◌^◌, true, List, length, take, get_or, refl, arith, rules, length-take}
use Rattle.std.specs.Char.{digit_value, is_ascii_digit}
use Rattle.std.specs.List.{list_all}
use Rattle.std.specs.Str.Parse.{digits_value}
use Rattle.std.proofs.lemmas.Grind.{common_steps}
use Rattle.std.proofs.lemmas.Int.Digits.{digits_value_more}
use Rattle.std.proofs.lemmas.List.Folds.{list_all_more}
use Rattle.std.proofs.lemmas.Str.Parse.{IsNumeralModel, digits_value_short, numerals_by_value}

-- the words for digits here are those of std
pub numerals : IsNumeralModel (λ ds. list_all is_ascii_digit ds ≡ true) (digits_value 10)
numerals = numerals_by_value _ (search rules)

digit_value-digit : (d : ℕ) → is_ascii_digit d ≡ true → digit_value d ≡ d - 48
digit_value-digit d is = grind (arith, common_steps)

pub digits_value-take : (text : List ℕ) (i : ℕ) → i < length text → is_ascii_digit (get_or text i 0) ≡ true
    → digits_value 10 (take (i + 1) text) ≡ digits_value 10 (take i text) * 10 + (get_or text i 0 - 48)
digits_value-take text i h is = digits_value_more 10 text i h ∙ rw (digit_value-digit (get_or text i 0) is) refl

pub digits-take : (text : List ℕ) (i : ℕ) → i < length text → list_all is_ascii_digit (take i text) ≡ true → is_ascii_digit (get_or text i 0) ≡ true
    → list_all is_ascii_digit (take (i + 1) text) ≡ true
digits-take text i h before here = rw (list_all_more is_ascii_digit text i 0 h, before, here) refl

-- one more digit fits, while there are at most 19
pub one_more_fits : (text : List ℕ) (i d n : ℕ) → i < 19 → list_all is_ascii_digit (take i text) ≡ true → n ≡ digits_value 10 (take i text) → is_ascii_digit d ≡ true
    → n * 10 + (d - 48) < 2 ^ 64
one_more_fits text i d n h all e is =
    let short = digits_value_short numerals (take i text) 18 all (omega (arith, length-take i text)) in
    let digit : d ≤ 57 = grind (arith, common_steps) in
    omega (arith, short)
