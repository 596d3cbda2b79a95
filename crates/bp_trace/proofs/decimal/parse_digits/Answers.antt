use Rattle.std.proofs.Common.{◌≡◌, ◌∙◌, true, arith, sym, refl, get_or, take_all}
use Rattle.std.specs.Char.{is_ascii_digit}
use Rattle.std.proofs.lemmas.List.Folds.{list_all_at}
use Rattle.bp_trace.specs.Numbers.{digits_in}
use Rattle.bp_trace.proofs.Digits.{digits-take, digits_value-take, one_more_fits}
use Rattle.bp_trace.proofs.decimal.parse_digits.Goals as goal

pub returns-then-not-is_ascii_digit : goal.returns-then-not-is_ascii_digit
unfolding digits_in
returns-then-not-is_ascii_digit c =
    let other = sym c.is_ascii_digit.ensures.value ∙ c.if-not-is_ascii_digit.true in
    rw (list_all_at is_ascii_digit c.args.text.now c.loop-byte.byte-index 0 c.loop-byte-test.true other) refl

pub overflow_mul-value : goal.overflow_mul-value
overflow_mul-value c =
    let short = c.loop-byte-test.true in
    let inv = c.loop-byte.invariant in
    omega (arith, one_more_fits c.args.text.now c.loop-byte.byte-index 48 c.loop-byte.value (omega arith) inv.digits inv.value refl)

pub overflow_add-value : goal.overflow_add-value
overflow_add-value c =
    let short = c.loop-byte-test.true in
    let inv = c.loop-byte.invariant in
    let digit = get_or c.args.text.now c.loop-byte.byte-index 0 in
    let is_digit = sym c.is_ascii_digit.ensures.value ∙ c.if-not-is_ascii_digit.false in
    let here = c.from.ensures in
    omega (arith, one_more_fits c.args.text.now c.loop-byte.byte-index digit c.loop-byte.value (omega arith) inv.digits inv.value is_digit)

pub loop-byte-preserved : goal.loop-byte-preserved
loop-byte-preserved c =
    let text = c.args.text.now in
    let i = c.loop-byte.byte-index in
    let within = c.loop-byte-test.true in
    let is_digit : is_ascii_digit (get_or text i 0) ≡ true = sym c.is_ascii_digit.ensures.value ∙ c.if-not-is_ascii_digit.false in
    record {
      value = rw (digits_value-take text i within is_digit, ← c.loop-byte.invariant.value, c.from.ensures) refl;
      digits = digits-take text i within c.loop-byte.invariant.digits is_digit;
    }

pub returns : goal.returns
unfolding digits_in
returns c =
    let whole = take_all c.loop-byte.byte-index c.args.text.now c.loop-byte-test.false in
    rw (rw whole at c.loop-byte.invariant.digits, rw whole at c.loop-byte.invariant.value) refl
