-- All that follows the sign is digits.
use Rattle.std.proofs.Common.{◌≡◌, ◌∙◌, ap, rules, tests, arith}
use Rattle.std.specs.Char.{is_ascii_digit}
use Rattle.std.specs.List.{list_all}
use Rattle.std.proofs.lemmas.Bool.Decides.{nat_tests}
use Rattle.std.proofs.lemmas.Iterator.{YieldsList-from_slice}
use Rattle.std.proofs.lemmas.Iterator.Search.{all_from_yields_List}
use Rattle.bp_sweep.specs.Column.{without_sign}
use Rattle.bp_sweep.proofs.column.is_numeral.Goals as goal

pub returns-then-not-is_empty : goal.returns-then-not-is_empty
returns-then-not-is_empty c =
    let all = all_from_yields_List is_ascii_digit _ _ c.all.result c.all.ensures.ran (YieldsList-from_slice c.without_sign-digits.result.now cc) (λ x b q k. search (rules, tests)) in
    let same : c.without_sign-digits.result.now ≡ without_sign c.args.field.now = c.without_sign-digits.ensures in
    let digits : c.all.result ≡ list_all is_ascii_digit (without_sign c.args.field.now) = all ∙ ap (list_all is_ascii_digit) same in
    grind (arith, nat_tests, digits, same)
