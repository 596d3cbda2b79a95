-- The order of backward K-distances.
use Rattle.std.proofs.Common.{◌≡◌, ℕ, zero, suc, ◌-◌, ◌≤◌, nat_lt, arith}
use Rattle.std.proofs.lemmas.Bool.{ne_eqb}
use Rattle.std.proofs.lemmas.Bool.Decides.{nat_tests}
use Rattle.bp_references.specs.Distance.{backward_distance, is_farther}

some_before : (t a b : ℕ) → suc a ≤ t → suc b ≤ t → nat_lt (t - suc b) (t - suc a) ≡ nat_lt (suc a) (suc b)
some_before t a b below_a below_b = grind (arith, nat_tests)

pub farther_is_less : (t a b : ℕ) → a ≤ t → b ≤ t → is_farther (backward_distance t a) (backward_distance t b) ≡ nat_lt a b
farther_is_less t zero zero below_a below_b = grind (arith, nat_tests)
farther_is_less t zero (suc b) below_a below_b = rw (ne_eqb (suc b) 0 (λ e. omega arith)) (grind (arith, nat_tests))
farther_is_less t (suc a) zero below_a below_b = rw (ne_eqb (suc a) 0 (λ e. omega arith)) (grind (arith, nat_tests))
farther_is_less t (suc a) (suc b) below_a below_b = rw (ne_eqb (suc a) 0 (λ e. omega arith), ne_eqb (suc b) 0 (λ e. omega arith)) (some_before t a b below_a below_b)
