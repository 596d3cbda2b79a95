-- The log bound, one row later.
use Rattle.std.proofs.Common.{◌≡◌, ℕ, ◌≤◌, List, [], ◌∷◌, ◌++◌, length, refl, sym, ap, ◌∙◌, arith, rules}
use Rattle.std.specs.Prelude.{Option, Some, None, filter_map}
use Rattle.bp_scripts.specs.declared.rows.Row.{Row}
use Rattle.bp_trail.specs.Lists.{greatest}
use Rattle.bp_scripts.specs.LogBound.{log_of, logged, at_least, row_at}

greatest_next : {X : Type 0} (f : X → Option ℕ) (x : X) (xs : List X) → greatest (filter_map f (x ∷ xs)) ≡ at_least (f x) (greatest (filter_map f xs))
greatest_next f x xs = grind rules

pub logged_next : (row : Row) (rows : List Row) → logged (row ∷ rows) ≡ at_least (log_of row.step) (logged rows)
logged_next row rows = greatest_next (λ row. log_of row.step) row rows

at_least-at_least : (a b : Option ℕ) (n : ℕ) → at_least a (at_least b n) ≡ at_least b (at_least a n)
at_least-at_least None b n = refl
at_least-at_least (Some k) None n = refl
at_least-at_least (Some k) (Some l) n = omega arith

pub logged-snoc : (rows : List Row) (row : Row) → logged (rows ++ row ∷ []) ≡ at_least (log_of row.step) (logged rows)
logged-snoc [] row = logged_next row []
logged-snoc (x ∷ rows) row =
    logged_next x (rows ++ row ∷ []) ∙ ap (at_least (log_of x.step)) (logged-snoc rows row) ∙ at_least-at_least (log_of x.step) (log_of row.step) (logged rows)
    ∙ ap (at_least (log_of row.step)) (sym (logged_next x rows))

pub row_last : (ends : List ℕ) (place : ℕ) → row_at ends place ≤ length ends
row_last [] place = omega arith
row_last (end ∷ ends) place = grind (arith, row_last ends place)
