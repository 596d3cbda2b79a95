-- The rows of the records so far, and then the rows of those that are left.
use Rattle.std.proofs.Common.{◌≡◌, ◌∙◌, ◌⊎◌, inl, inr, ℕ, ◌+◌, ◌<◌, ◌≤◌, true, false, List, [], ◌∷◌, ◌++◌, Result, Ok, Err, refl, sym, ap, append_assoc}
use Rattle.std.proofs.lemmas.List.{append-nil}
use Rattle.std.specs.Prelude.{nat_lt}
use Rattle.std.proofs.lemmas.Bool.{le-ltb, lt-ltb}
use Rattle.bp_page.specs.declared.limits.Geometry.{Geometry}
use Rattle.bp_trace.specs.declared.faults.InputFault.{InputFault}
use Rattle.bp_trace.specs.declared.faults.InputFault.TheVariants as input_fault
use Rattle.bp_scripts.specs.declared.rows.Row.{Row}
use Rattle.bp_trace.specs.declared.faults.TraceFault.{TraceFault}
use Rattle.bp_trace.specs.Fields.{◌>>=◌, Refuses}
use Rattle.bp_trace.specs.Record.{row_in}
use Rattle.bp_trace.specs.Script.{IsOutside, fault, fault_at, most_rows, script_from}

-- rows, and then the rows after them
abbrev pub rows_then : List Row → Result (List Row) TraceFault → Result (List Row) TraceFault
rows_then rows (Ok later) = Ok (rows ++ later)
rows_then rows (Err e) = Err e

pub rows_then-none : (later : Result (List Row) TraceFault) → rows_then [] later ≡ later
rows_then-none (Ok later) = refl
rows_then-none (Err e) = refl

rows_then-row : (rows : List Row) (row : Row) (later : Result (List Row) TraceFault) → rows_then rows (later >>= (λ more. Ok (row ∷ more))) ≡ rows_then (rows ++ row ∷ []) later
rows_then-row rows row (Ok later) = ap Ok (sym (append_assoc rows (row ∷ []) later))
rows_then-row rows row (Err e) = refl

within : (n : ℕ) → n ≤ most_rows → nat_lt most_rows n ≡ false
within n h = le-ltb most_rows n h

module _ (g : Geometry) (n : ℕ) (rows : List Row) (left : List (List (List ℕ))) (whole : Result (List Row) TraceFault) (so_far : rows_then rows (script_from g n left) ≡ whole) where
  -- no record more
  pub script_from-end : left ≡ [] → whole ≡ Ok rows
  unfolding script_from
  script_from-end none = sym so_far ∙ rw none (ap Ok (append-nil rows))

  module _ (r : List (List ℕ)) (rest : List (List (List ℕ))) (split : left ≡ r ∷ rest) where
    -- one more row
    pub script_from-row : (row : Row) → n ≤ most_rows → row_in g n r ≡ Ok row → rows_then (rows ++ row ∷ []) (script_from g (n + 1) rest) ≡ whole
    unfolding script_from
    script_from-row row h said = sym (rw (split, within n h, said) (rows_then-row rows row (script_from g (n + 1) rest))) ∙ so_far

    -- a record that is refused
    script_from-refused : (e : InputFault) → n ≤ most_rows → row_in g n r ≡ Err e → whole ≡ Err (fault n e)
    unfolding script_from
    script_from-refused e h said = sym so_far ∙ rw (split, within n h, said) refl

    -- a fault of the record, or want of memory
    pub refused_at : (e : InputFault) → n ≤ most_rows → Refuses e (row_in g n r) → IsOutside (fault_at n e) ⊎ (whole ≡ Err (fault_at n e))
    refused_at input_fault.OutOfMemory h said = inl (inl refl)
    refused_at e h said = inr (script_from-refused e h said)

    -- a record too many
    pub script_from-too_long : most_rows < n → whole ≡ Err (fault n input_fault.TooLong)
    unfolding script_from
    script_from-too_long h = let past : nat_lt most_rows n ≡ true = lt-ltb most_rows n h in sym so_far ∙ rw (split, past) refl
