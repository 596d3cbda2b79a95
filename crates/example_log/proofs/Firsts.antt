-- The oldest record that redo of a page wants.
use Rattle.std.proofs.Common.{◌≡◌, sym, ap, ◌∙◌, ℕ, suc, ◌+◌, ◌<◌, Bool, true, false, cond, List, [], ◌∷◌, ◌++◌, length, take, drop, reverse, get_or, filter, append_assoc, add-one}
use Rattle.std.proofs.lemmas.List.{take-append-drop, reverse-append}
use Rattle.std.proofs.lemmas.List.Elements.{filter-append}
use Rattle.std.proofs.Math.Seq.{drop-cons, take-suc}
use Rattle.bp_trail.specs.declared.records.LogRecord.{LogRecord}
use Rattle.bp_trail.specs.Recovery.{wanted, records_from}

module _ (from p : ℕ) (log : List LogRecord) (i : ℕ) (r : LogRecord) (below : i < length log) (is : r ≡ get_or log i r) (none : records_from from (reverse (take i log)) p ≡ []) where
  -- the log, newest first
  cut : reverse log ≡ (reverse (drop (suc i) log) ++ r ∷ []) ++ reverse (take i log)
  cut =
      let rest = drop (suc i) log in
      ap reverse (sym (take-append-drop i log) ∙ ap (λ xs. take i log ++ xs) (drop-cons log i r below ∙ ap (λ (x : LogRecord). x ∷ rest) (sym is)))
      ∙ reverse-append (take i log) (r ∷ rest) ∙ ap (λ xs. xs ++ reverse (take i log)) (reverse-append (r ∷ []) rest)

  pub found : wanted from p r ≡ true → (newer : List LogRecord) × (records_from from (reverse log) p ≡ newer ++ r ∷ [])
  found h =
      let f = wanted from p in
      let rest = reverse (drop (suc i) log) in
      let here : filter f (r ∷ []) ≡ r ∷ [] = ap (λ (b : Bool). cond b (r ∷ []) []) h in (
        filter f rest,
        ap (filter f) cut ∙ filter-append f (rest ++ r ∷ []) (reverse (take i log))
            ∙ ap (λ xs. filter f (rest ++ r ∷ []) ++ xs) none
            ∙ ap (λ xs. xs ++ []) (filter-append f rest (r ∷ []) ∙ ap (λ xs. filter f rest ++ xs) here)
            ∙ append_assoc (filter f rest) (r ∷ []) [],
      )

  pub passed : wanted from p r ≡ false → records_from from (reverse (take (i + 1) log)) p ≡ []
  passed h =
      let f = wanted from p in
      let front : take (i + 1) log ≡ take i log ++ r ∷ [] = rw add-one (take-suc log i r below ∙ ap (λ (x : LogRecord). take i log ++ x ∷ []) (sym is)) in
      ap (λ xs. filter f (reverse xs)) front
      ∙ ap (filter f) (reverse-append (take i log) (r ∷ []))
      ∙ ap (λ (b : Bool). cond b (r ∷ filter f (reverse (take i log))) (filter f (reverse (take i log)))) h
      ∙ none

-- the records so far, and one more
pub one-more : (from p : ℕ) (log : List LogRecord) (i : ℕ) (r : LogRecord) → i < length log → r ≡ get_or log i r
    → records_from from (reverse (take (i + 1) log)) p ≡ cond (wanted from p r) (r ∷ records_from from (reverse (take i log)) p) (records_from from (reverse (take i log)) p)
one-more from p log i r below is =
    let front : take (i + 1) log ≡ take i log ++ r ∷ [] = rw add-one (take-suc log i r below ∙ ap (λ (x : LogRecord). take i log ++ x ∷ []) (sym is)) in
    ap (λ xs. filter (wanted from p) (reverse xs)) front ∙ ap (filter (wanted from p)) (reverse-append (take i log) (r ∷ []))
