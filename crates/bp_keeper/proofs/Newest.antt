-- The last entry of a list in memory is the newest of the trail.
use Rattle.std.proofs.Common.{◌≡◌, ◌∙◌, [], ◌∷◌, ◌++◌, reverse, ap}
use Rattle.std.proofs.lemmas.List.{reverse-append}
use Rattle.bp_trail.specs.declared.entries.Entry.{Entry}
use Rattle.bp_trail.specs.Trail.{Trail}

pub newest : (items more before : Trail) (e : Entry) → more ≡ items ++ e ∷ [] → reverse more ++ before ≡ e ∷ (reverse items ++ before)
newest items more before e is = ap (λ xs. reverse xs ++ before) is ∙ ap (λ xs. xs ++ before) (reverse-append items (e ∷ []))
