-- In a legal trail nothing is known of a page outside the file.
use Rattle.std.proofs.Common.{◌≡◌, refl, sym, ◌∙◌, ℕ, nat_lt, false, List, [], ◌∷◌}
use Rattle.std.proofs.lemmas.Bool.{true≢false, false_from_ne_true}
use Rattle.bp_references.specs.Burst.{Reference}
use Rattle.bp_trail.specs.Parameters.{Parameters}
use Rattle.bp_trail.specs.Trail.{Trail}
use Rattle.bp_trail.specs.Places.{resident}
use Rattle.bp_trail.specs.Saved.{unsaved}
use Rattle.bp_trail.specs.References.{references, is_empty}
use Rattle.bp_trail.specs.Legal.{Legal}
use Rattle.bp_trail.proofs.Places.{places}
use Rattle.bp_trail.proofs.Ranges.{ranges, referred}

module _ (c : Parameters) (past : Trail) (l : Legal c past) (p : ℕ) (out : nat_lt p c.pages ≡ false) where
  pub away-outside : resident past p ≡ false
  away-outside = false_from_ne_true (resident past p) (λ here. true≢false (sym ((ranges c past l).pages p here) ∙ out))

  pub saved-outside : unsaved past p ≡ false
  saved-outside = false_from_ne_true (unsaved past p) (λ u. true≢false (sym ((places c past l).dirty p u) ∙ away-outside))

  pub unknown-outside : references c past p ≡ []
  unknown-outside = none (references c past p) (λ some. true≢false (sym ((referred c past l).within p some) ∙ out))
    where
      none : (refs : List Reference) → (is_empty refs ≡ false → ⊥) → refs ≡ []
      none [] h = refl
      none (r ∷ older) h = absurd (h refl)
