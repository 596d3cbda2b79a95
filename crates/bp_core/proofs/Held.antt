-- Of the pages that are away, those are held that are being read, and none is unsaved.
use Rattle.std.proofs.Common.{◌≡◌, ℕ, true, false, None, sym, ap, ◌∙◌}
use Rattle.std.specs.Prelude.{◌||◌}
use Rattle.std.proofs.lemmas.Bool.{true≢false, false_from_ne_true}
use Rattle.bp_replacer.specs.Histories.{is_held}
use Rattle.bp_trail.specs.Parameters.{Parameters}
use Rattle.bp_trail.specs.Trail.{Trail}
use Rattle.bp_trail.specs.Places.{loading, resident}
use Rattle.bp_trail.specs.Saved.{unsaved, first_lsn}
use Rattle.bp_trail.specs.Legal.{Legal}
use Rattle.bp_trail.proofs.Places.{places}
use Rattle.bp_trail.proofs.Redo.{first-unsaved, none-of}
use Rattle.bp_core.specs.Agreement.{Parts, Agrees}

module _ (c : Parameters) (past : Trail) (x : Parts) (a : Agrees c past x) (p : ℕ) where
  pub here-idle : resident past p ≡ true → loading past p ≡ false
  here-idle here = false_from_ne_true (loading past p) (λ l. true≢false (sym here ∙ (places c past a.legal).away p l))

  pub away-held : resident past p ≡ false → is_held x.blocks p ≡ loading past p
  away-held away = a.observed.held_is p ∙ ap (λ b. b || loading past p) away

pub away-saved : (c : Parameters) (past : Trail) → Legal c past → (p : ℕ) → resident past p ≡ false → false ≡ unsaved past p
away-saved c past legal p away = sym (false_from_ne_true (unsaved past p) (λ u. true≢false (sym ((places c past legal).dirty p u) ∙ away)))

pub away-first : (c : Parameters) (past : Trail) → Legal c past → (p : ℕ) → resident past p ≡ false → None ≡ first_lsn past p
away-first c past legal p away = sym (none-of (first_lsn past p) (first-unsaved past p ∙ sym (away-saved c past legal p away)))
