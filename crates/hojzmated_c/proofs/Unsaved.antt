-- An unsaved page is in a frame, and has a write that is not saved.
use Rattle.std.proofs.Common.{◌≡◌, refl, sym, ap, ◌∙◌, ℕ, true, false, Option, Some, None}
use Rattle.std.specs.Option.{is_some, IsSome, IfNone}
use Rattle.std.proofs.lemmas.Bool.{true≢false}
use Rattle.bp_trail.specs.Parameters.{Parameters}
use Rattle.bp_trail.specs.Trail.{Trail}
use Rattle.bp_trail.specs.Places.{resident}
use Rattle.bp_trail.specs.Saved.{unsaved, first_lsn}
use Rattle.bp_trail.specs.Legal.{Legal}
use Rattle.bp_trail.proofs.Places.{places}
use Rattle.bp_trail.proofs.Redo.{first-unsaved}

pub in-a-frame : (c : Parameters) (past : Trail) → Legal c past → (p : ℕ) → unsaved past p ≡ true → (o : Option ℕ) → IfNone o (resident past p ≡ false) → IsSome o
in-a-frame c past legal p u (Some lsn) away = refl
in-a-frame c past legal p u None away = absurd (true≢false (sym ((places c past legal).dirty p u) ∙ away))

pub has-a-first : (past : Trail) (p : ℕ) → unsaved past p ≡ true → (o : Option ℕ) → o ≡ first_lsn past p → IsSome o
has-a-first past p u o is = ap is_some is ∙ first-unsaved past p ∙ u
