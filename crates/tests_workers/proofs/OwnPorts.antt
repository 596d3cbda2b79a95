-- What the worker's own word comes to once the passes went back that it held.
use Rattle.std.proofs.Common.{◌≡◌, refl, ap, ℕ, zero, suc, ◌≤◌, arith, List, [], ◌∷◌, Option, Some, None}
use Rattle.std.specs.Prelude.{IfSome}
use Rattle.bp_trail.specs.Trail.{Trail}
use Rattle.bp_trail.specs.Clock.{durable}
use Rattle.bp_trail.specs.HeldPasses.{unfix_of}
use Rattle.bp_core.specs.CoreView.{CoreView}
use Rattle.bp_core.specs.Work.{Reads, Writes}
use Rattle.bp_shared.specs.Sessions.{DoesWorkSaid}
use Rattle.bp_workers.specs.Giving.{GoBack}
use Rattle.bp_workers.specs.Giving.GoBack.{no_more, one_more}
use Rattle.bp_workers.specs.Lists.{SideBySide}
use Rattle.bp_workers.specs.Workers.{UpkeepValue}
use Rattle.bp_workers.specs.Runs.{KeepsUp}

-- what follows at each place holds side by side
pub side_weaker : {A B : Type 0} (P Q : ℕ → A → B → Type 0) → ((n : ℕ) (x : A) (y : B) → P n x y → Q n x y) → (n : ℕ) (xs : List A) (ys : List B) → SideBySide P n xs ys → SideBySide Q n xs ys
side_weaker P Q follows n [] [] each = tt
side_weaker P Q follows n (x ∷ xs) (y ∷ ys) each = (follows n x y each.0, side_weaker P Q follows (suc n) xs ys each.1)
side_weaker P Q follows n [] (y ∷ ys) each = absurd each
side_weaker P Q follows n (x ∷ xs) [] each = absurd each

-- a pass that goes back is no work of the device
pub back_work : {A : Type 0} (reads : Reads A) (writes : Writes A) (said after : Trail) (port kept : A) → GoBack said after → DoesWorkSaid reads writes [] said port kept → DoesWorkSaid reads writes [] after port kept
back_work reads writes said after port kept no_more work = work
back_work reads writes said after port kept (one_more g later rest held own) work =
    let so_far = back_work reads writes said _ port kept rest work in
    record { piece = unfix_of g ∷ so_far.piece; grows = ap (λ es. unfix_of g ∷ es) so_far.grows; through = (kept, so_far.through, refl) }

-- what client 0 did not raise is not marked
pub unmarked : (core : CoreView) (client : ℕ) (upkeep : Option UpkeepValue) → KeepsUp core client upkeep → IfSome upkeep (λ u. u.raised ≡ 0) → client ≡ 0 → durable core.past ≡ 0
unmarked core zero None keeps none first = absurd keeps
unmarked core zero (Some u) keeps none first =
    let bound : durable core.past ≤ u.raised = keeps.1 in
    let raised : u.raised ≡ 0 = none in
    omega (arith, bound, raised)
unmarked core (suc client) upkeep keeps none first = absurd (omega (arith, first))
