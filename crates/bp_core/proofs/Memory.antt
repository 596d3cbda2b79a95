-- A fix of a resident page takes memory.
use Rattle.std.proofs.Common.{◌≡◌, refl, subst, ℕ, true, false}
use Rattle.bp_trail.specs.declared.entries.Call.TheVariants.{Fix}
use Rattle.bp_trail.specs.Parameters.{Parameters}
use Rattle.bp_trail.specs.Trail.{Trail}
use Rattle.bp_trail.specs.Places.{loading, resident}
use Rattle.bp_trail.specs.PageMap.{fix_reply}
use Rattle.bp_core.specs.declared.state.State.{State}
use Rattle.bp_core.specs.CoreView.{CoreView, EachPast}
use Rattle.bp_keeper.specs.Kept.{Kept}
use Rattle.bp_core.specs.Agreement.{IsCore, view_of}
use Rattle.bp_core.specs.Outcomes.{takes_memory, TakesMemory}
use Rattle.bp_core.proofs.Held.{here-idle}
use Rattle.bp_core.proofs.Keeps.{at-past}

hit-takes : (c : Parameters) (past : Trail) (p : ℕ) → loading past p ≡ false → resident past p ≡ true → takes_memory (fix_reply c past p) ≡ true
hit-takes c past p idle here = rw (idle, here) refl

-- a resident page isn't loading
pub here-takes : (c : Parameters) (trail : Kept) (x : State) (core : IsCore c trail x) (v : CoreView) → view_of c trail ≡ v → (p : ℕ) → EachPast v (λ past. resident past p ≡ true) → TakesMemory (Fix p) v
here-takes c trail x core v is p here =
    let seen = at-past c trail x core v is (λ q past. resident past p ≡ true) here in
    subst (TakesMemory (Fix p)) is (hit-takes c trail.past p (here-idle _ _ _ core.agrees p seen) seen)
