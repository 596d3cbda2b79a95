-- A core that was just made keeps all that a core promises of itself.
use Rattle.std.proofs.Common.{ℕ, ◌^◌, ◌≤◌, rules, arith}
use Rattle.bp_replacer.specs.Histories.{latest_of}
use Rattle.bp_trail.specs.Parameters.{Parameters}
use Rattle.bp_keeper.specs.Kept.{Kept, IsEmpty}
use Rattle.bp_core.specs.declared.state.State.{State}
use Rattle.bp_core.specs.Agreement.{IsCore, IsFirst}

pub first-core : (c : Parameters) (trail : Kept) (x : State) → c.frames ≤ 65536 → c.room ≤ 2 ^ 61 → IsEmpty trail → c.room ≤ trail.capacity → IsFirst c x → IsCore c trail x
first-core c trail x few_frames few_entries empty capacity first =
    let by_now : (p : ℕ) → latest_of x.histories p ≤ 1 = λ p. omega (arith, first.latest p) in
    search rules
