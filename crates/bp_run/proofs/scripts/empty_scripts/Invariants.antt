-- The scripts so far.
use Rattle.std.proofs.Common.{◌≡◌, ◌≤◌, All, [], vec_capacity, vec_len}
use Rattle.bp_run.proofs.scripts.empty_scripts.Given as goal

abbrev pub invariant-loop : goal.invariant-loop
invariant-loop l = (vec_len l.scripts ≡ l.counter) × (l.fn.clients ≤ vec_capacity l.scripts) × All (λ v. v.items ≡ []) l.scripts.items
