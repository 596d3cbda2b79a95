use Rattle.std.proofs.Common.{◌≡◌, ◌≤◌, All, [], vec_capacity, vec_len}
use Rattle.bp_check.proofs.spans.no_references.Given as goal

abbrev pub invariant-loop : goal.invariant-loop
invariant-loop l = (vec_len l.table ≡ l.counter) × (l.fn.pages ≤ vec_capacity l.table) × All (λ v. v.items ≡ []) l.table.items
