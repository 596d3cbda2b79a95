use Rattle.std.proofs.Common.{◌≡◌, ◌≤◌, All, vec_capacity, vec_len}
use Rattle.bp_check.specs.Pages.{blank}
use Rattle.bp_check.proofs.pages.blank_pages.Given as goal

abbrev pub invariant-loop : goal.invariant-loop
invariant-loop l = (vec_len l.made ≡ l.counter) × (l.fn.pages ≤ vec_capacity l.made) × All (λ s. s ≡ blank) l.made.items
