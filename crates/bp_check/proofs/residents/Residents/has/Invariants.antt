use Rattle.std.proofs.Common.{◌≡◌, ◌==◌, take, false, reverse}
use Rattle.bp_trail.specs.Lists.{some}
use Rattle.bp_check.proofs.residents.Residents.has.Given as goal

abbrev pub invariant-loop-resident : goal.invariant-loop-resident
invariant-loop-resident l = some (λ q. q == l.page) (reverse (take l.resident-index l.resident-items)) ≡ false
