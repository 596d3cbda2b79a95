use Rattle.std.proofs.Common.{◌≡◌, ◌≤◌, length, take}
use Rattle.bp_trail.specs.Clients.{of_client}
use Rattle.bp_check.proofs.agreement.agrees.Given as goal

abbrev pub invariant-loop-e : goal.invariant-loop-e
invariant-loop-e l = (l.at ≤ length l.said) × (take l.at l.said ≡ of_client l.client (take l.e-index l.trail))
