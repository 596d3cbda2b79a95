-- The ports so far are of the geometry.
use Rattle.std.proofs.Common.{◌≡◌, All, take}
use Rattle.bp_workers.proofs.run.are_of.Given as goal

abbrev pub invariant-loop-port : goal.invariant-loop-port
invariant-loop-port g l = All (λ p. g.P.Port.geometry_of p ≡ l.geometry) (take l.port-index l.ports)
