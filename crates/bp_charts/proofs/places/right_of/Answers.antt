use Rattle.std.proofs.Common.{arith}
use Rattle.std.proofs.lemmas.Nat.{pow_below}
use Rattle.bp_charts.proofs.places.right_of.Goals as goal

pub pow-power-requires : goal.pow-power-requires
pow-power-requires c = pow_below c.halvings-halvings.result 128 (omega arith)
