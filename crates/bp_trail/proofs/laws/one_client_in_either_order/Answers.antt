use Rattle.bp_trail.proofs.OfClient.{of_client-reverse}
use Rattle.bp_trail.proofs.laws.one_client_in_either_order.Goals as goal

pub returns : goal.returns
returns c = of_client-reverse
