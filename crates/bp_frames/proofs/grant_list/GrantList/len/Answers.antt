use Rattle.std.proofs.Common.{arith}
use Rattle.bp_frames.proofs.Outstanding.{length-out}
use Rattle.bp_frames.proofs.grant_list.GrantList.len.Goals as goal

pub returns-clause-small : goal.returns-clause-small
returns-clause-small c = omega (arith, c.self.invariant.1, length-out c.self.inside.slots.items, c.self.inside.slots.ok)
