use Rattle.bp_trace.proofs.Ranges.{range_is}
use Rattle.bp_trace.proofs.laws.ranges_have_their_ends.Goals as goal

pub returns : goal.returns
returns c = range_is c.args.first c.args.last c.requires.some c.requires.order c.requires.few
