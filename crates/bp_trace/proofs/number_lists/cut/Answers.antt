use Rattle.bp_trace.proofs.Ranges.{cut_is}
use Rattle.bp_trace.proofs.number_lists.cut.Goals as goal

pub returns : goal.returns
returns c = cut_is c.args.text.now c.split_once.result c.split_once.ensures.cases
