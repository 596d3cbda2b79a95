use Rattle.bp_run.proofs.Splitting.{added_others, added_own}
use Rattle.bp_run.proofs.scripts.add_row.Goals as goal

pub returns-clause-own : goal.returns-clause-own
returns-clause-own c = added_own c.args.scripts.now c.args.row.client c.index-scripts-row.result c.push.new.self c.args.row c.requires c.in-Ok.ensures.items

pub returns-clause-others : goal.returns-clause-others
returns-clause-others c client apart = added_others c.args.scripts.now c.args.row.client client c.push.new.self apart
