use Rattle.std.proofs.Common.{rules, arith}
use Rattle.std.proofs.lemmas.Bool.{ltb-true}
use Rattle.bp_frames.proofs.Outstanding.{rises-pushed}
use Rattle.bp_frames.proofs.grant_list.rises_with.Goals as goal

pub returns-then-is_rising : goal.returns-then-is_rising
returns-then-is_rising c slot same below =
    rises-pushed c.args.slots.now.items slot c.in-Some.newest.now (c.requires c.if-is_rising.true) (search rules) (search rules) (omega (arith, ltb-true c.in-Some.newest.now.grant.serial c.args.serial below, same))
