use Rattle.std.proofs.Common.{length}
use Rattle.bp_replacer.proofs.TreeLaws.{block_within}
use Rattle.bp_replacer.proofs.block.first_again.Goals as goal

pub first_of_block-requires : goal.first_of_block-requires
first_of_block-requires c = block_within (length c.args.seats.now) c.args.seat c.requires.seat
