use Rattle.std.proofs.Common.{arith, length}
use Rattle.bp_replacer.proofs.TreeLaws.{block_some}
use Rattle.bp_replacer.proofs.tournament.Tournament.hiding.Goals as goal

pub index-first-requires : goal.index-first-requires
index-first-requires c =
    let i = c.self.inside in
    omega (arith, c.self.invariant.leaves.size, block_some (length i.seats), i.nodes.ok.0)
