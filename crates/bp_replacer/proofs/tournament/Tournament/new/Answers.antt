use Rattle.std.proofs.Common.{arith}
use Rattle.bp_replacer.specs.Tree.{blocks}
use Rattle.bp_replacer.proofs.tournament.Tournament.new.Goals as goal

pub overflow_mul-blocks : goal.overflow_mul-blocks
unfolding blocks
overflow_mul-blocks c = omega (arith, c.blocks-2.ensures, c.ranges.size.fits)
