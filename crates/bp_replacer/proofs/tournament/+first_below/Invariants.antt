use Rattle.std.proofs.Common.{◌-◌, length}
use Rattle.bp_replacer.proofs.tournament.+first_below.Given as goal

abbrev pub decreases-first_below : goal.decreases-first_below
decreases-first_below l = length l.nodes.now - l.at
