use Rattle.bp_charts.proofs.Within.{lines-within}
use Rattle.bp_charts.proofs.laws.points_stand_within_the_axes.Goals as goal

pub returns : goal.returns
returns c = lines-within c.args.lines.now c.requires
