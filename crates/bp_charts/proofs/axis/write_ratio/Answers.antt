use Rattle.bp_charts.specs.Axis.{ratio_line_text}
use Rattle.bp_charts.proofs.axis.write_ratio.Goals as goal

pub returns : goal.returns
unfolding ratio_line_text
returns g c = c.writeln.ensures.bytes
