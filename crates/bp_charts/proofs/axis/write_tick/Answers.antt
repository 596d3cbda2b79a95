use Rattle.bp_charts.specs.Axis.{tick_text}
use Rattle.bp_charts.proofs.axis.write_tick.Goals as goal

pub returns : goal.returns
unfolding tick_text
returns g c = c.writeln.ensures.bytes
