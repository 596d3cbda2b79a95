use Rattle.bp_charts.specs.Places.{mark_text}
use Rattle.bp_charts.proofs.places.write_mark.Goals as goal

pub returns : goal.returns
unfolding mark_text
returns g c = c.writeln.ensures.bytes
