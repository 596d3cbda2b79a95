use Rattle.bp_charts.specs.Scale.{scale_over, span_of}
use Rattle.bp_charts.proofs.Grid.{has-its-numbers}
use Rattle.bp_charts.proofs.laws.grid_lines_stand_at_their_frames.Goals as goal

pub returns : goal.returns
returns c = has-its-numbers (scale_over (span_of c.args.lines.now))
