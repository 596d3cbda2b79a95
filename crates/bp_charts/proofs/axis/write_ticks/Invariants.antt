use Rattle.std.specs.Io.KnownBytes.{Appends}
use Rattle.bp_charts.specs.Axis.{ticks_text}
use Rattle.bp_charts.proofs.axis.write_ticks.Given as goal

abbrev pub invariant-loop-step : goal.invariant-loop-step
invariant-loop-step g l = Appends (g.W.Write.contents l.initial.writer) (g.W.Write.contents l.writer) (ticks_text l.scale l.step)
