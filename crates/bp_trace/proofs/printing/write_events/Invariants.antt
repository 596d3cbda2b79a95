use Rattle.std.proofs.Common.{◌≡◌, ◌+◌, ◌*◌, ◌≤◌, ◌++◌, [], ℕ, List, drop, take}
use Rattle.std.specs.Io.KnownBytes.{Appends}
use Rattle.bp_trail.specs.Trail.{Trail}
use Rattle.bp_trail.specs.Clock.{clock}
use Rattle.bp_trail.specs.Totals.{totals_of}
use Rattle.bp_trace.specs.Report.{lines_after}
use Rattle.bp_trace.proofs.printing.write_events.Given as goal

abbrev pub invariant-loop-entry : goal.invariant-loop-entry
invariant-loop-entry g l = record {
  past : Trail;
  time : l.time ≡ clock past;
  bound : l.time ≤ 1 + l.entry-index * 18446744073709551615;
  totals : l.totals ≡ totals_of (take l.entry-index l.entries);
  written : List ℕ;
  appended : Appends (g.W.Write.contents l.initial.writer) (g.W.Write.contents l.writer) written;
  left : written ++ lines_after past (drop l.entry-index l.entries) ≡ lines_after [] l.entries;
}
