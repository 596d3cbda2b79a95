use Rattle.std.proofs.Common.{◌≡◌, ◌+◌, ◌++◌, false, ℕ, List, drop}
use Rattle.std.specs.Io.KnownBytes.{Appends}
use Rattle.bp_trace.specs.Pieces.{lines_from, taken_by, and_taken}
use Rattle.bp_trace.proofs.printing.pieces.ReportRun.lines.Given as goal

-- what was written, and the lines of the entries that are left, are those of all
abbrev pub invariant-loop-entry : goal.invariant-loop-entry
invariant-loop-entry g l = record {
  well : l.self.has_failed ≡ false;
  count : l.self.entries ≡ l.initial.self.entries + l.entry-index;
  taken : and_taken (taken_by l.self) (drop l.entry-index l.entries) ≡ and_taken (taken_by l.initial.self) l.entries;
  written : List ℕ;
  appended : Appends (g.W.Write.contents l.initial.writer) (g.W.Write.contents l.writer) written;
  left : written ++ lines_from l.self.time (drop l.entry-index l.entries) ≡ lines_from l.initial.self.time l.entries;
}
