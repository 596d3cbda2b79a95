use Rattle.std.proofs.Common.{take}
use Rattle.std.specs.List.{flat_map}
use Rattle.std.specs.Io.KnownBytes.{Appends}
use Rattle.bp_trace.specs.KeptLines.{text_of}
use Rattle.bp_trace.proofs.printing.kept.ReportLines.write.Given as goal

abbrev pub invariant-loop-line : goal.invariant-loop-line
invariant-loop-line g l = Appends (g.W.Write.contents l.initial.writer) (g.W.Write.contents l.writer)
    (flat_map text_of (take l.line-index l.line-items))
