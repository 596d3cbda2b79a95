use Rattle.std.proofs.Common.{◌≡◌, ◌+◌, ◌*◌, ◌≤◌, drop}
use Rattle.bp_trace.specs.Pieces.{Taken, taken_by, none_taken, and_taken}
use Rattle.bp_trace.proofs.printing.pieces.ReportRun.takes.Given as goal

-- the time after the entries that are left is that after all
abbrev pub invariant-loop-entry : goal.invariant-loop-entry
invariant-loop-entry l =
    let now : Taken = record none_taken { time = l.time } in
    record {
      bound : l.time ≤ 18446744073709551615 + l.entry-index * 18446744073709551615;
      left : (and_taken now (drop l.entry-index l.entries)).time ≡ (and_taken (taken_by l.self) l.entries).time;
    }
