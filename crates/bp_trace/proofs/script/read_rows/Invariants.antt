use Rattle.std.proofs.Common.{◌≡◌, ℕ, List, Some}
use Rattle.csv.specs.Reading.{Ready, reader_trim}
use Rattle.csv.specs.declared.reader.Trim.TheVariants as trim
use Rattle.bp_trace.specs.Script.{script_from}
use Rattle.bp_trace.specs.Reading.{Leaves}
use Rattle.bp_trace.proofs.RowSteps.{rows_then}
use Rattle.bp_trace.proofs.script.read_rows.Given as goal

abbrev pub invariant-loop-number : goal.invariant-loop-number
invariant-loop-number l = record {
  trim : reader_trim l.reader ≡ trim.None;
  ready : Ready l.reader;
  goes : (all : List (List (List ℕ))) → Leaves (λ s. Some s.now) l.initial.reader all → (left : List (List (List ℕ))) × Leaves (λ s. Some s.now) l.reader left × (rows_then l.rows.items (script_from l.geometry l.number left) ≡ script_from l.geometry 1 all);
}
