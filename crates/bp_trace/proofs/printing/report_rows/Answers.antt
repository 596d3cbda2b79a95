use Rattle.std.proofs.Common.{◌∙◌, ◌++◌, ◌+◌, ℕ, List, drop, get_or, sym, ap, append_assoc}
use Rattle.std.proofs.KnownBytes.{Appends-trans}
use Rattle.std.proofs.lemmas.List.{append-nil, drop_all}
use Rattle.bp_scripts.specs.declared.rows.Refused.{Refused}
use Rattle.bp_trace.specs.Lines.{refused_line}
use Rattle.bp_trace.specs.Report.{rows_text}
use Rattle.bp_trace.proofs.Entries.{rows_text-drop}
use Rattle.bp_trace.proofs.printing.report_rows.Goals as goal

pub loop-refused-preserved : goal.loop-refused-preserved
loop-refused-preserved g c =
    let inv = c.loop-refused.invariant in
    let rows = c.args.rows.now in
    let i = c.loop-refused.refused-index in
    let w = g.W.Write.contents in
    let none : Refused = record { row = 0; number = 0 } in
    let line = refused_line (get_or rows i none) in
    let lines = rows_text-drop rows i none c.loop-refused-test.true in
    record {
      written = inv.written ++ line;
      appended = Appends-trans (w c.args.writer.now) (w c.loop-refused.writer) (w c.write_refused.new.writer) inv.written line inv.appended c.in_ok-write_refused.ensures;
      left = append_assoc inv.written line (rows_text (drop (i + 1) rows)) ∙ ap (λ (t : List ℕ). inv.written ++ t) (sym lines) ∙ inv.left;
    }

pub returns : goal.returns
unfolding rows_text
returns g c =
    let inv = c.loop-refused.invariant in
    let none = drop_all c.loop-refused.refused-index c.args.rows.now c.loop-refused-test.false in
    rw (← (sym (append-nil inv.written) ∙ rw none at inv.left)) inv.appended
