-- One line more each time.
use Rattle.std.proofs.Common.{◌∙◌, ◌++◌, ◌+◌, ℕ, List, drop, get_or, sym, ap, append_assoc, None}
use Rattle.std.proofs.KnownBytes.{Appends-trans}
use Rattle.std.proofs.lemmas.List.{append-nil, drop_all}
use Rattle.bp_charts.specs.declared.table.Line.{Line}
use Rattle.bp_charts.specs.Table.{line_text, lines_text}
use Rattle.bp_charts.proofs.Texts.{lines_text-drop}
use Rattle.bp_charts.proofs.table.write_lines.Goals as goal

pub loop-line-preserved : goal.loop-line-preserved
loop-line-preserved g c =
    let inv = c.loop-line.invariant in
    let lines = c.args.lines.now in
    let i = c.loop-line.line-index in
    let w = g.W.Write.contents in
    let none : Line = record { frames = 0; k = None; fixes = 0; hits = 0; faults = 0; evictions = 0; writes = 0; failed = 0; refused = 0 } in
    let line = line_text (get_or lines i none) in
    let more = lines_text-drop lines i none c.loop-line-test.true in
    record {
      written = inv.written ++ line;
      appended = Appends-trans (w c.args.out.now) (w c.loop-line.out) (w c.write_line.new.out) inv.written line inv.appended c.in_ok-write_line.ensures;
      left = append_assoc inv.written line (lines_text (drop (i + 1) lines)) ∙ ap (λ (t : List ℕ). inv.written ++ t) (sym more) ∙ inv.left;
    }

pub returns : goal.returns
unfolding lines_text
returns g c =
    let inv = c.loop-line.invariant in
    let none = drop_all c.loop-line.line-index c.args.lines.now c.loop-line-test.false in
    rw (← (sym (append-nil inv.written) ∙ rw none at inv.left)) inv.appended
