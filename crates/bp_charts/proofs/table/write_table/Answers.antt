-- The header, and then the lines.
use Rattle.bp_charts.specs.Table.{header_text, lines_text}
use Rattle.bp_charts.proofs.Texts.{appends_next}
use Rattle.bp_charts.proofs.table.write_table.Goals as goal

pub returns : goal.returns
returns g c =
    let w = g.W.Write.contents in
    appends_next c.write_lines.result (w c.args.out.now) (w c.writeln.new.self) (w c.write_lines.new.out) header_text (lines_text c.args.lines.now) c.in_ok-writeln.ensures.bytes c.write_lines.ensures
