use Rattle.std.proofs.Common.{◌++◌, codes}
use Rattle.std.specs.Fmt.{decimal}
use Rattle.bp_charts.specs.Table.{counts_text}
use Rattle.bp_charts.proofs.Texts.{optimum_line, appends_both}
use Rattle.bp_charts.proofs.table.write_optimum.Goals as goal

pub returns : goal.returns
returns g c =
    let w = g.W.Write.contents in
    let l = c.args.line.now in
    rw (optimum_line l c.requires)
    (appends_both c.writeln.result (w c.args.out.now) (w c.write.new.self) (w c.write_counts.new.out) (w c.writeln.new.self) (decimal l.frames ++ (codes "," ++ codes "opt")) (counts_text l) (codes ",,,\n")
    c.in_ok-write.ensures.bytes c.in_ok-write_counts.ensures c.writeln.ensures.bytes)
