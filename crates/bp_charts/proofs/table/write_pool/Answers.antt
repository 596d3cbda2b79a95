use Rattle.std.proofs.Common.{◌++◌, codes}
use Rattle.std.specs.Fmt.{decimal}
use Rattle.bp_charts.specs.Table.{counts_text}
use Rattle.bp_charts.proofs.Texts.{pool_line, appends_both}
use Rattle.bp_charts.proofs.table.write_pool.Goals as goal

pub returns : goal.returns
returns g c =
    let w = g.W.Write.contents in
    let l = c.args.line.now in
    rw (pool_line l c.args.k c.requires)
    (appends_both c.writeln.result (w c.args.out.now) (w c.write.new.self) (w c.write_counts.new.out) (w c.writeln.new.self) (decimal l.frames ++ (codes "," ++ decimal c.args.k)) (counts_text l)
    (codes "," ++ (decimal l.writes ++ (codes "," ++ (decimal l.failed ++ (codes "," ++ (decimal l.refused ++ codes "\n"))))))
    c.in_ok-write.ensures.bytes c.in_ok-write_counts.ensures c.writeln.ensures.bytes)
