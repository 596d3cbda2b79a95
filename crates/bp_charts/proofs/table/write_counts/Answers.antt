use Rattle.bp_charts.proofs.Texts.{counts_line}
use Rattle.bp_charts.proofs.table.write_counts.Goals as goal

pub returns : goal.returns
returns g c = rw (counts_line c.args.line.now c.of-ratio.result.ten_thousandths c.of-ratio.ensures) c.write.ensures.bytes
