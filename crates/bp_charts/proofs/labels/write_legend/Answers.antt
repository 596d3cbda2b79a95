use Rattle.std.proofs.Common.{codes, ◌++◌}
use Rattle.std.specs.Io.KnownBytes.{Appends}
use Rattle.bp_charts.specs.Labels.{legend_text, name_text, row_of, sample_text}
use Rattle.bp_charts.proofs.Writes.{appends_next}
use Rattle.bp_charts.proofs.labels.write_legend.Goals as goal

pub returns : goal.returns
unfolding legend_text
returns g c =
    let w = g.W.Write.contents in
    let r = c.writeln.result in
    let name = name_text c.args.which in
    let sample = sample_text (row_of c.args.number) in
    let first : Appends (w c.args.writer.now) (w c.write_sample.new.writer) sample = rw (← c.row_of.ensures) c.in_ok-write_sample.ensures in
    appends_next r (w c.args.writer.now) (w c.write_sample.new.writer) (w c.writeln.new.self) sample (name ++ codes "</text>\n</g>\n") first
    (appends_next r (w c.write_sample.new.writer) (w c.write_name.new.writer) (w c.writeln.new.self) name (codes "</text>\n</g>\n") c.in_ok-write_name.ensures c.writeln.ensures.bytes)
