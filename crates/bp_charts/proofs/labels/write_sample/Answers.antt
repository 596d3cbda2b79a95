use Rattle.bp_charts.specs.Labels.{sample_text}
use Rattle.bp_charts.proofs.labels.write_sample.Goals as goal

pub returns : goal.returns
unfolding sample_text
returns g c = c.write.ensures.bytes
