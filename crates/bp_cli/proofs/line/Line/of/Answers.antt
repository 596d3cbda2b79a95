use Rattle.std.proofs.Common.{◌∙◌, ap}
use Rattle.bp_cli.specs.Line.{plain}
use Rattle.bp_cli.proofs.OneLine.{plain-is_line}
use Rattle.bp_cli.proofs.line.Line.of.Goals as goal

pub invariant_of-result : goal.invariant_of-result
invariant_of-result c = record { unbroken = rw c.in_ok-text.ensures (plain-is_line c.as_str.result.now) }

pub returns : goal.returns
returns c = c.in_ok-text.ensures ∙ ap plain (c.as_str.ensures.value ∙ c.in_ok-paragraph.ensures)
