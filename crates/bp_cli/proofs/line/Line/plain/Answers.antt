use Rattle.bp_cli.proofs.OneLine.{plain-is_line}
use Rattle.bp_cli.proofs.line.Line.plain.Goals as goal

pub invariant_of-result : goal.invariant_of-result
invariant_of-result c = record { unbroken = rw c.in_ok-text.ensures (plain-is_line c.args.text.now) }
