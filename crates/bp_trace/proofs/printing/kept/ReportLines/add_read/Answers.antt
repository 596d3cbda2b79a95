use Rattle.std.proofs.Common.{◌∙◌, take, ap, arith}
use Rattle.bp_trail.specs.declared.entries.Call.TheVariants.{Read}
use Rattle.bp_trail.specs.declared.entries.Reply.TheVariants.{Content}
use Rattle.bp_trace.specs.Lines.{read_line}
use Rattle.bp_trace.specs.KeptLines.{front_of}
use Rattle.bp_trace.proofs.KeptLines.{has-line, read-front}
use Rattle.bp_trace.proofs.printing.kept.ReportLines.add_read.Goals as goal

pub returns-clause-adds : goal.returns-clause-adds
returns-clause-adds c = λ past pass has.
    has-line past c.args.client (Read pass c.args.page) (Content c.args.image.now) c.args.self.now _ has (λ is early. omega (arith, is)) _
    (ap (λ p. read_line c.args.client p (front_of c.of.result)) c.number.ensures ∙ read-front c.args.client c.args.page (front_of c.of.result) c.args.image.now (c.of.ensures ∙ ap (take 16) c.bytes.ensures))
    c.push_reserved.ensures.items
