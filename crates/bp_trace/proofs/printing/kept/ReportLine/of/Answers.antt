use Rattle.std.proofs.Common.{◌∙◌, sym, take, ap}
use Rattle.bp_trail.specs.Event.{page_of}
use Rattle.bp_trace.specs.Lines.{line_of, read_line}
use Rattle.bp_trace.specs.KeptLines.{front_of}
use Rattle.bp_trace.proofs.KeptLines.{read-front}
use Rattle.bp_trace.proofs.printing.kept.ReportLine.of.Goals as goal

pub returns-in-Content : goal.returns-in-Content
returns-in-Content c =
    ap (λ p. read_line c.args.client p (front_of c.of.result)) c.page_of-page.ensures
    ∙ read-front c.args.client (page_of c.args.call.now) (front_of c.of.result) c.in-Content.image (c.of.ensures ∙ ap (take 16) c.bytes.ensures)
    ∙ sym (ap (line_of c.args.time c.args.client (page_of c.args.call.now)) c.in-Content.is)
