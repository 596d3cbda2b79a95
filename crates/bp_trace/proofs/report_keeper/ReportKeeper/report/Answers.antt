use Rattle.std.proofs.Common.{◌∙◌, ◌<◌, ◌^◌, reverse, length, if◌then◌else◌, OnOk, sym, subst}
use Rattle.std.specs.Io.KnownBytes.{Appends}
use Rattle.std.specs.List.{flat_map}
use Rattle.bp_keeper.specs.Kept.{Kept}
use Rattle.bp_trail.specs.Clock.{clock}
use Rattle.bp_trail.specs.Totals.{totals_of}
use Rattle.bp_trace.specs.KeptLines.{text_of}
use Rattle.bp_trace.specs.Report.{report_text}
use Rattle.bp_trace.specs.Totals.{totals_text}
use Rattle.bp_trace.proofs.Reporting.{totals-reversed, written-totals, written-whole}
use Rattle.bp_trace.proofs.report_keeper.ReportKeeper.report.Goals.{then-not-totals+in_ok-write, else-not-totals}
use Rattle.bp_trace.proofs.report_keeper.ReportKeeper.report.Goals as goal

pub returns : goal.returns
returns g c =
    let w = g.W.Write.contents in
    let past = c.self.inside.counts.past in
    let few = subst (λ (k : Kept). length k.past < 2 ^ 64) (sym c.self.view_is) c.requires.few in
    let early = subst (λ (k : Kept). clock k.past < 2 ^ 64) (sym c.self.view_is) c.requires.in_time in
    let totals = c.totals.ensures few ∙ sym (totals-reversed past) in
    subst (λ (k : Kept). OnOk c.write_totals.result (Appends (w c.args.writer.now) (w c.write_totals.new.writer) (if c.args.totals then totals_text (totals_of (reverse k.past)) else report_text (reverse k.past)))) c.self.view_is
    (elim c.if-not-totals.branch [
      | then-not-totals+in_ok-write v ↦ written-whole c.write_totals.result c.args.totals (w c.args.writer.now) (w v.write.new.writer) (w c.write_totals.new.writer) past (flat_map text_of c.self.inside.lines.lines.items) c.totals.result v.if-not-totals.true
          (c.self.invariant.0.lines early) totals v.in_ok-write.ensures
          (subst (λ o. OnOk c.write_totals.result (Appends (w o) (w c.write_totals.new.writer) (totals_text c.totals.result))) v.writer-is c.write_totals.ensures)
      | else-not-totals v ↦ written-totals c.write_totals.result c.args.totals (w c.args.writer.now) (w c.write_totals.new.writer) past c.totals.result v.if-not-totals.false totals
          (subst (λ o. OnOk c.write_totals.result (Appends (w o) (w c.write_totals.new.writer) (totals_text c.totals.result))) v.writer-is c.write_totals.ensures)
    ])
