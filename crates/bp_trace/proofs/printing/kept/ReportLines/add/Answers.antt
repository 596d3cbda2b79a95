use Rattle.std.proofs.Common.{◌∙◌, ◌+◌, min, sym, ap}
use Rattle.bp_trail.specs.Clock.{clock}
use Rattle.bp_trace.specs.declared.printing.kept.ReportLines.{ReportLines}
use Rattle.bp_trace.specs.KeptLines.{text_if}
use Rattle.bp_trace.specs.Report.{steps_of}
use Rattle.bp_trace.proofs.KeptLines.{has-line, has-none, moved}
use Rattle.bp_trace.proofs.printing.kept.ReportLines.add.Goals.{in-Some, in_default}
use Rattle.bp_trace.proofs.printing.kept.ReportLines.add.Goals as goal

pub returns-clause-adds : goal.returns-clause-adds
returns-clause-adds c = λ past has.
    let time = c.match-of.self.time in
    let moves = moved time c.saturating_add-self.result (steps_of c.args.call.now) (clock past) (c.saturating_add-self.ensures ∙ ap (λ n. min (time + n) 18446744073709551615) c.steps_of.ensures) in
    elim c.match-of.branch [
      | in-Some w ↦ has-line past c.args.client c.args.call.now c.args.reply.now c.args.self.now _ has
          (λ is. moves (ap (λ (r : ReportLines). r.time) w.self-is ∙ is)) w.in-Some.line (sym (ap text_if w.in-Some.is) ∙ c.of.ensures)
          (ap (λ (r : ReportLines). r.lines.items) w.self-is ∙ w.push_reserved.ensures.items)
      | in_default w ↦ has-none past c.args.client c.args.call.now c.args.reply.now c.args.self.now _ has
          (λ is. moves (ap (λ (r : ReportLines). r.time) w.self-is ∙ is)) (sym (ap text_if w.in_default.is) ∙ c.of.ensures)
          (ap (λ (r : ReportLines). r.lines.items) w.self-is)
    ]
