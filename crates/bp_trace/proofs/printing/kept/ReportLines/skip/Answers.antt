use Rattle.std.proofs.Common.{◌∙◌, ◌+◌, min, refl, sym, ap}
use Rattle.bp_trail.specs.Clock.{clock}
use Rattle.bp_trail.specs.Event.{page_of}
use Rattle.bp_trace.specs.Report.{steps_of}
use Rattle.bp_trace.proofs.KeptLines.{has-none, moved}
use Rattle.bp_trace.proofs.printing.kept.ReportLines.skip.Goals as goal

pub returns-clause-adds : goal.returns-clause-adds
returns-clause-adds c = λ past client reply none has.
    let time = c.args.self.now.time in
    has-none past client c.args.call.now reply c.args.self.now _ has
    (moved time c.saturating_add-self.result (steps_of c.args.call.now) (clock past) (c.saturating_add-self.ensures ∙ ap (λ n. min (time + n) 18446744073709551615) c.steps_of.ensures))
    (sym (none time client (page_of c.args.call.now))) refl
