use Rattle.std.proofs.Common.{None, Some, Option, ap, ◌∙◌}
use Rattle.std.proofs.lemmas.List.{set-set}
use Rattle.bp_references.specs.Candidates.{Candidate}
use Rattle.bp_replacer.specs.Seats.{Seated, with_seat}
use Rattle.bp_frames.proofs.unsaved.Unsaved.change.Goals as goal

pub returns-clause-order : goal.returns-clause-order
returns-clause-order c =
    let order : Seated = c.args.self.now.order in
    let at = c.args.slot.now.index in
    let now : Option Candidate = Some (c.args.lsn, 0, c.args.slot.now.page) in
    c.enter.ensures ∙ (λ i. with_seat (c.leave.ensures i) at (Some (c.number.ensures i, 0, c.args.slot.now.page)))
    ∙ ap (λ seats. record order { seats = seats }) (set-set order.seats at None now)
