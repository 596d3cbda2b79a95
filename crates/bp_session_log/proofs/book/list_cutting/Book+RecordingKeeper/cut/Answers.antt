-- The list handed out keeps its memory.
use Rattle.std.proofs.Common.{arith, ap, length}
use Rattle.std.proofs.lemmas.List.{length-reverse}
use Rattle.bp_trail.specs.Passes.{passes_out}
use Rattle.bp_session_log.proofs.book.list_cutting.Book+RecordingKeeper.cut.Goals as goal

pub returns-clause-memory : goal.returns-clause-memory
returns-clause-memory c =
    let r = c.self.invariant.0 in
    rw (← c.self.view_is) (omega (arith, c.in_ok-entries.ensures.memory, c.in_ok-entries.ensures.len, r.entries_fit, r.tickets_are, ap length r.held_are, length-reverse (passes_out c.self.inside.said.past), c.self.ranges))
