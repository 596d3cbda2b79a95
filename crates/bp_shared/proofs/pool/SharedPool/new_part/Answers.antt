-- Nothing was told yet.
use Rattle.std.proofs.Common.{ap, subst, sym, Err}
use Rattle.bp_shared.proofs.Working.{why-of}
use Rattle.bp_shared.specs.Telling.{AreEarlier}
use Rattle.bp_shared.proofs.Telling.{earlier_shown, shown_none}
use Rattle.bp_shared.proofs.pool.SharedPool.new_part.Goals as goal

pub new-state-requires-clause-reader : goal.new-state-requires-clause-reader
new-state-requires-clause-reader g c = c.requires.reader

pub new-state-requires-clause-parameters : goal.new-state-requires-clause-parameters
new-state-requires-clause-parameters g c = c.requires.parameters

pub new-state-requires-clause-before : goal.new-state-requires-clause-before
new-state-requires-clause-before g c = c.requires.before

pub new-state-requires-clause-ring : goal.new-state-requires-clause-ring
new-state-requires-clause-ring g c = (rw c.in-Ok.ensures.part at c.in-Ok.opened.trail)

pub new-state-requires-clause-unused : goal.new-state-requires-clause-unused
new-state-requires-clause-unused g c = c.in-Ok.opened.unused

pub new-state-requires-clause-looked : goal.new-state-requires-clause-looked
new-state-requires-clause-looked g c = c.requires.seen

pub new-state-requires-clause-shown : goal.new-state-requires-clause-shown
new-state-requires-clause-shown g c = shown_none _ _ _ _ (rw c.in-Ok.ensures.part at c.in-Ok.opened.board_is).0 (rw c.in-Ok.ensures.part at c.in-Ok.opened.board_is).1 c.requires.past

pub new-state-requires-clause-earlier : goal.new-state-requires-clause-earlier
new-state-requires-clause-earlier g c = subst (AreEarlier _ _) (sym c.requires.past) (earlier_shown _ _ _ (rw c.in-Ok.ensures.part at c.in-Ok.opened.seen_is).0 (rw c.in-Ok.ensures.part at c.in-Ok.opened.seen_is).1)

pub new-state-requires-clause-rings : goal.new-state-requires-clause-rings
new-state-requires-clause-rings g c = (rw c.in-Ok.ensures.part at c.in-Ok.opened.rings)

pub new-state-requires-clause-empty : goal.new-state-requires-clause-empty
new-state-requires-clause-empty g c = c.in-Ok.opened.empty

pub new-state-requires-clause-count : goal.new-state-requires-clause-count
new-state-requires-clause-count g c = (rw c.in-Ok.ensures.part at c.in-Ok.opened.count)

pub new-state-requires-clause-begins : goal.new-state-requires-clause-begins
new-state-requires-clause-begins g c = c.requires.past

pub returns-in-Err : goal.returns-in-Err
returns-in-Err g c = record { part = tt; taker_part = tt; taker = tt; pieces = tt; sessions = tt; clients = λ not. ap Err (ap why-of (c.in-Err.ensures.clients not)); refused = λ same. ap Err (ap why-of (c.in-Err.ensures.refused same)) }
