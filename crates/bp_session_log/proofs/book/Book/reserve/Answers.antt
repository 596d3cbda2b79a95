-- A list that is not long can be counted, with all that it owes.
use Rattle.std.proofs.Common.{arith}
use Rattle.std.proofs.lemmas.Bool.{false≢true}
use Rattle.bp_session_log.proofs.Reserving.{counted}
use Rattle.bp_session_log.proofs.book.Book.reserve.Goals as goal

pub returns-in_default-clause-memory : goal.returns-in_default-clause-memory
returns-in_default-clause-memory g c =
    rw (← c.self.view_is)
    (λ silent short passes places.
    let n = counted _ _ _ _ _ _ _ _ c.self.invariant.0 short in
    absurd (false≢true (c.in_default.ensures.counted (omega (arith, n.all, c.len.ensures.count, c.size-more.ensures.few)))))

pub returns-in_default-checked_add-clause-memory : goal.returns-in_default-checked_add-clause-memory
returns-in_default-checked_add-clause-memory g c =
    rw (← c.self.view_is)
    (λ silent short passes places.
    let n = counted _ _ _ _ _ _ _ _ c.self.invariant.0 short in
    absurd (c.in_default-checked_add.ensures (omega (arith, n.few, c.size-passes.ensures.few))))

pub returns-in_err-reserve-clause-memory : goal.returns-in_err-reserve-clause-memory
returns-in_err-reserve-clause-memory g c =
    rw (← c.self.view_is)
    (λ silent short passes places.
    let n = counted _ _ _ _ _ _ _ _ c.self.invariant.0 short in
    absurd (false≢true (c.in_err-reserve.ensures.memory silent (omega (arith, n.all, c.len.ensures.count, c.in-Some.ensures.wanted, c.size-more.ensures.few)))))
