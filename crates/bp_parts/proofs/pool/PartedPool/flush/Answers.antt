-- The session of one part did so, and the others are as they were.
use Rattle.std.proofs.Common.{rules, arith, ap, ◌∙◌}
use Rattle.bp_parts.proofs.Setting.{kept_by, in_part, own_at, stays}
use Rattle.bp_parts.proofs.Striped.{parts_stay}
use Rattle.bp_parts.proofs.pool.PartedPool.flush.Goals as goal

pub pool_of-requires : goal.pool_of-requires
pool_of-requires g c =
    let own = own_at _ c.place-part.result.0 c.session.inside.sessions.items c.index_mut-mine.result.now _ c.session.invariant.1 (omega (arith, c.session.invariant.0, c.place-part.ensures.few)) c.index_mut-mine.ensures.value in
    omega (arith, own.part_is, c.place-part.ensures.few)

pub invariant_of-session : goal.invariant_of-session
invariant_of-session g c =
    (search rules, kept_by _ c.place-part.result.0 c.session.inside.sessions.items c.index_mut-mine.result.now c.flush.new.session _ c.session.invariant.1 (omega (arith, c.session.invariant.0, c.place-part.ensures.few)) c.index_mut-mine.ensures.value c.flush.ensures.flush.keeps.client (stays _ _ _ _ _ c.flush.ensures.flush.keeps))

pub returns-clause-outcome : goal.returns-clause-outcome
returns-clause-outcome g c =
    rw (← c.session.view_is, ← c.place-part.ensures.part, ← c.place-part.ensures.page) (in_part _ c.place-part.result.0 _ _ c.index_mut-mine.result.now c.flush.new.session _ c.session.invariant.1 (omega (arith, c.session.invariant.0, c.place-part.ensures.few)) c.index_mut-mine.ensures.value (c.flush.ensures.flush, rw (c.turn_to.ensures, c.from.ensures) at c.flush.ensures.work))

pub returns-clause-stripes : goal.returns-clause-stripes
returns-clause-stripes g c = parts_stay g.S.Store.reads g.S.Store.writes c.index_mut-mine.result.now c.flush.new.session _ _ _ _ c.flush.ensures.work ∙ ap (λ p. p.parts) c.turn_to.ensures
