-- The session of one part did so, and the others are as they were.
use Rattle.std.proofs.Common.{rules, arith, ap, ◌∙◌}
use Rattle.bp_parts.proofs.Setting.{kept_by, in_part, own_at}
use Rattle.bp_parts.proofs.Striped.{parts_stay}
use Rattle.bp_parts.proofs.pool.PartedPool.flush_part.Goals as goal

pub pool_of-requires : goal.pool_of-requires
pool_of-requires g c =
    let own = own_at _ c.args.part c.session.inside.sessions.items c.index_mut-mine.result.now _ c.session.invariant.1 (omega (arith, c.session.invariant.0, c.requires.part)) c.index_mut-mine.ensures.value in
    omega (arith, own.part_is, c.requires.part)

pub invariant_of-session : goal.invariant_of-session
invariant_of-session g c =
    (search rules, kept_by _ c.args.part c.session.inside.sessions.items c.index_mut-mine.result.now c.flush_all.new.session _ c.session.invariant.1 (omega (arith, c.session.invariant.0, c.requires.part)) c.index_mut-mine.ensures.value c.flush_all.ensures.flushes.client c.flush_all.ensures.flushes.acted.part)

pub returns-clause-outcome : goal.returns-clause-outcome
returns-clause-outcome g c =
    rw (← c.session.view_is) (in_part _ c.args.part _ _ c.index_mut-mine.result.now c.flush_all.new.session _ c.session.invariant.1 (omega (arith, c.session.invariant.0, c.requires.part)) c.index_mut-mine.ensures.value (c.flush_all.ensures.flushes, rw (c.turn_to.ensures, c.from.ensures) at c.flush_all.ensures.work))

pub returns-clause-stripes : goal.returns-clause-stripes
returns-clause-stripes g c = parts_stay g.S.Store.reads g.S.Store.writes c.index_mut-mine.result.now c.flush_all.new.session _ _ _ _ c.flush_all.ensures.work ∙ ap (λ p. p.parts) c.turn_to.ensures
