-- The session of one part did so, and the others are as they were.
use Rattle.std.proofs.Common.{rules, arith, refl}
use Rattle.bp_parts.proofs.Setting.{kept_by, in_part, own_at, stays}
use Rattle.bp_parts.proofs.pool.PartedPool.tick.Goals as goal

pub pool_of-requires : goal.pool_of-requires
pool_of-requires g c =
    let own = own_at _ c.args.part c.session.inside.sessions.items c.index_mut-mine.result.now _ c.session.invariant.1 (omega (arith, c.session.invariant.0, c.requires.part)) c.index_mut-mine.ensures.value in
    omega (arith, own.part_is, c.requires.part)

pub invariant_of-session : goal.invariant_of-session
invariant_of-session g c =
    (search rules, kept_by _ c.args.part c.session.inside.sessions.items c.index_mut-mine.result.now c.tick.new.session _ c.session.invariant.1 (omega (arith, c.session.invariant.0, c.requires.part)) c.index_mut-mine.ensures.value c.tick.ensures.keeps.client (stays _ _ _ _ _ c.tick.ensures.keeps))

pub returns : goal.returns
returns g c =
    rw (← c.session.view_is) (record { client = refl; outcome = in_part _ c.args.part _ _ c.index_mut-mine.result.now c.tick.new.session _ c.session.invariant.1 (omega (arith, c.session.invariant.0, c.requires.part)) c.index_mut-mine.ensures.value c.tick.ensures })
