-- The session of one part did so, and the others are as they were.
use Rattle.std.proofs.Common.{rules, arith, refl, ap, ◌∙◌}
use Rattle.bp_parts.proofs.Setting.{kept_by, in_part, own_at, stays}
use Rattle.bp_parts.proofs.Striped.{new_parts_stay}
use Rattle.bp_parts.proofs.pool.PartedPool.fix_new.Goals as goal
use Rattle.bp_parts.proofs.pool.PartedPool.fix_new.Goals.{in-Ok, in-Err}

pub pool_of-requires : goal.pool_of-requires
pool_of-requires g c =
    let own = own_at _ c.place-part.result.0 c.session.inside.sessions.items c.index_mut-mine.result.now _ c.session.invariant.1 (omega (arith, c.session.invariant.0, c.place-part.ensures.few)) c.index_mut-mine.ensures.value in
    omega (arith, own.part_is, c.place-part.ensures.few)

pub invariant_of-session : goal.invariant_of-session
invariant_of-session g c =
    (search rules, kept_by _ c.place-part.result.0 c.session.inside.sessions.items c.index_mut-mine.result.now c.fix_new.new.session _ c.session.invariant.1 (omega (arith, c.session.invariant.0, c.place-part.ensures.few)) c.index_mut-mine.ensures.value c.fix_new.ensures.fix.keeps.client (stays _ _ _ _ _ c.fix_new.ensures.fix.keeps))

pub returns : goal.returns
returns g c =
    let did = in_part _ c.place-part.result.0 _ _ c.index_mut-mine.result.now c.fix_new.new.session _ c.session.invariant.1 (omega (arith, c.session.invariant.0, c.place-part.ensures.few)) c.index_mut-mine.ensures.value (c.fix_new.ensures.fix, rw (c.turn_to.ensures, c.from.ensures) at c.fix_new.ensures.work) in
    let stripes = new_parts_stay g.S.Store.writes c.index_mut-mine.result.now c.fix_new.new.session _ _ _ _ c.fix_new.ensures.work ∙ ap (λ p. p.parts) c.turn_to.ensures in
    let device = c.fix_new.ensures.port ∙ ap (λ p. p.file.device) c.turn_to.ensures in
    rw (← c.session.view_is, ← c.place-part.ensures.part, ← c.place-part.ensures.page) (elim c.match-fix_new.branch [
      | in-Ok w ↦ rw w.result-is (record { client = refl; part = c.place-part.ensures.few; device = device; stripes = stripes; outcome = (c.fix_new.result, (refl, w.in-Ok.is), did) })
      | in-Err w ↦ rw w.result-is (record { client = refl; part = tt; device = device; stripes = stripes; outcome = (c.fix_new.result, w.in-Err.is, did) })
    ])
