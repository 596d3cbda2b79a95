-- A pass goes back in its part, or is handed back.
use Rattle.std.proofs.Common.{arith, ap, ◌∙◌, refl}
use Rattle.bp_parts.proofs.Setting.{kept_by, in_part, own_at}
use Rattle.bp_parts.proofs.Returning.{handed_back, not_taken, same_sessions, unfix_stays}
use Rattle.bp_parts.proofs.pool.PartedPool.unfix_draining.Goals as goal
use Rattle.bp_parts.proofs.pool.PartedPool.unfix_draining.Goals.{in-Ok, in-Err}

pub pool_of-requires : goal.pool_of-requires
pool_of-requires g c =
    let own = own_at _ c.args.pass.part c.session.inside.sessions.items c.index_mut-mine.result.now _ c.session.invariant.1 (omega (arith, c.session.invariant.0, c.self.invariant.0, c.if-at-len.false, c.len.ensures)) c.index_mut-mine.ensures.value in
    omega (arith, own.part_is, c.self.invariant.0, c.if-at-len.false, c.len.ensures)

pub invariant_of-session : goal.invariant_of-session
invariant_of-session g c =
    (c.session.invariant.0, kept_by _ c.args.pass.part c.session.inside.sessions.items c.index_mut-mine.result.now c.unfix_draining.new.session _ c.session.invariant.1 (omega (arith, c.session.invariant.0, c.self.invariant.0, c.if-at-len.false, c.len.ensures)) c.index_mut-mine.ensures.value c.unfix_draining.ensures.client (unfix_stays c.index_mut-mine.result.now c.unfix_draining.new.session c.args.pass.pass c.unfix_draining.result c.unfix_draining.ensures.outcome))

pub returns : goal.returns
returns g c =
    let stood = c.index_mut-mine.ensures.value in
    rw (← c.session.view_is) (elim c.match-unfix_draining.branch [
      | in-Ok w ↦ rw w.result-is (record { client = refl; outcome = in_part _ c.args.pass.part _ _ c.index_mut-mine.result.now c.unfix_draining.new.session _ c.session.invariant.1 (omega (arith, c.session.invariant.0, c.self.invariant.0, c.if-at-len.false, c.len.ensures)) stood (record { client = c.unfix_draining.ensures.client; before = c.unfix_draining.ensures.before; seen = c.unfix_draining.ensures.seen; roomy = c.unfix_draining.ensures.roomy; outcome = w.in-Ok.ensures.outcome }); room = tt })
      | in-Err w ↦ let back = handed_back _ _ _ _ _ w.in-Err.ensures.outcome in rw w.result-is (record { client = refl; outcome = (ap (λ p. record { part = c.args.pass.part; pass = p }) back.0, same_sessions c.session.inside.client c.args.pass.part c.session.inside.sessions.items c.unfix_draining.new.session _ (back.1 ∙ stood), (λ no. absurd (omega (arith, no, c.self.invariant.0, c.if-at-len.false, c.len.ensures))), (λ few. not_taken c.session.inside.sessions.items c.args.pass.part _ _ _ _ _ _ stood (omega (arith, c.session.invariant.0, c.self.invariant.0, c.if-at-len.false, c.len.ensures)) w.in-Err.ensures.outcome)); room = w.in-Err.ensures.room })
    ])
