use Rattle.std.proofs.Common.{ap, arith}
use Rattle.bp_core.specs.declared.config.CoreConfig.{CoreConfig}
use Rattle.bp_core.specs.Agreement.{parameters_of}
use Rattle.bp_core.proofs.First.{first-core}
use Rattle.bp_core.proofs.pool.PoolCore.new.Goals as goal

pub invariant_of-result : goal.invariant_of-result
invariant_of-result g c =
    let few = g.met.K.Keeper.few in
    let fits = c.in_ok-config.ensures.accepted.1 in
    let is = ap (λ (k : CoreConfig). k.room) c.in_ok-config.ensures.accepted.0 in
    first-core (parameters_of c.in_ok-config.config) (g.K.Keeper.kept c.in_ok-trail.trail) c.in_ok-state.state (omega (arith, fits)) (omega (arith, fits, few)) c.in_ok-trail.ensures.empty (omega (arith, c.in_ok-trail.ensures.room, is)) c.in_ok-state.ensures
