-- The ring is emptied, and the trail shown.
use Rattle.std.proofs.Common.{ap, subst, ◌∙◌}
use Rattle.bp_trail.specs.Trail.{Trail}
use Rattle.bp_shared.specs.Sessions.{SessionValue}
use Rattle.bp_shared.specs.Telling.{GoesOnFrom}
use Rattle.bp_shared.proofs.Telling.{line_earlier, earlier_seen}
use Rattle.bp_shared.proofs.locked_pool.LockedPool.end_session.Goals as goal

pub invariant_of-self : goal.invariant_of-self
invariant_of-self g c = (
  c.self.invariant.0,
  c.self.invariant.1,
  c.self.invariant.2,
  c.self.invariant.3,
  c.self.invariant.4,
  earlier_seen _ _ _ _ _ _ c.self.invariant.5 c.write.ensures,
)

pub returns-clause-seen : goal.returns-clause-seen
returns-clause-seen g c =
    subst (λ (before : Trail). GoesOnFrom before c.self.inside.core.past) (ap (λ (s : SessionValue). s.seen) (c.session.view_is ∙ c.drain_own.ensures.session))
    (line_earlier _ _ _ _ _ _ _ c.self.invariant.5 c.write.ensures)
