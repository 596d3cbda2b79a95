-- Rings drained, of which the board shows nothing.
use Rattle.std.proofs.Common.{rules, refl}
use Rattle.bp_shared.proofs.Telling.{drained_unfixes, earlier_drained, shown_drained}
use Rattle.bp_shared.proofs.Posting.{posted_drained}
use Rattle.bp_session_log.proofs.Drains.{quiet_drained}
use Rattle.bp_shared.proofs.locked_pool.LockedPool.drain.Goals as goal

pub invariant_of-self : goal.invariant_of-self
invariant_of-self g c = (
  search rules,
  search rules,
  shown_drained _ _ _ _ _ c.self.invariant.2 (drained_unfixes 32 0 _ _ _ _ c.drain_all-self-inside.ensures.drained),
  posted_drained _ _ 32 _ _ _ _ c.self.invariant.3 c.drain_all-self-inside.ensures.drained,
  c.self.invariant.4,
  earlier_drained _ _ _ _ c.self.invariant.5 (drained_unfixes 32 0 _ _ _ _ c.drain_all-self-inside.ensures.drained),
)

pub returns-then-self : goal.returns-then-self
returns-then-self g c = rw (← c.self.view_is) (record { part = refl; parameters = refl; before = refl; seen = refl; ends = refl; drained = quiet_drained 32 0 _ _ (c.self.inside.quiet c.if-self.true) })
