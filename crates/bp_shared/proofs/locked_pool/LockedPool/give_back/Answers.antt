-- The session's other line is written too.
use Rattle.std.proofs.Common.{◌∙◌, ap, sym, subst}
use Rattle.bp_shared.specs.Sessions.{SessionValue}
use Rattle.bp_shared.specs.Telling.{GoesOnFrom}
use Rattle.bp_shared.proofs.Telling.{line_earlier, earlier_seen}
use Rattle.bp_shared.proofs.locked_pool.LockedPool.give_back.Goals as goal

pub invariant_of-self : goal.invariant_of-self
invariant_of-self g c = (
  c.self.invariant.0,
  c.self.invariant.1,
  c.self.invariant.2,
  c.self.invariant.3,
  c.self.invariant.4,
  earlier_seen _ _ _ _ _ _ c.self.invariant.5 c.write.ensures,
)

pub returns-clause-goes_on : goal.returns-clause-goes_on
returns-clause-goes_on g c =
    let s = c.session.inside in
    let was = ap (λ (v : SessionValue). v.seen) c.session.view_is ∙ ap (λ (v : SessionValue). v.seen) c.drain_own.ensures.session ∙ c.unfix.ensures.seen in
    subst (λ es. GoesOnFrom es c.write.new.line.list) was (subst (λ es. GoesOnFrom s.seen.list es) (sym c.write.ensures.list_is) (line_earlier _ _ _ _ _ _ _ c.self.invariant.5 c.write.ensures))
