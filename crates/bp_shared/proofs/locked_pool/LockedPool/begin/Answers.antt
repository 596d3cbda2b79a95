-- Where no ring is to be asked after the session's own, and no pass is known to wait, all are drained.
use Rattle.std.proofs.Common.{refl, sym, subst, ◌∙◌}
use Rattle.bp_session_log.specs.Rings.{NoneWaits}
use Rattle.bp_session_log.proofs.Drains.{quiet_drained}
use Rattle.bp_shared.specs.Locked.{LockedValue}
use Rattle.bp_shared.proofs.locked_pool.LockedPool.begin.Goals as goal

pub returns-else-not-self-clause-entered : goal.returns-else-not-self-clause-entered
returns-else-not-self-clause-entered g c =
    let own = c.drain_own.ensures in
    let quiet = subst (λ (v : LockedValue). NoneWaits v.rings) c.self.view_is (c.self.inside.quiet c.if-not-self.false) in
    rw own.session (record {
      was = c.args.self.now;
      mid = c.drain.new.self;
      own = c.drain_own.new.self;
      before = c.drain.ensures;
      takes = own.takes;
      after = record {
        late = c.drain_own.new.self;
        drained = record { part = refl; parameters = refl; before = refl; seen = refl; ends = refl; drained = quiet_drained 32 0 _ _ quiet };
        same = refl;
      };
      legal = own.legal;
      list_is = own.list;
      emptied = refl;
      part = c.requires.part ∙ sym c.drain.ensures.part ∙ sym own.part;
    })
