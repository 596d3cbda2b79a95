-- Both lines of the session are written: with its list, and with the trail.
use Rattle.std.proofs.Common.{ap, ◌≡◌, arith}
use Rattle.rtrb.specs.Ring.{known_free}
use Rattle.bp_shared.proofs.Telling.{shown_again, line_earlier, earlier_seen}
use Rattle.bp_shared.proofs.Belonging.{own_line}
use Rattle.bp_shared.proofs.locked_pool.LockedPool.show.Goals as goal

pub invariant_of-self : goal.invariant_of-self
invariant_of-self g c = (
  c.self.invariant.0,
  c.self.invariant.1,
  shown_again _ _ _ _ _ _ _ _ _ c.self.invariant.2 (own_line _ _ _ _ _ (ap g.N.PartNames.ring (rw (← c.self.view_is, ← c.session.view_is) at c.requires.entered.part)) c.session.invariant.3) (rw (← c.self.view_is, ← c.session.view_is) at c.requires.entered.list_is) c.write.ensures,
  c.self.invariant.3,
  c.self.invariant.4,
  earlier_seen _ _ _ _ _ _ c.self.invariant.5 c.write-2.ensures,
)

pub returns-clause-sees : goal.returns-clause-sees
returns-clause-sees g c =
    let legal = rw c.self.invariant.0.parameters_are at c.keeps_the_rules.ensures.legal in
    let s = c.session.inside in
    let places : known_free s.producer ≡ 32 = rw (← c.session.view_is) at c.requires.entered.emptied in
    rw (← c.session.view_is) (rw c.write-2.ensures.list_is (record {
      same = λ i. record {
        part = s.part;
        client = s.book.client;
        before = s.book.before;
        said = s.book.said;
        seen = c.self.inside.core.past;
        free = places i;
        room = s.book.entries;
        passes = s.book.passes;
        copies = s.book.copies;
        places = s.book.places;
      };
      free = omega arith;
      legal = legal;
      list_is = rw (← c.self.view_is, ← c.session.view_is) at c.requires.entered.list_is;
      goes_on = line_earlier _ _ _ _ _ _ _ c.self.invariant.5 c.write-2.ensures;
    }))
