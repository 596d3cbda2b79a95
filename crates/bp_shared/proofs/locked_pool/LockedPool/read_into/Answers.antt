-- One event, which the board shows.
use Rattle.std.proofs.Common.{ap, rules, refl, arith}
use Rattle.bp_shared.proofs.Stepping.{step_one}
use Rattle.bp_shared.proofs.Acting.{shows, fills}
use Rattle.bp_shared.proofs.Refusing.{read_into_full}
use Rattle.bp_shared.proofs.Telling.{adds_one, read_into_one, earlier_adds, earlier_seen, line_earlier, shown_more}
use Rattle.bp_shared.proofs.Posting.{posted_adds}
use Rattle.bp_shared.proofs.Owning.{read-into-lacks}
use Rattle.bp_shared.proofs.Belonging.{own_line}
use Rattle.bp_shared.proofs.locked_pool.LockedPool.read_into.Goals as goal

pub invariant_of-self : goal.invariant_of-self
invariant_of-self g c =
    let done = c.ask_read_into-answer.ensures in
    let adds = adds_one c.session.inside.book.client _ _ _ _ done.keeps.adds.alike (read_into_one _ _ _ _ _ _ _ _ done.outcome) in (
      search rules,
      search rules,
      shown_more _ _ c.session.inside.book.client _ _ _ _ _ _ _ _ c.self.invariant.2 (own_line _ _ _ _ _ (ap g.N.PartNames.ring (rw (← c.self.view_is, ← c.session.view_is) at c.requires.entered.part)) c.session.invariant.3) (rw (← c.self.view_is, ← c.session.view_is) at c.requires.entered.list_is) adds c.write.ensures,
      posted_adds _ _ _ c.session.inside.book.client _ _ _ _ c.self.invariant.3 adds done.keeps.adds.owner.unfixes_are,
      c.self.invariant.4,
      earlier_seen _ _ _ _ _ _ (earlier_adds _ _ _ _ _ _ _ c.self.invariant.5 adds) c.write-2.ensures,
    )

pub returns : goal.returns
returns g c =
    let done = c.ask_read_into-answer.ensures in
    let adds = adds_one c.session.inside.book.client _ _ _ _ done.keeps.adds.alike (read_into_one _ _ _ _ _ _ _ _ done.outcome) in
    rw (← c.self.view_is, ← c.session.view_is) (record {
      part = refl;
      client = done.keeps.adds.owner.client;
      before = done.keeps.adds.owner.before;
      acted = shows _ _ _ _ c.self.inside.core c.ask_read_into-answer.new.core c.self.invariant.0.parameters_are done.keeps.adds.parameters c.keeps_the_rules.ensures.legal (rw (← c.self.view_is, ← c.session.view_is) at c.requires.entered.list_is) adds done.keeps.adds.owner.client (rw (← c.session.view_is) at c.requires.entered.emptied) refl (line_earlier _ _ _ _ _ _ _ c.self.invariant.5 c.write-2.ensures) c.write-2.ensures.list_is refl;
      room = λ is. let no = read_into_full _ _ _ _ _ _ _ done.asked is in fills 1 1 _ c.self.inside.core c.ask_read_into-answer.new.core _ c.self.invariant.0.parameters_are (omega arith) no.0 no.1 c.write-2.ensures.list_is;
      ends = refl;
      outcome = done.outcome;
      passes = done.passes;
      places = done.places;
      memory = done.memory;
      unknown = read-into-lacks _ _ _ _ _ _ _ _ _ _ _ done.asked (rw (← c.self.view_is) at c.requires.entered.legal)
          (rw (← c.self.view_is, ← c.session.view_is) at c.requires.entered.list_is) (rw (← c.session.view_is) at c.requires.own);
      in_step = step_one _ _ _ _ _ refl done.asked done.keeps.adds.alike;
    })
