-- The entries of one event, which the board shows.
use Rattle.std.proofs.Common.{ap, refl, subst, sym, ◌∙◌, IfErr}
use Rattle.bp_core.specs.CoreView.{CoreView}
use Rattle.bp_shared.proofs.Acting.{shows}
use Rattle.bp_shared.proofs.Telling.{made, earlier_adds, earlier_seen, line_earlier, shown_more}
use Rattle.bp_shared.proofs.Posting.{posted_adds}
use Rattle.bp_shared.proofs.Belonging.{own_line}
use Rattle.bp_shared.proofs.locked_pool.LockedPool.make.Goals as goal

pub invariant_of-self : goal.invariant_of-self
invariant_of-self g c =
    let done = c.ask-answer.ensures in
    let adds = made _ _ _ _ done.makes in
    let locked = c.self.invariant.0 in
    let handed = c.self.invariant.1 in (
      record { reader_is = done.mark ∙ locked.reader_is; parameters_are = ap (λ (v : CoreView). v.parameters) done.makes.is ∙ locked.parameters_are; seen = done.seen },
      record { ring_is = handed.ring_is; emptied = handed.emptied; pieces_are = ap (λ (v : CoreView). v.before) done.makes.is ∙ handed.pieces_are },
      shown_more _ _ c.session.inside.book.client _ _ _ _ _ _ _ _ c.self.invariant.2 (own_line _ _ _ _ _ (ap g.N.PartNames.ring (rw (← c.self.view_is, ← c.session.view_is) at c.requires.entered.part)) c.session.invariant.3) (rw (← c.self.view_is, ← c.session.view_is) at c.requires.entered.list_is) adds c.write.ensures,
      posted_adds _ _ _ c.session.inside.book.client _ _ _ _ c.self.invariant.3 adds done.makes.owner.unfixes_are,
      c.self.invariant.4,
      earlier_seen _ _ _ _ _ _ (earlier_adds _ _ _ _ _ _ _ c.self.invariant.5 adds) c.write-2.ensures,
    )

pub returns-clause-saw : goal.returns-clause-saw
returns-clause-saw g c =
    rw (← c.session.view_is) (record {
      durable = c.ask-answer.new.reader.seen;
      core = c.self.inside.core;
      after = c.ask-answer.new.core;
      goes_on = line_earlier _ _ _ _ _ _ _ c.self.invariant.5 c.write-2.ensures;
      event = c.ask-answer.ensures.asked;
      seen_is = c.write-2.ensures.list_is;
    })

pub returns-clause-acted : goal.returns-clause-acted
returns-clause-acted g c =
    let done = c.ask-answer.ensures in
    let are = ap (λ (v : CoreView). v.parameters) done.makes.is in
    rw (← c.session.view_is) (shows _ _ _ _ c.self.inside.core c.ask-answer.new.core c.self.invariant.0.parameters_are are c.keeps_the_rules.ensures.legal (rw (← c.self.view_is, ← c.session.view_is) at c.requires.entered.list_is) (made _ _ _ _ done.makes) done.makes.owner.client (rw (← c.session.view_is) at c.requires.entered.emptied) refl (line_earlier _ _ _ _ _ _ _ c.self.invariant.5 c.write-2.ensures) c.write-2.ensures.list_is refl)

pub returns-clause-why : goal.returns-clause-why
returns-clause-why g c =
    let done = c.ask-answer.ensures in
    let are = ap (λ (v : CoreView). v.parameters) done.makes.is ∙ c.self.invariant.0.parameters_are in
    subst (λ past. IfErr c.ask-answer.result (λ why. g.E.Event.cause c.args.event why g.N.PartNames.parameters past)) (sym c.write-2.ensures.list_is)
    (subst (λ p. IfErr c.ask-answer.result (λ why. g.E.Event.cause c.args.event why p c.ask-answer.new.core.past)) are done.why)
