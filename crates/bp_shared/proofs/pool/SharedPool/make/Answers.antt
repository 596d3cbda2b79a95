-- Where memory is refused, nothing is asked.
use Rattle.std.proofs.Common.{◌≤◌, arith, refl, sym, ap, subst, ◌∙◌, Err, inl, inr, IfErr}
use Rattle.std.proofs.lemmas.Bool.{false≢true}
use Rattle.std.proofs.lemmas.Result.{err_from_is_err_and}
use Rattle.bp_session_log.specs.declared.book.Room.{Room}
use Rattle.bp_shared.specs.Sessions.{SessionValue}
use Rattle.bp_shared.proofs.Acting.{acted, begun, unasked, too_long}
use Rattle.bp_shared.proofs.Working.{why-of}
use Rattle.bp_shared.proofs.pool.SharedPool.make.Goals as goal

pub returns-in_err-reserve : goal.returns-in_err-reserve
returns-in_err-reserve g c =
    let refused = c.in_err-reserve.ensures in
    let same = refused.same in
    let room = c.room.ensures in
    let is = err_from_is_err_and c.from_residual.result c.from_residual.ensures.1 in
    let why_is = is.1 ∙ ap Err (is.2 ∙ ap why-of refused.refused) in
    rw (← c.session.view_is) (record {
      client = same.client;
      before = same.before;
      acts = unasked _ _ _ _ _ why_is (record { part = refl; client = same.client; said = same.said; seen = refl; free = refl });
      outcome = subst (λ after. g.E.Event.says c.args.event c.session.inside.book.client c.from_residual.result c.session.inside.book.said after) (sym same.said)
          (subst (λ r. g.E.Event.says c.args.event c.session.inside.book.client r c.session.inside.book.said c.session.inside.book.said) (sym why_is) (g.met.E.Event.unasked c.args.event c.session.inside.book.client c.session.inside.book.said));
      passes_left = omega (arith, refused.keeps_passes);
      places_left = omega (arith, refused.keeps_places);
      had = λ not. absurd (not why_is);
      saw = λ not. absurd (not why_is);
      why = λ why this not. absurd (not (ap why-of (sym this ∙ why_is)));
      memory = λ silent passes copies no. inl (too_long _ _ same.said (λ short. false≢true (refused.memory silent short
          (subst (λ (r : Room). r.passes ≤ c.session.inside.book.passes) (sym room) passes) (subst (λ (r : Room). r.copies ≤ c.session.inside.book.places) (sym room) copies))));
    })

pub returns : goal.returns
returns g c =
    let grows = c.in_ok-reserve.ensures in
    let same = grows.same in
    let room = c.room.ensures in
    let entered = c.lock_and_drain-state.ensures in
    let client = ap (λ (s : SessionValue). s.client) entered.session ∙ same.client in
    let said = ap (λ (s : SessionValue). s.said) entered.session ∙ same.said in
    let passes = ap (λ (s : SessionValue). s.passes) entered.session in
    let places = ap (λ (s : SessionValue). s.places) entered.session in
    let most = ap (λ (r : Room). r.passes) room in
    let images = ap (λ (r : Room). r.copies) room in
    let done = c.make-answer.ensures in
    rw (← c.session.view_is) (record {
      client = done.client ∙ client;
      before = done.before ∙ ap (λ (s : SessionValue). s.before) entered.session ∙ same.before;
      acts = acted _ _ _ _ _ (begun _ _ _ _ _ entered.free (ap (λ (s : SessionValue). s.seen) entered.session) (ap (λ (s : SessionValue). s.part) entered.session) done.acted);
      outcome = rw (client, said) at done.outcome;
      saw = λ not. let s = done.saw in record { durable = s.durable; core = s.core; after = s.after; goes_on = rw (ap (λ (v : SessionValue). v.seen) entered.session) at s.goes_on; event = rw client at s.event; seen_is = s.seen_is };
      passes_left = omega (arith, grows.keeps_passes, passes, done.passes);
      places_left = omega (arith, grows.keeps_places, places, done.places);
      had = λ not. (omega (arith, most, grows.passes, passes, done.passes), omega (arith, images, grows.places, places, done.places));
      why = λ why this not. subst (λ r. IfErr r (λ w. g.E.Event.cause c.args.event w g.N.PartNames.parameters c.make-answer.new.session.seen)) this done.why;
      memory = λ silent few images no. inr (subst (λ r. IfErr r (λ w. g.E.Event.cause c.args.event w g.N.PartNames.parameters c.make-answer.new.session.seen)) no done.why);
    })
