-- Where memory is refused, nothing is asked.
use Rattle.std.proofs.Common.{arith, refl, sym, ap, subst, ◌∙◌, Err, IfOk, ◌≡◌, length, inl, inr}
use Rattle.std.proofs.lemmas.Bool.{false≢true}
use Rattle.std.proofs.lemmas.Result.{err_from_is_err_and}
use Rattle.bp_session_log.specs.Turns.{ReadSaid}
use Rattle.bp_core.specs.Outcomes.{pass_is_out}
use Rattle.bp_shared.specs.Sessions.{SessionValue}
use Rattle.bp_shared.proofs.Acting.{acted, begun, unasked, too_long}
use Rattle.bp_shared.proofs.Working.{why-of}
use Rattle.bp_shared.proofs.pool.SharedPool.read.Goals as goal

pub returns-in_err-reserve : goal.returns-in_err-reserve
returns-in_err-reserve g c =
    let refused = c.in_err-reserve.ensures in
    let is = err_from_is_err_and c.from_residual.result c.from_residual.ensures.1 in
    let why = is.1 ∙ ap Err (is.2 ∙ ap why-of refused.refused) in
    let own = sym c.client.ensures ∙ c.if-client.false ∙ c.client-2.ensures ∙ sym (ap (λ (s : SessionValue). s.client) c.session.view_is) in
    rw (← c.session.view_is) (record {
      read = record {
        keeps = record {
          client = refused.same.client;
          before = refused.same.before;
          acts = unasked _ _ _ _ _ why (record { part = refl; client = refused.same.client; said = refused.same.said; seen = refl; free = refl });
          roomy = λ had. (omega (arith, refused.keeps_passes, had.0), omega (arith, refused.keeps_places, had.1));
        };
        room = λ full. absurd (let no = sym why ∙ full in cc);
        stranger = λ not. absurd (not own);
        unknown = λ is. absurd (let no = sym why ∙ is in cc);
        memory = λ silent roomy no. inl (too_long _ _ refused.same.said (λ short. false≢true (refused.memory silent short (omega arith) (omega (arith, roomy.1)))));
        outcome = subst (λ r. ReadSaid c.session.inside.book.client c.args.pass.now r c.session.inside.book.said c.reserve.new.self.said) (sym why) (own, refused.same.said);
      };
      size = subst (λ r. IfOk r (λ image. length image ≡ g.N.PartNames.parameters.size)) (sym why) tt;
    })

pub returns : goal.returns
returns g c =
    let grows = c.in_ok-reserve.ensures in
    let same = grows.same in
    let entered = c.lock_and_drain-state.ensures in
    let client = ap (λ (s : SessionValue). s.client) entered.session ∙ same.client in
    let said = ap (λ (s : SessionValue). s.said) entered.session ∙ same.said in
    let passes = ap (λ (s : SessionValue). s.passes) entered.session in
    let places = ap (λ (s : SessionValue). s.places) entered.session in
    let done = c.read.ensures in
    let own = sym c.client.ensures ∙ c.if-client.false ∙ c.client-2.ensures ∙ sym (ap (λ (s : SessionValue). s.client) c.session.view_is) in
    rw (← c.session.view_is) (record {
      read = record {
        keeps = record {
          client = done.client ∙ client;
          before = done.before ∙ ap (λ (s : SessionValue). s.before) entered.session ∙ same.before;
          acts = acted _ _ _ _ _ (begun _ _ _ _ _ entered.free (ap (λ (s : SessionValue). s.seen) entered.session) (ap (λ (s : SessionValue). s.part) entered.session) done.acted);
          roomy = λ had. (omega (arith, grows.keeps_passes, passes, done.passes, had.0), omega (arith, grows.keeps_places, places, done.places, had.1));
        };
        room = done.room;
        stranger = λ not. absurd (not own);
        unknown = λ is. inr (sym (ap (pass_is_out c.args.pass.now) said) ∙ done.unknown is);
        memory = λ silent roomy no. inr (done.memory no);
        outcome = rw (client, said) at done.outcome;
      };
      size = done.size;
    })
