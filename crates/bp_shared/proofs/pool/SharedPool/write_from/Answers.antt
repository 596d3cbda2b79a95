-- Where memory is refused, nothing is asked.
use Rattle.std.proofs.Common.{arith, refl, sym, ap, subst, ◌∙◌, Err, inr}
use Rattle.std.proofs.lemmas.Bool.{false≢true}
use Rattle.std.proofs.lemmas.Result.{err_from_is_err_and}
use Rattle.bp_session_log.specs.Turns.{WriteSaid}
use Rattle.bp_core.specs.Outcomes.{pass_is_out}
use Rattle.bp_shared.specs.Sessions.{SessionValue}
use Rattle.bp_shared.proofs.Acting.{acted, begun, unasked, too_long}
use Rattle.bp_shared.proofs.Working.{why-of}
use Rattle.bp_shared.proofs.pool.SharedPool.write_from.Goals as goal

pub returns-in_err-reserve : goal.returns-in_err-reserve
returns-in_err-reserve g c =
    let refused = c.in_err-reserve.ensures in
    let is = err_from_is_err_and c.from_residual-in_err-reserve.result c.from_residual-in_err-reserve.ensures.1 in
    let why = is.1 ∙ ap Err (is.2 ∙ ap why-of refused.refused) in
    let own = sym c.client.ensures ∙ c.if-client.false ∙ c.client-2.ensures ∙ sym (ap (λ (s : SessionValue). s.client) c.session.view_is) in
    rw (← c.session.view_is) (record {
      look = record {
        keeps = record {
          client = refused.same.client;
          before = refused.same.before;
          acts = unasked _ _ _ _ _ why (record { part = refl; client = refused.same.client; said = refused.same.said; seen = refl; free = refl });
          roomy = λ had. (omega (arith, refused.keeps_passes, had.0), omega (arith, refused.keeps_places, had.1));
        };
        stranger = λ not. absurd (not own);
        unknown = λ is. absurd (let no = sym why ∙ is in cc);
        room = λ full. absurd (let no = sym why ∙ full in cc);
        memory = λ silent roomy no. too_long _ _ refused.same.said (λ short. false≢true (refused.memory silent short (omega arith) (omega arith)));
      };
      outcome = subst (λ r. WriteSaid c.session.inside.book.client c.args.pass.now c.args.offset c.args.bytes.now c.args.lsn r c.session.inside.book.said c.reserve.new.self.said) (sym why) (own, refused.same.said);
      memory = λ silent no. too_long _ _ refused.same.said (λ short. false≢true (refused.memory silent short (omega arith) (omega arith)));
    })

pub returns : goal.returns
returns g c =
    let grows = c.in_ok-reserve.ensures in
    let same = grows.same in
    let entered = c.lock_and_drain-state.ensures in
    let client = ap (λ (s : SessionValue). s.client) entered.session ∙ same.client in
    let said = ap (λ (s : SessionValue). s.said) entered.session ∙ same.said in
    let passes = ap (λ (s : SessionValue). s.passes) entered.session in
    let places = ap (λ (s : SessionValue). s.places) entered.session in
    let done = c.write.ensures in
    let own = sym c.client.ensures ∙ c.if-client.false ∙ c.client-2.ensures ∙ sym (ap (λ (s : SessionValue). s.client) c.session.view_is) in
    rw (← c.session.view_is) (record {
      look = record {
        keeps = record {
          client = done.client ∙ client;
          before = done.before ∙ ap (λ (s : SessionValue). s.before) entered.session ∙ same.before;
          acts = acted _ _ _ _ _ (begun _ _ _ _ _ entered.free (ap (λ (s : SessionValue). s.seen) entered.session) (ap (λ (s : SessionValue). s.part) entered.session) done.acted);
          roomy = λ had. (omega (arith, grows.keeps_passes, passes, done.passes, had.0), omega (arith, grows.keeps_places, places, done.places, had.1));
        };
        stranger = λ not. absurd (not own);
        unknown = λ is. inr (sym (ap (pass_is_out c.args.pass.now) said) ∙ done.unknown is);
        room = done.room;
        memory = λ silent roomy no. absurd (done.memory silent no);
      };
      outcome = rw (client, said) at done.outcome;
      memory = λ silent no. absurd (done.memory silent no);
    })
