-- Try after try.
use Rattle.std.proofs.Common.{arith, refl, ap, ◌∙◌, Err}
use Rattle.std.proofs.lemmas.Result.{err_from_is_err_and}
use Rattle.bp_core.specs.declared.passes.Pass.{Pass}
use Rattle.bp_shared.proofs.Acting.{idle, all_more, acts_more, may_act, may_more}
use Rattle.bp_shared.proofs.Working.{none-yet, why-of}
use Rattle.bp_workers.proofs.Raising.{raises-none, raises-then}
use Rattle.bp_workers.proofs.Trying.{leads-none, leads-more, leads-fixed, leads-given_up, leads-end, gives-up-acts}
use Rattle.bp_workers.proofs.Working.{goes-on-work, gives-up-work, shown-work, tried-work}
use Rattle.bp_workers.proofs.durable.fix_durably.Goals as goal

pub loop-round-init : goal.loop-round-init
loop-round-init g c = record { client = refl; before = refl; acts = idle _ _ _; roomy = λ was. was; port = refl; lent = refl; raises = raises-none _ _; leads = leads-none _ _ _ _ _ _ _ _; work = none-yet _ _ _ _ }

pub loop-round-preserved : goal.loop-round-preserved
loop-round-preserved g c =
    let i = c.loop-round.invariant in
    let said = rw i.client at c.in-Err.ensures.gives in
    let goes = rw (c.ask_fix.ensures.keeps.client ∙ i.client) at c.in_ok-overcome-in-Err.ensures.goes_on in
    record {
      client = c.overcome.ensures.client ∙ c.ask_fix.ensures.keeps.client ∙ i.client;
      before = c.overcome.ensures.before ∙ c.ask_fix.ensures.keeps.before ∙ i.before;
      acts = may_more _ _ _ _ _ (may_more _ _ _ _ _ i.acts (may_act _ _ _ _ _ c.ask_fix.ensures.keeps.acts)) c.overcome.ensures.acts;
      roomy = λ was. c.overcome.ensures.roomy (c.ask_fix.ensures.keeps.roomy (i.roomy was));
      port = c.ask_fix.ensures.port ∙ i.port;
      lent = c.overcome.ensures.lent ∙ i.lent;
      raises = raises-then _ _ _ _ _ _ i.raises c.overcome.ensures.raises;
      leads = leads-more _ _ _ _ _ _ _ _ _ _ _ _ _ _ _ c.in-Err.why i.leads c.overcome.ensures.raises.rises said goes;
      work = goes-on-work _ _ _ _ _ _ _ _ _ _ _ _ _
          (shown-work _ _ _ _ c.args.client.now.session c.ask_fix.new.session c.overcome.new.session _ _ _ _ c.overcome.ensures.acts
          (tried-work _ _ _ _ c.args.client.now.session c.loop-round.client.session c.ask_fix.new.session _ _ _ i.client i.acts (may_act _ _ _ _ _ c.ask_fix.ensures.keeps.acts) i.work c.in-Err.ensures.work))
          goes;
    }

pub returns-in-Ok : goal.returns-in-Ok
returns-in-Ok g c =
    let i = c.loop-round.invariant in
    record {
      keeps = record { client = c.ask_fix.ensures.keeps.client ∙ i.client; before = c.ask_fix.ensures.keeps.before ∙ i.before; acts = all_more _ _ _ _ _ i.acts c.in-Ok.ensures.keeps.acts; roomy = λ was. c.ask_fix.ensures.keeps.roomy (i.roomy was) };
      roomy = c.in-Ok.ensures.roomy;
      known = c.in-Ok.ensures.known;
      port = c.ask_fix.ensures.port ∙ i.port;
      lent = i.lent;
      raises = i.raises;
      outcome = leads-fixed _ _ _ _ _ _ _ _ _ _ _ _ _ _ i.leads (omega (arith, c.loop-round-test.true)) (rw i.client at c.in-Ok.ensures.gives);
      work = tried-work _ _ _ _ c.args.client.now.session c.loop-round.client.session c.ask_fix.new.session _ _ _ i.client i.acts (may_act _ _ _ _ _ c.ask_fix.ensures.keeps.acts) i.work c.in-Ok.ensures.work;
    }

pub returns-in_err-overcome-in-Err : goal.returns-in_err-overcome-in-Err
returns-in_err-overcome-in-Err g c =
    let i = c.loop-round.invariant in
    let ends = rw (c.ask_fix.ensures.keeps.client ∙ i.client) at c.in_err-overcome-in-Err.ensures.gives_up in
    let client = c.args.client.now.session.client in
    let steps = c.args.patience.ticks in
    let answer = c.in_err-overcome-in-Err.field-0.0 in
    let is = err_from_is_err_and c.from_residual.result c.from_residual.ensures.1 in
    record {
      keeps = record {
        client = c.overcome.ensures.client ∙ c.ask_fix.ensures.keeps.client ∙ i.client;
        before = c.overcome.ensures.before ∙ c.ask_fix.ensures.keeps.before ∙ i.before;
        acts = rw (is.1 ∙ ap Err is.2)
            (acts_more {A = Pass} _ _ (Err answer) c.args.client.now.session c.loop-round.client.session c.overcome.new.session i.acts
            (gives-up-acts _ _ c.loop-round.client.session c.ask_fix.new.session c.overcome.new.session g.A.Asked.ticks client steps _ c.in-Err.why _ answer _ _ ends c.in-Err.ensures.keeps.acts c.overcome.ensures.acts));
        roomy = λ was. c.overcome.ensures.roomy (c.ask_fix.ensures.keeps.roomy (i.roomy was));
      };
      roomy = rw (is.1 ∙ ap Err is.2) tt;
      known = rw (is.1 ∙ ap Err is.2) (λ unknown. c.in-Err.ensures.known (ap Err (c.in_err-overcome-in-Err.ensures.known (ap why-of unknown))));
      port = c.ask_fix.ensures.port ∙ i.port;
      lent = c.overcome.ensures.lent ∙ i.lent;
      raises = raises-then _ _ _ _ _ _ i.raises c.overcome.ensures.raises;
      outcome = rw (is.1 ∙ ap Err is.2)
          (leads-given_up _ _ _ _ _ _ _ _ _ _ _ _ _ _ _ _ _ i.leads c.loop-round-test.true c.overcome.ensures.raises.rises (rw i.client at c.in-Err.ensures.gives) ends);
      work = gives-up-work _ _ g.A.Asked.ticks client steps _ _ _ _ _ _ _ _ _
          (shown-work _ _ _ _ c.args.client.now.session c.ask_fix.new.session c.overcome.new.session _ _ _ _ c.overcome.ensures.acts
          (tried-work _ _ _ _ c.args.client.now.session c.loop-round.client.session c.ask_fix.new.session _ _ _ i.client i.acts (may_act _ _ _ _ _ c.ask_fix.ensures.keeps.acts) i.work c.in-Err.ensures.work))
          ends;
    }

pub returns : goal.returns
returns g c =
    let i = c.loop-round.invariant in
    record {
      keeps = record { client = c.ask_fix-2.ensures.keeps.client ∙ i.client; before = c.ask_fix-2.ensures.keeps.before ∙ i.before; acts = acts_more _ _ _ _ _ _ i.acts c.ask_fix-2.ensures.keeps.acts; roomy = λ was. c.ask_fix-2.ensures.keeps.roomy (i.roomy was) };
      roomy = c.ask_fix-2.ensures.roomy;
      known = c.ask_fix-2.ensures.known;
      port = c.ask_fix-2.ensures.port ∙ i.port;
      lent = i.lent;
      raises = i.raises;
      outcome = leads-end _ _ _ _ _ _ _ _ _ _ _ _ _ _ i.leads (omega (arith, c.loop-round.auto._round-end, c.loop-round-test.false)) (rw i.client at c.ask_fix-2.ensures.gives);
      work = tried-work _ _ _ _ c.args.client.now.session c.loop-round.client.session c.ask_fix-2.new.session _ _ _ i.client i.acts (may_act _ _ _ _ _ c.ask_fix-2.ensures.keeps.acts) i.work c.ask_fix-2.ensures.work;
    }
