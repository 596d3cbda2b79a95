-- Each flush is one page more.
use Rattle.std.proofs.Common.{refl, ◌∙◌, ap, Err, arith, inr}
use Rattle.bp_trail.specs.declared.ends.Flushed.{Flushed}
use Rattle.bp_shared.specs.FlushAll.FlushesEach.{none, page}
use Rattle.bp_shared.proofs.Acting.{seen_on, idle, looks, may_act, all_more, all_then, still_roomy}
use Rattle.bp_shared.proofs.Writing.{acts_on, work_seen, work_since}
use Rattle.bp_shared.proofs.Working.{none-yet, work-on}
use Rattle.bp_shared.proofs.pool.SharedPool.flush_all.Goals as goal

pub loop-page-init : goal.loop-page-init
loop-page-init g c = record { client = refl; before = refl; acts = idle _ _ _; roomy = λ was. was; port = refl; flushed = none; work = none-yet _ _ _ _ }

pub overflow_add-from : goal.overflow_add-from
overflow_add-from g c = let few = c.in-Some.ensures.few in omega (arith, few, c.number-from.ensures)

pub loop-page-preserved : goal.loop-page-preserved
loop-page-preserved g c =
    let i = c.loop-page.invariant in
    let s = c.in-Some.ensures.sees.same in
    let f = c.in-Ok.ensures in
    record {
      client = f.flush.keeps.client ∙ ap (λ s. s.client) s ∙ i.client;
      before = f.flush.keeps.before ∙ ap (λ s. s.before) s ∙ i.before;
      acts = inr (all_more _ _ _ _ _ (inr (all_more _ _ _ _ _ i.acts (looks _ _ _ _ c.in-Some.ensures.sees))) f.flush.keeps.acts);
      roomy = λ was. f.flush.keeps.roomy (still_roomy _ _ _ _ c.in-Some.ensures.sees (i.roomy was));
      port = f.port ∙ i.port;
      flushed = rw c.number-from.ensures (page c.in-Some.page c.in-Ok.field-0 _ i.flushed (record { sees = c.in-Some.ensures.sees; found = c.in-Some.ensures.found }) (record { client = f.flush.keeps.client; seen = f.flush.keeps.acts.goes_on; said = f.flush.outcome }));
      work = work-on _ _ _ _ _ _ _ _ (work_seen _ _ c.args.session.now c.loop-page.session c.flush.new.session _ _ _ _ (seen_on _ _ _ c.in-Some.ensures.sees.goes_on f.flush.keeps.acts.goes_on) i.work)
          (work_since _ _ c.args.session.now c.next_unsaved.new.session c.flush.new.session _ _ _ _ (ap (λ s. s.client) s ∙ i.client) (seen_on _ _ _ (acts_on _ _ _ _ i.acts) c.in-Some.ensures.sees.goes_on) (rw (ap (λ s. s.said) s) at f.work));
    }

pub returns-in-Err-clause-work : goal.returns-in-Err-clause-work
returns-in-Err-clause-work g c =
    let i = c.loop-page.invariant in
    let sees = c.in-Some.ensures.sees in
    let flushed = acts_on _ _ _ _ (may_act {A = Flushed} _ _ (Err c.in-Err.why) _ _ c.in-Err.ensures.flush.keeps.acts) in
    work-on _ _ _ _ _ _ _ _ (work_seen _ _ c.args.session.now c.loop-page.session c.flush.new.session _ _ _ _ (seen_on _ _ _ sees.goes_on flushed) i.work)
    (work_since _ _ c.args.session.now c.next_unsaved.new.session c.flush.new.session _ _ _ _ (ap (λ s. s.client) sees.same ∙ i.client) (seen_on _ _ _ (acts_on _ _ _ _ i.acts) sees.goes_on) (rw (ap (λ s. s.said) sees.same) at c.in-Err.ensures.work))

pub returns-in-Err-clause-flushes : goal.returns-in-Err-clause-flushes
returns-in-Err-clause-flushes g c =
    let i = c.loop-page.invariant in
    let sees = c.in-Some.ensures.sees in
    let f = c.in-Err.ensures.flush in
    record {
      client = f.keeps.client ∙ ap (λ s. s.client) sees.same ∙ i.client;
      before = f.keeps.before ∙ ap (λ s. s.before) sees.same ∙ i.before;
      acted = all_then _ _ _ _ _ (all_more _ _ _ _ _ i.acts (looks _ _ _ _ sees)) (may_act {A = Flushed} _ _ (Err c.in-Err.why) _ _ f.keeps.acts);
      roomy = λ was. f.keeps.roomy (still_roomy _ _ _ _ sees (i.roomy was));
      outcome = record {
        next = c.loop-page.from;
        mid = c.loop-page.session;
        found = c.next_unsaved.new.session;
        flushed = i.flushed;
        finds = record { sees = sees; found = c.in-Some.ensures.found };
        refused = record { client = f.keeps.client; seen = acts_on _ _ _ _ (may_act {A = Flushed} _ _ (Err c.in-Err.why) _ _ f.keeps.acts); said = f.outcome };
      };
      known = λ unknown. f.known (ap Err unknown);
      room = λ full. f.room (ap Err full);
      memory = λ silent was no. f.memory silent (still_roomy _ _ _ _ sees (i.roomy was)) (ap Err no);
    }

pub returns-clause-flushes : goal.returns-clause-flushes
returns-clause-flushes g c =
    let i = c.loop-page.invariant in
    let sees = c.next_unsaved.ensures.sees in
    record {
      client = ap (λ s. s.client) sees.same ∙ i.client;
      before = ap (λ s. s.before) sees.same ∙ i.before;
      acted = all_more _ _ _ _ _ i.acts (looks _ _ _ _ sees);
      roomy = λ was. still_roomy _ _ _ _ sees (i.roomy was);
      outcome = record { next = c.loop-page.from; mid = c.loop-page.session; flushed = i.flushed; none_left = record { sees = sees; found = c.in_default.ensures.found } };
      known = tt;
      room = tt;
      memory = λ silent was. tt;
    }

pub returns-clause-work : goal.returns-clause-work
returns-clause-work g c =
    let sees = c.next_unsaved.ensures.sees in
    rw (ap (λ s. s.said) sees.same) (work_seen _ _ c.args.session.now c.loop-page.session c.next_unsaved.new.session _ _ _ _ sees.goes_on c.loop-page.invariant.work)
