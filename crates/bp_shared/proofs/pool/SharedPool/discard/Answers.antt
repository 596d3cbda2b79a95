-- Turn after turn.
use Rattle.std.proofs.Common.{refl, ◌∙◌, arith}
use Rattle.bp_trail.specs.declared.ends.Discarded.{Discarded}
use Rattle.bp_shared.proofs.Acting.{idle, may_act, all_more, may_more, refused_more, roomy_still, or_never}
use Rattle.bp_shared.proofs.Discarding.{waits_none, busy_waits, left_said, refused_said}
use Rattle.bp_shared.proofs.pool.SharedPool.discard.Goals as goal

pub loop-init : goal.loop-init
loop-init g c = record { client = refl; before = refl; acts = idle _ _ _; roomy = λ had. had; waits = waits_none _ _ _ }

pub returns-in-Ok : goal.returns-in-Ok
returns-in-Ok g c =
    let i = c.loop.invariant in
    let still = roomy_still c.loop.session c.make.new.session c.make.ensures.passes_left c.make.ensures.places_left in
    let t = rw i.client at c.in-Ok.ensures.outcome in
    record {
      keeps = record { client = c.make.ensures.client ∙ i.client; before = c.make.ensures.before ∙ i.before; acts = all_more _ _ _ _ _ i.acts c.in-Ok.ensures.acts; roomy = λ had. still (i.roomy had) };
      room = λ full. absurd (let no = full in cc);
      memory = λ silent refused. absurd (let no = refused in cc);
      outcome = left_said _ _ c.in-Ok.how _ _ _ i.waits t;
    }

pub loop-preserved : goal.loop-preserved
loop-preserved g c =
    let i = c.loop.invariant in
    let still = roomy_still c.loop.session c.make.new.session c.make.ensures.passes_left c.make.ensures.places_left in
    let t = rw (c.in-Busy.is, i.client) at c.in-Err.ensures.outcome in
    record {
      client = c.make.ensures.client ∙ i.client;
      before = c.make.ensures.before ∙ i.before;
      acts = may_more _ _ _ _ _ i.acts (may_act _ _ _ _ _ c.make.ensures.acts);
      roomy = λ had. still (i.roomy had);
      waits = busy_waits _ _ _ _ _ i.waits t;
    }

pub returns-in_default : goal.returns-in_default
returns-in_default g c =
    let i = c.loop.invariant in
    let still = roomy_still c.loop.session c.make.new.session c.make.ensures.passes_left c.make.ensures.places_left in
    let t = rw i.client at c.in-Err.ensures.outcome in
    record {
      keeps = record { client = c.make.ensures.client ∙ i.client; before = c.make.ensures.before ∙ i.before; acts = refused_more Discarded Discarded _ _ _ _ _ _ i.acts c.in-Err.ensures.acts; roomy = λ had. still (i.roomy had) };
      room = λ full. c.in-Err.ensures.why _ full (λ is. cc);
      memory = λ silent no. or_never (c.in-Err.ensures.memory silent (omega arith) (omega arith) no);
      outcome = refused_said _ _ c.in-Err.refusal _ _ _ c.in_default.not-Busy i.waits t;
    }
