-- Turn after turn.
use Rattle.std.proofs.Common.{arith, refl, sym, ap, subst, ◌∙◌, Ok, Err}
use Rattle.std.proofs.lemmas.Result.{err_from_is_err_and}
use Rattle.bp_trail.specs.declared.ends.Flushed.{Flushed}
use Rattle.bp_session_log.specs.declared.pending.Flush.{Flush as Flushing}
use Rattle.bp_session_log.specs.declared.pending.Flush.TheVariants as flushing
use Rattle.bp_shared.specs.Sessions.{FlushSaid}
use Rattle.bp_shared.proofs.Acting.{seen_on, idle, acted, may_act, all_more, may_more, refused_more}
use Rattle.bp_shared.proofs.Flushing.{flush_waits_none, flush_turn_more, clean_said, absent_said, flush_busy_waits, flush_refused_said, flushed_said, unflushed_said}
use Rattle.bp_shared.proofs.Refusing.{write_not_full, write_wants_none, same_why}
use Rattle.bp_shared.proofs.Writing.{acts_on, flush_saw, work_seen, wrote_seen}
use Rattle.bp_shared.proofs.Working.{none-yet, flush-turn-work, write-work, began-by-flush, ok-is-no-err, unerr, known-flush}
use Rattle.bp_shared.proofs.pool.SharedPool.flush.Goals as goal

pub loop-init : goal.loop-init
loop-init g c = record { client = refl; before = refl; acts = idle _ _ _; passes = omega arith; places = omega arith; port = refl; waits = flush_waits_none _ _ _; work = none-yet _ _ _ _ }

pub returns-in-Ok-Clean : goal.returns-in-Ok-Clean
returns-in-Ok-Clean g c =
    let i = c.loop.invariant in
    let t = rw (c.in-Ok-Clean.field-0-is, i.client) at c.in-Ok-Clean.ensures.outcome in
    let asked = acts_on _ _ _ _ (may_act _ _ _ _ _ c.make.ensures.acts) in
    let had = rw c.in-Ok-Clean.field-0-is at (c.in-Ok-Clean.ensures.had (λ lacks. let is = lacks in cc)) in
    record {
      flush = record {
        keeps = record { client = c.make.ensures.client ∙ i.client; before = c.make.ensures.before ∙ i.before; acts = all_more _ _ _ _ _ i.acts c.in-Ok-Clean.ensures.acts; roomy = λ was. (omega (arith, had.0), omega (arith, had.1)) };
        room = λ full. absurd (let no = full in cc);
        memory = λ silent was no. absurd (let is = no in cc);
        roomy = λ not. (omega (arith, had.0), omega (arith, had.1));
        outcome = clean_said _ _ _ _ (flush_turn_more _ _ _ _ _ _ i.waits t);
        known = λ unknown. let no = unknown in cc;
      };
      port = i.port;
      work = work_seen _ _ c.args.session.now c.loop.session c.make.new.session _ _ _ _ asked (flush-turn-work _ _ _ _ _ _ _ _ _ _ i.work t);
    }

pub returns-in-Ok-Absent : goal.returns-in-Ok-Absent
returns-in-Ok-Absent g c =
    let i = c.loop.invariant in
    let t = rw (c.in-Ok-Absent.field-0-is, i.client) at c.in-Ok-Absent.ensures.outcome in
    let asked = acts_on _ _ _ _ (may_act _ _ _ _ _ c.make.ensures.acts) in
    let had = rw c.in-Ok-Absent.field-0-is at (c.in-Ok-Absent.ensures.had (λ lacks. let is = lacks in cc)) in
    record {
      flush = record {
        keeps = record { client = c.make.ensures.client ∙ i.client; before = c.make.ensures.before ∙ i.before; acts = all_more _ _ _ _ _ i.acts c.in-Ok-Absent.ensures.acts; roomy = λ was. (omega (arith, had.0), omega (arith, had.1)) };
        room = λ full. absurd (let no = full in cc);
        memory = λ silent was no. absurd (let is = no in cc);
        roomy = λ not. (omega (arith, had.0), omega (arith, had.1));
        outcome = absent_said _ _ _ _ (flush_turn_more _ _ _ _ _ _ i.waits t);
        known = λ unknown. let no = unknown in cc;
      };
      port = i.port;
      work = work_seen _ _ c.args.session.now c.loop.session c.make.new.session _ _ _ _ asked (flush-turn-work _ _ _ _ _ _ _ _ _ _ i.work t);
    }

pub returns-in-Ok-WriteFirst : goal.returns-in-Ok-WriteFirst
returns-in-Ok-WriteFirst g c =
    let i = c.loop.invariant in
    let t = rw (c.in-Ok-WriteFirst.field-0-is, i.client) at c.in-Ok-WriteFirst.ensures.outcome in
    let asked = acts_on _ _ _ _ (may_act _ _ _ _ _ c.make.ensures.acts) in
    let began = flush_saw c.loop.session.client c.args.page (Ok (flushing.WriteFirst c.in-Ok-WriteFirst.ticket)) c.loop.session c.make.new.session (rw c.in-Ok-WriteFirst.field-0-is at (c.in-Ok-WriteFirst.ensures.saw (λ lacks. let is = lacks in cc))) in
    let had = rw c.in-Ok-WriteFirst.field-0-is at (c.in-Ok-WriteFirst.ensures.had (λ lacks. let is = lacks in cc)) in
    let o = rw c.in-Ok-WriteFirst.ticket-is at c.in_ok-ended-in-Ok-WriteFirst.ensures.outcome in
    let wrote = wrote_seen _ c.args.session.now c.loop.session c.make.new.session c.write_out.new.session c.in-Ok-WriteFirst.ticket _ _ _ _ _ i.client (acts_on _ _ _ _ i.acts) began c.write_out.ensures.acted.goes_on o in
    record {
      flush = record {
        keeps = record { client = c.write_out.ensures.client ∙ c.make.ensures.client ∙ i.client; before = c.write_out.ensures.before ∙ c.make.ensures.before ∙ i.before; acts = all_more _ _ _ _ _ (may_more _ _ _ _ _ i.acts (may_act _ _ _ _ _ c.make.ensures.acts)) c.write_out.ensures.acted; roomy = λ was. (omega (arith, had.0, c.write_out.ensures.passes), omega (arith, had.1, c.write_out.ensures.places)) };
        room = λ full. absurd (ok-is-no-err _ _ full);
        memory = λ silent was no. absurd (ok-is-no-err _ _ no);
        roomy = λ not. (omega (arith, had.0, c.write_out.ensures.passes), omega (arith, had.1, c.write_out.ensures.places));
        outcome = flushed_said _ _ _ _ _ c.in-Ok-WriteFirst.ticket c.in_ok-ended-in-Ok-WriteFirst.ended c.flushed.result _ _ _ (flush_turn_more _ _ _ _ _ _ i.waits t) c.flushed.ensures o;
        known = ok-is-no-err _ _;
      };
      port = c.write_out.ensures.port ∙ i.port;
      work = write-work _ _ c.in-Ok-WriteFirst.ticket _ _ _ _ _ _ _ (work_seen _ _ c.args.session.now c.loop.session c.write_out.new.session _ _ _ _ (seen_on _ _ _ asked c.write_out.ensures.acted.goes_on) (flush-turn-work _ _ _ _ _ _ _ _ _ _ i.work t)) (began-by-flush _ _ c.in-Ok-WriteFirst.ticket _ _ t) wrote (ok-is-no-err _ _);
    }

pub returns-in_err-ended-in-Ok-WriteFirst : goal.returns-in_err-ended-in-Ok-WriteFirst
returns-in_err-ended-in-Ok-WriteFirst g c =
    let i = c.loop.invariant in
    let t = rw (c.in-Ok-WriteFirst.field-0-is, i.client) at c.in-Ok-WriteFirst.ensures.outcome in
    let asked = acts_on _ _ _ _ (may_act _ _ _ _ _ c.make.ensures.acts) in
    let began = flush_saw c.loop.session.client c.args.page (Ok (flushing.WriteFirst c.in-Ok-WriteFirst.ticket)) c.loop.session c.make.new.session (rw c.in-Ok-WriteFirst.field-0-is at (c.in-Ok-WriteFirst.ensures.saw (λ lacks. let is = lacks in cc))) in
    let had = rw c.in-Ok-WriteFirst.field-0-is at (c.in-Ok-WriteFirst.ensures.had (λ lacks. let is = lacks in cc)) in
    let o = rw c.in-Ok-WriteFirst.ticket-is at c.in_err-ended-in-Ok-WriteFirst.ensures.outcome in
    let wrote = wrote_seen _ c.args.session.now c.loop.session c.make.new.session c.write_out.new.session c.in-Ok-WriteFirst.ticket _ _ _ _ _ i.client (acts_on _ _ _ _ i.acts) began c.write_out.ensures.acted.goes_on o in
    let is = err_from_is_err_and c.from_residual.result c.from_residual.ensures.1 in
    let known = c.in_err-ended-in-Ok-WriteFirst.ensures.known in
    record {
      flush = record {
        keeps = record { client = c.write_out.ensures.client ∙ c.make.ensures.client ∙ i.client; before = c.write_out.ensures.before ∙ c.make.ensures.before ∙ i.before; acts = acted _ _ _ _ _ (all_more _ _ _ _ _ (may_more _ _ _ _ _ i.acts (may_act _ _ _ _ _ c.make.ensures.acts)) c.write_out.ensures.acted); roomy = λ was. (omega (arith, had.0, c.write_out.ensures.passes), omega (arith, had.1, c.write_out.ensures.places)) };
        room = λ full. absurd (write_not_full _ _ _ _ _ _ _ o (same_why (sym (is.1 ∙ ap Err is.2) ∙ full)));
        memory = λ silent was no. absurd (write_wants_none _ _ _ _ _ _ _ o (same_why (sym (is.1 ∙ ap Err is.2) ∙ no)));
        roomy = λ not. (omega (arith, had.0, c.write_out.ensures.passes), omega (arith, had.1, c.write_out.ensures.places));
        outcome = subst (λ r. FlushSaid c.args.session.now.client c.args.page r c.args.session.now.said c.write_out.new.session.said) (sym (is.1 ∙ ap Err is.2))
            (unflushed_said _ _ _ _ _ c.in-Ok-WriteFirst.ticket c.in_err-ended-in-Ok-WriteFirst.field-0.0 _ _ _ (flush_turn_more _ _ _ _ _ _ i.waits t) o);
        known = λ unknown. known (unerr (sym (is.1 ∙ ap Err is.2) ∙ unknown));
      };
      port = c.write_out.ensures.port ∙ i.port;
      work = write-work _ _ c.in-Ok-WriteFirst.ticket _ _ _ _ _ _ _ (work_seen _ _ c.args.session.now c.loop.session c.write_out.new.session _ _ _ _ (seen_on _ _ _ asked c.write_out.ensures.acted.goes_on) (flush-turn-work _ _ _ _ _ _ _ _ _ _ i.work t)) (began-by-flush _ _ c.in-Ok-WriteFirst.ticket _ _ t) wrote known;
    }

pub loop-preserved : goal.loop-preserved
loop-preserved g c =
    let i = c.loop.invariant in
    let t = rw (c.in-Busy.is, i.client) at c.in-Err.ensures.outcome in
    record { client = c.make.ensures.client ∙ i.client; before = c.make.ensures.before ∙ i.before; acts = may_more _ _ _ _ _ i.acts (may_act _ _ _ _ _ c.make.ensures.acts); passes = omega (arith, i.passes, c.in-Err.ensures.passes_left); places = omega (arith, i.places, c.in-Err.ensures.places_left); port = i.port; waits = flush_busy_waits _ _ _ _ (flush_turn_more _ _ _ _ _ _ i.waits t); work = work_seen _ _ c.args.session.now c.loop.session c.make.new.session _ _ _ _ (acts_on _ _ _ _ (may_act _ _ _ _ _ c.make.ensures.acts)) (flush-turn-work _ _ _ _ _ _ _ _ _ _ i.work t) }

pub returns-in_default : goal.returns-in_default
returns-in_default g c =
    let i = c.loop.invariant in
    let t = rw i.client at c.in-Err.ensures.outcome in
    record {
      flush = record {
        keeps = record { client = c.make.ensures.client ∙ i.client; before = c.make.ensures.before ∙ i.before; acts = refused_more Flushing Flushed _ _ _ _ _ _ i.acts c.in-Err.ensures.acts; roomy = λ was. (omega (arith, was.0, i.passes, c.in-Err.ensures.passes_left), omega (arith, was.1, i.places, c.in-Err.ensures.places_left)) };
        room = λ full. c.in-Err.ensures.why _ (same_why full) (λ is. cc);
        memory = λ silent was no. c.in-Err.ensures.memory silent (omega (arith, was.0, i.passes)) (omega (arith, was.1, i.places)) (same_why no);
        roomy = λ not. let had = c.in-Err.ensures.had (λ no. not (same_why no)) in (omega (arith, had.0), omega (arith, had.1));
        outcome = flush_refused_said _ _ c.in-Err.refusal _ _ c.in_default.not-Busy (flush_turn_more _ _ _ _ _ _ i.waits t);
        known = known-flush Flushed c.in-Err.refusal t.asks.0;
      };
      port = i.port;
      work = work_seen _ _ c.args.session.now c.loop.session c.make.new.session _ _ _ _ (acts_on _ _ _ _ (may_act _ _ _ _ _ c.make.ensures.acts)) (flush-turn-work _ _ _ _ _ _ _ _ _ _ i.work t);
    }
