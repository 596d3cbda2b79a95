-- Turn after turn.
use Rattle.std.proofs.Common.{arith, refl, sym, ap, subst, ◌∙◌, Ok, Err, inr}
use Rattle.std.proofs.lemmas.Result.{err_from_is_err_and}
use Rattle.bp_core.specs.declared.passes.Pass.{Pass}
use Rattle.bp_session_log.specs.declared.pending.Fix.{Fix as Fixing}
use Rattle.bp_session_log.specs.declared.pending.Fix.TheVariants as fixing
use Rattle.bp_shared.specs.Sessions.{FixSaid}
use Rattle.bp_shared.proofs.Acting.{seen_on, idle, acted, may_act, all_more, may_more, refused_more}
use Rattle.bp_shared.proofs.Fixing.{waits_none, turn_more, hit_said, busy_waits, refused_said, load_said, written_waits, unwritten_said}
use Rattle.bp_shared.proofs.Refusing.{load_not_full, load_wants_none, write_not_full, write_wants_none, same_why}
use Rattle.bp_shared.proofs.Writing.{acts_on, fix_saw, work_seen, wrote_seen}
use Rattle.bp_shared.proofs.Working.{none-yet, fix-turn-work, load-work, write-work, began-by-fix, ok-is-no-err, unerr, known-fix}
use Rattle.bp_shared.proofs.pool.SharedPool.fix_from.Goals as goal

pub loop-init : goal.loop-init
loop-init g c = record { client = refl; before = refl; acts = idle _ _ _; passes = omega arith; places = omega arith; port = refl; waits = waits_none _ _ _; work = none-yet _ _ _ _ }

pub returns-in-Ok-Hit : goal.returns-in-Ok-Hit
returns-in-Ok-Hit g c =
    let i = c.loop.invariant in
    let t = rw (c.in-Ok-Hit.field-0-is, i.client) at c.in-Ok-Hit.ensures.outcome in
    let asked = acts_on _ _ _ _ (may_act _ _ _ _ _ c.make.ensures.acts) in
    let had = rw c.in-Ok-Hit.field-0-is at (c.in-Ok-Hit.ensures.had (λ lacks. let is = lacks in cc)) in
    record {
      fix = record {
        keeps = record { client = c.make.ensures.client ∙ i.client; before = c.make.ensures.before ∙ i.before; acts = all_more _ _ _ _ _ i.acts c.in-Ok-Hit.ensures.acts; roomy = λ was. (omega (arith, had.0), omega (arith, had.1)) };
        room = λ full. absurd (let no = full in cc);
        memory = λ silent was no. absurd (let is = no in cc);
        roomy = λ not. (omega (arith, had.0), omega (arith, had.1));
        outcome = hit_said _ _ c.in-Ok-Hit.pass _ _ (turn_more _ _ _ _ _ _ i.waits t);
        known = λ unknown. let no = unknown in cc;
      };
      port = i.port;
      work = work_seen _ _ c.args.session.now c.loop.session c.make.new.session _ _ _ _ asked (fix-turn-work _ _ _ _ _ _ _ _ _ _ i.work t);
    }

pub returns-in-Ok-Load : goal.returns-in-Ok-Load
returns-in-Ok-Load g c =
    let i = c.loop.invariant in
    let t = rw (c.in-Ok-Load.field-0-is, i.client) at c.in-Ok-Load.ensures.outcome in
    let asked = acts_on _ _ _ _ (may_act _ _ _ _ _ c.make.ensures.acts) in
    let had = rw c.in-Ok-Load.field-0-is at (c.in-Ok-Load.ensures.had (λ lacks. let is = lacks in cc)) in
    record {
      fix = record {
        keeps = record { client = c.load.ensures.client ∙ c.make.ensures.client ∙ i.client; before = c.load.ensures.before ∙ c.make.ensures.before ∙ i.before; acts = acted _ _ _ _ _ (all_more _ _ _ _ _ (may_more _ _ _ _ _ i.acts (may_act _ _ _ _ _ c.make.ensures.acts)) c.load.ensures.acted); roomy = λ was. (omega (arith, had.0, c.load.ensures.passes), omega (arith, had.1, c.load.ensures.places)) };
        room = λ full. absurd (load_not_full _ _ _ _ _ _ _ c.load.ensures.outcome full);
        memory = λ silent was no. absurd (load_wants_none _ _ _ _ _ _ _ c.load.ensures.outcome no);
        roomy = λ not. (omega (arith, had.0, c.load.ensures.passes), omega (arith, had.1, c.load.ensures.places));
        outcome = load_said _ _ _ _ _ c.in-Ok-Load.ticket _ _ _ _ _ (turn_more _ _ _ _ _ _ i.waits t) c.load.ensures.outcome;
        known = c.load.ensures.known;
      };
      port = c.load.ensures.port ∙ i.port;
      work = load-work _ _ c.in-Ok-Load.ticket _ _ _ _ _ _ _ (work_seen _ _ c.args.session.now c.loop.session c.load.new.session _ _ _ _ (seen_on _ _ _ asked c.load.ensures.acted.goes_on) (fix-turn-work _ _ _ _ _ _ _ _ _ _ i.work t)) c.load.ensures.outcome c.load.ensures.known;
    }

pub loop-preserved-in_ok-write_out-in-Ok-WriteFirst : goal.loop-preserved-in_ok-write_out-in-Ok-WriteFirst
loop-preserved-in_ok-write_out-in-Ok-WriteFirst g c =
    let i = c.loop.invariant in
    let t = rw (c.in-Ok-WriteFirst.field-0-is, i.client) at c.in-Ok-WriteFirst.ensures.outcome in
    let asked = acts_on _ _ _ _ (may_act _ _ _ _ _ c.make.ensures.acts) in
    let began = fix_saw c.loop.session.client c.args.page (Ok (fixing.WriteFirst c.in-Ok-WriteFirst.ticket)) c.loop.session c.make.new.session (rw c.in-Ok-WriteFirst.field-0-is at (c.in-Ok-WriteFirst.ensures.saw (λ lacks. let is = lacks in cc))) in
    let had = rw c.in-Ok-WriteFirst.field-0-is at (c.in-Ok-WriteFirst.ensures.had (λ lacks. let is = lacks in cc)) in
    let o = c.in_ok-write_out-in-Ok-WriteFirst.ensures.outcome in
    let wrote = wrote_seen _ c.args.session.now c.loop.session c.make.new.session c.write_out.new.session c.in-Ok-WriteFirst.ticket _ _ _ _ _ i.client (acts_on _ _ _ _ i.acts) began c.write_out.ensures.acted.goes_on o in
    record {
      client = c.write_out.ensures.client ∙ c.make.ensures.client ∙ i.client;
      before = c.write_out.ensures.before ∙ c.make.ensures.before ∙ i.before;
      acts = inr (all_more _ _ _ _ _ (may_more _ _ _ _ _ i.acts (may_act _ _ _ _ _ c.make.ensures.acts)) c.write_out.ensures.acted);
      passes = omega (arith, i.passes, c.in-Ok-WriteFirst.ensures.passes_left, c.write_out.ensures.passes);
      places = omega (arith, i.places, rw c.in-Ok-WriteFirst.field-0-is at c.in-Ok-WriteFirst.ensures.places_left, c.write_out.ensures.places);
      port = c.write_out.ensures.port ∙ i.port;
      waits = written_waits _ _ _ _ _ c.in-Ok-WriteFirst.ticket _ _ _ _ (turn_more _ _ _ _ _ _ i.waits t) o;
      work = write-work _ _ c.in-Ok-WriteFirst.ticket _ _ _ _ _ _ _ (work_seen _ _ c.args.session.now c.loop.session c.write_out.new.session _ _ _ _ (seen_on _ _ _ asked c.write_out.ensures.acted.goes_on) (fix-turn-work _ _ _ _ _ _ _ _ _ _ i.work t)) (began-by-fix _ _ c.in-Ok-WriteFirst.ticket _ _ t) wrote (ok-is-no-err _ _);
    }

pub returns-in_err-write_out-in-Ok-WriteFirst : goal.returns-in_err-write_out-in-Ok-WriteFirst
returns-in_err-write_out-in-Ok-WriteFirst g c =
    let i = c.loop.invariant in
    let t = rw (c.in-Ok-WriteFirst.field-0-is, i.client) at c.in-Ok-WriteFirst.ensures.outcome in
    let asked = acts_on _ _ _ _ (may_act _ _ _ _ _ c.make.ensures.acts) in
    let began = fix_saw c.loop.session.client c.args.page (Ok (fixing.WriteFirst c.in-Ok-WriteFirst.ticket)) c.loop.session c.make.new.session (rw c.in-Ok-WriteFirst.field-0-is at (c.in-Ok-WriteFirst.ensures.saw (λ lacks. let is = lacks in cc))) in
    let had = rw c.in-Ok-WriteFirst.field-0-is at (c.in-Ok-WriteFirst.ensures.had (λ lacks. let is = lacks in cc)) in
    let o = c.in_err-write_out-in-Ok-WriteFirst.ensures.outcome in
    let wrote = wrote_seen _ c.args.session.now c.loop.session c.make.new.session c.write_out.new.session c.in-Ok-WriteFirst.ticket _ _ _ _ _ i.client (acts_on _ _ _ _ i.acts) began c.write_out.ensures.acted.goes_on o in
    let is = err_from_is_err_and c.from_residual.result c.from_residual.ensures.1 in
    let known = c.in_err-write_out-in-Ok-WriteFirst.ensures.known in
    record {
      fix = record {
        keeps = record { client = c.write_out.ensures.client ∙ c.make.ensures.client ∙ i.client; before = c.write_out.ensures.before ∙ c.make.ensures.before ∙ i.before; acts = acted _ _ _ _ _ (all_more _ _ _ _ _ (may_more _ _ _ _ _ i.acts (may_act _ _ _ _ _ c.make.ensures.acts)) c.write_out.ensures.acted); roomy = λ was. (omega (arith, had.0, c.write_out.ensures.passes), omega (arith, had.1, c.write_out.ensures.places)) };
        room = λ full. absurd (write_not_full _ _ _ _ _ _ _ o (same_why (sym (is.1 ∙ ap Err is.2) ∙ full)));
        memory = λ silent was no. absurd (write_wants_none _ _ _ _ _ _ _ o (same_why (sym (is.1 ∙ ap Err is.2) ∙ no)));
        roomy = λ not. (omega (arith, had.0, c.write_out.ensures.passes), omega (arith, had.1, c.write_out.ensures.places));
        outcome = subst (λ r. FixSaid c.args.session.now.client c.args.page r c.args.session.now.said c.write_out.new.session.said) (sym (is.1 ∙ ap Err is.2))
            (unwritten_said _ _ _ _ _ c.in-Ok-WriteFirst.ticket c.in_err-write_out-in-Ok-WriteFirst.field-0.0 _ _ _ (turn_more _ _ _ _ _ _ i.waits t) o);
        known = λ unknown. known (unerr (sym (is.1 ∙ ap Err is.2) ∙ unknown));
      };
      port = c.write_out.ensures.port ∙ i.port;
      work = write-work _ _ c.in-Ok-WriteFirst.ticket _ _ _ _ _ _ _ (work_seen _ _ c.args.session.now c.loop.session c.write_out.new.session _ _ _ _ (seen_on _ _ _ asked c.write_out.ensures.acted.goes_on) (fix-turn-work _ _ _ _ _ _ _ _ _ _ i.work t)) (began-by-fix _ _ c.in-Ok-WriteFirst.ticket _ _ t) wrote known;
    }

pub loop-preserved : goal.loop-preserved
loop-preserved g c =
    let i = c.loop.invariant in
    let t = rw (c.in-Busy.is, i.client) at c.in-Err.ensures.outcome in
    record { client = c.make.ensures.client ∙ i.client; before = c.make.ensures.before ∙ i.before; acts = may_more _ _ _ _ _ i.acts (may_act _ _ _ _ _ c.make.ensures.acts); passes = omega (arith, i.passes, c.in-Err.ensures.passes_left); places = omega (arith, i.places, c.in-Err.ensures.places_left); port = i.port; waits = busy_waits _ _ _ _ (turn_more _ _ _ _ _ _ i.waits t); work = work_seen _ _ c.args.session.now c.loop.session c.make.new.session _ _ _ _ (acts_on _ _ _ _ (may_act _ _ _ _ _ c.make.ensures.acts)) (fix-turn-work _ _ _ _ _ _ _ _ _ _ i.work t) }

pub returns-in_default : goal.returns-in_default
returns-in_default g c =
    let i = c.loop.invariant in
    let t = rw i.client at c.in-Err.ensures.outcome in
    record {
      fix = record {
        keeps = record { client = c.make.ensures.client ∙ i.client; before = c.make.ensures.before ∙ i.before; acts = refused_more Fixing Pass _ _ _ _ _ _ i.acts c.in-Err.ensures.acts; roomy = λ was. (omega (arith, was.0, i.passes, c.in-Err.ensures.passes_left), omega (arith, was.1, i.places, c.in-Err.ensures.places_left)) };
        room = λ full. c.in-Err.ensures.why _ (same_why full) (λ is. cc);
        memory = λ silent was no. c.in-Err.ensures.memory silent (omega (arith, was.0, i.passes)) (omega (arith, was.1, i.places)) (same_why no);
        roomy = λ not. let had = c.in-Err.ensures.had (λ no. not (same_why no)) in (omega (arith, had.0), omega (arith, had.1));
        outcome = refused_said _ _ c.in-Err.refusal _ _ c.in_default.not-Busy (turn_more _ _ _ _ _ _ i.waits t);
        known = known-fix Pass c.in-Err.refusal t.asks.0;
      };
      port = i.port;
      work = work_seen _ _ c.args.session.now c.loop.session c.make.new.session _ _ _ _ (acts_on _ _ _ _ (may_act _ _ _ _ _ c.make.ensures.acts)) (fix-turn-work _ _ _ _ _ _ _ _ _ _ i.work t);
    }
