-- One core more, or why there is none.
use Rattle.std.proofs.Common.{arith, ℕ, Err}
use Rattle.bp_page.specs.declared.refusals.Refusal.{Refusal}
use Rattle.bp_page.specs.declared.refusals.Refusal.TheVariants as refusal
use Rattle.bp_trail.specs.Parameters.{Parameters}
use Rattle.bp_core.specs.Agreement.{parameters_with}
use Rattle.bp_core.specs.Outcomes.{NewOutcome}
use Rattle.bp_parts.specs.Making.{IsNewCore, MakesCores}
use Rattle.bp_parts.proofs.Dealing.{all_more, none_all}
use Rattle.bp_parts.proofs.making.new_cores.Goals as goal

-- a core is refused as they are
refused : (A : Type 0) (most : ℕ) (p : Parameters) (why : Refusal) → NewOutcome most p (Err why) → MakesCores {A = A} most p (Err why)
refused A most p refusal.BadSettings unfit = unfit
refused A most p refusal.OutOfMemory fit = fit
refused A most p _ never = absurd never

pub loop-init : goal.loop-init
loop-init g c = record {
  count = c.new-cores.ensures.len;
  new = none_all (IsNewCore (parameters_with c.args.config.now c.args.clients)) _ c.new-cores.ensures.items;
  fit = λ some. absurd (omega (arith, some));
}

pub loop-preserved : goal.loop-preserved
loop-preserved g c =
    let i = c.loop.invariant in
    record {
      count = omega (arith, c.in-Ok-push.ensures.len, i.count);
      new = all_more (IsNewCore (parameters_with c.args.config.now c.args.clients)) _ _ c.in-Ok.core c.in-Ok-push.ensures.items i.new c.in-Ok.ensures.outcome.1;
      fit = λ some. c.in-Ok.ensures.outcome.0;
    }

pub returns-clause-answers : goal.returns-clause-answers
returns-clause-answers g c = c.loop.invariant.fit (omega (arith, c.loop-test.false, c.requires, c.loop.auto.counter-end))

pub returns-in-Err : goal.returns-in-Err
returns-in-Err g c = record { count = tt; new = tt; answers = refused ℕ _ _ c.in-Err.refusal c.in-Err.ensures.outcome }

pub returns-in_default : goal.returns-in_default
returns-in_default g c = record { count = tt; new = tt; answers = c.in-Ok.ensures.outcome.0 }
