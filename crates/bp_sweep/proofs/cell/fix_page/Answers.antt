-- The fix of a page by its cases.
use Rattle.std.proofs.Common.{subst, Ok}
use Rattle.bp_core.specs.Outcomes.{FixOutcome}
use Rattle.bp_sweep.proofs.Fixing.{fix-room, refused-room, tally-hit, tally-load, hit-fixes, end-fixes, write-fixes, refused-fixes, tally-refused}
use Rattle.bp_sweep.proofs.cell.fix_page.Goals as goal

pub end_load-requires-clause-tallied : goal.end_load-requires-clause-tallied
end_load-requires-clause-tallied g c =
    tally-load c.args.core.now c.fix.new.self c.args.totals.now c.count-in-Ok-Load.new.self c.args.page c.serial-in-Ok-Load.result c.in-Ok-Load.ticket c.in-Ok-Load.evicted c.requires.tallied
    (subst (λ f. FixOutcome c.args.core.now 0 c.args.page (Ok f) c.fix.new.self) c.in-Ok-Load.field-0-is c.in-Ok-Load.ensures.outcome) c.serial-in-Ok-Load.ensures
    (c.count-in-Ok-Load.ensures (fix-room c.args.core.now c.fix.new.self c.args.totals.now c.args.page c.in-Ok-Load.field-0 c.requires.tallied c.in-Ok-Load.ensures.outcome))

pub unreachable-requires : goal.unreachable-requires
unreachable-requires g c =
    write-fixes c.args.core.now c.fix.new.self c.args.totals.now c.args.page c.in-Ok-WriteFirst._ticket c.requires.tallied
    (subst (λ f. FixOutcome c.args.core.now 0 c.args.page (Ok f) c.fix.new.self) c.in-Ok-WriteFirst.field-0-is c.in-Ok-WriteFirst.ensures.outcome)

pub pass_over-requires : goal.pass_over-requires
pass_over-requires g c = record { room = refused-room c.args.core.now c.fix.new.self c.args.totals.now c.args.page c.in-Err.refusal c.requires.tallied c.in-Err.ensures.outcome }

pub returns-in-Ok-Hit-clause-outcome : goal.returns-in-Ok-Hit-clause-outcome
returns-in-Ok-Hit-clause-outcome g c = hit-fixes c.args.core.now c.fix.new.self c.args.page c.in-Ok-Hit.pass (subst (λ f. FixOutcome c.args.core.now 0 c.args.page (Ok f) c.fix.new.self) c.in-Ok-Hit.field-0-is c.in-Ok-Hit.ensures.outcome)

pub returns-in-Ok-Hit-clause-tallied : goal.returns-in-Ok-Hit-clause-tallied
returns-in-Ok-Hit-clause-tallied g c =
    tally-hit c.args.core.now c.fix.new.self c.args.totals.now c.count.new.self c.args.page c.serial.result c.in-Ok-Hit.pass c.requires.tallied
    (subst (λ f. FixOutcome c.args.core.now 0 c.args.page (Ok f) c.fix.new.self) c.in-Ok-Hit.field-0-is c.in-Ok-Hit.ensures.outcome) c.serial.ensures
    (c.count.ensures (fix-room c.args.core.now c.fix.new.self c.args.totals.now c.args.page c.in-Ok-Hit.field-0 c.requires.tallied c.in-Ok-Hit.ensures.outcome))

pub returns-in-Ok-Load-clause-outcome : goal.returns-in-Ok-Load-clause-outcome
returns-in-Ok-Load-clause-outcome g c =
    end-fixes c.args.core.now c.fix.new.self c.end_load.new.core c.args.page c.in-Ok-Load.ticket c.in-Ok-Load.evicted c.read-read.result c.end_load.result c.ok.result
    (subst (λ f. FixOutcome c.args.core.now 0 c.args.page (Ok f) c.fix.new.self) c.in-Ok-Load.field-0-is c.in-Ok-Load.ensures.outcome) c.end_load.ensures.outcome c.ok.ensures.value

pub returns-in-Err-clause-outcome : goal.returns-in-Err-clause-outcome
returns-in-Err-clause-outcome g c = refused-fixes c.args.core.now c.fix.new.self c.args.totals.now c.pass_over.new.totals c.args.page c.in-Err.refusal c.pass_over.result c.in-Err.ensures.outcome c.pass_over.ensures.passed

pub returns-in-Err-clause-tallied : goal.returns-in-Err-clause-tallied
returns-in-Err-clause-tallied g c = tally-refused c.args.core.now c.fix.new.self c.args.totals.now c.pass_over.new.totals c.args.page c.in-Err.refusal c.pass_over.result c.requires.tallied c.in-Err.ensures.outcome c.pass_over.ensures.passed
