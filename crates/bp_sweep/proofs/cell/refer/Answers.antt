-- One reference: three rows more.
use Rattle.std.proofs.Common.{subst, Ok}
use Rattle.bp_core.specs.CoreView.{CoreView}
use Rattle.bp_core.specs.Outcomes.{TickOutcome}
use Rattle.bp_sweep.specs.Referring.{FixesPage}
use Rattle.bp_sweep.proofs.Steps.{pass-known}
use Rattle.bp_sweep.proofs.Fixing.{tally-unfix, tally-tick, fixed-goes, passed-goes}
use Rattle.bp_sweep.proofs.cell.refer.Goals.{in-Some, in_default}
use Rattle.bp_sweep.proofs.cell.refer.Goals as goal

pub unfix-requires : goal.unfix-requires
unfix-requires g c = record { known = pass-known c.args.core.now c.fix_page.new.core c.args.page c.in-Some.pass (subst (λ p. FixesPage c.args.core.now c.args.page (Ok p) c.fix_page.new.core) c.in-Some.is c.in_ok-pass.ensures.outcome) }

pub returns-clause-step : goal.returns-clause-step
returns-clause-step g c = elim c.match-branch-2.branch [
  | in-Some w ↦ fixed-goes c.args.core.now c.fix_page.new.core w.unfix.new.core c.tick.new.self c.args.page w.in-Some.pass c.tick.result
      (subst (λ p. FixesPage c.args.core.now c.args.page (Ok p) c.fix_page.new.core) w.in-Some.is c.in_ok-pass.ensures.outcome) w.unfix.ensures.entry
      (subst (λ (core : CoreView). TickOutcome core 0 1 c.tick.result c.tick.new.self) w.core-is c.tick.ensures.outcome)
  | in_default w ↦ passed-goes c.args.core.now c.fix_page.new.core c.tick.new.self c.args.page c.tick.result
      (subst (λ p. FixesPage c.args.core.now c.args.page (Ok p) c.fix_page.new.core) w.in_default.is c.in_ok-pass.ensures.outcome)
      (subst (λ (core : CoreView). TickOutcome core 0 1 c.tick.result c.tick.new.self) w.core-is c.tick.ensures.outcome)
]

pub returns-clause-tallied : goal.returns-clause-tallied
returns-clause-tallied g c = elim c.match-branch-2.branch [
  | in-Some w ↦ tally-tick w.unfix.new.core c.tick.new.self c.fix_page.new.totals c.tick.result
      (tally-unfix c.fix_page.new.core w.unfix.new.core c.fix_page.new.totals w.in-Some.pass c.in_ok-pass.ensures.tallied w.unfix.ensures.entry)
      (subst (λ (core : CoreView). TickOutcome core 0 1 c.tick.result c.tick.new.self) w.core-is c.tick.ensures.outcome)
  | in_default w ↦ tally-tick c.fix_page.new.core c.tick.new.self c.fix_page.new.totals c.tick.result c.in_ok-pass.ensures.tallied
      (subst (λ (core : CoreView). TickOutcome core 0 1 c.tick.result c.tick.new.self) w.core-is c.tick.ensures.outcome)
]
