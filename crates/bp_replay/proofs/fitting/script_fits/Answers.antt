-- Row after row.
use Rattle.std.proofs.Common.{arith, rules, sym, subst}
use Rattle.std.proofs.lemmas.List.{take_all}
use Rattle.std.proofs.lemmas.List.Elements.{All-more}
use Rattle.bp_replay.specs.Scripts.{RowFitsClient, ScriptFits}
use Rattle.bp_replay.proofs.fitting.script_fits.Goals as goal

pub loop-row-preserved : goal.loop-row-preserved
loop-row-preserved c p pages size below =
    All-more (RowFitsClient p c.args.client) c.args.script.now c.loop-row.row-index c.row-item.result (omega (arith, c.loop-row-test.true)) (c.loop-row.invariant p pages size below)
    (subst (λ row. RowFitsClient p c.args.client row) c.row-item.is ((c.row_fits.ensures p pages size below).0 (search rules)))

-- a row that does not fit
pub returns-then-not-row_fits : goal.returns-then-not-row_fits
returns-then-not-row_fits c p pages size below = (
  λ ok. absurd (search (rules, ok)),
  λ all. absurd
      (search
      (rules, (c.row_fits.ensures p pages size below).1 (subst (λ row. RowFitsClient p c.args.client row) (sym c.row-item.is) (all c.loop-row.row-index c.row-item.result (omega (arith, c.loop-row-test.true)))))),
)

pub returns : goal.returns
returns c p pages size below = (
  λ ok. subst (λ rows. ScriptFits p c.args.client rows) (take_all c.loop-row.row-index c.args.script.now (omega (arith, c.loop-row-test.false, c.loop-row.auto.row-index-end))) (c.loop-row.invariant p pages size below),
  λ all. search rules,
)
