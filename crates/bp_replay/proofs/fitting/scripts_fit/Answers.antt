-- Script after script.
use Rattle.std.proofs.Common.{arith, rules, refl, length}
use Rattle.bp_core.specs.Agreement.{parameters_with}
use Rattle.bp_replay.proofs.Making.{one_more_fits, fits_at}
use Rattle.bp_replay.proofs.fitting.scripts_fit.Goals as goal

pub loop-client-preserved : goal.loop-client-preserved
loop-client-preserved c =
    one_more_fits _ c.args.scripts.now c.loop-client.client c.index-scripts-client.result _ c.loop-client.invariant (search rules) c.index-scripts-client.is c.deref.ensures.value
    ((c.script_fits.ensures (parameters_with c.args.config.now (length c.args.scripts.now)) refl refl (search (arith, rules))).0 (search rules))

-- a script that does not fit
pub returns-then-not-script_fits : goal.returns-then-not-script_fits
returns-then-not-script_fits c = (
  λ ok. absurd (search (rules, ok)),
  λ may. absurd
      (search (
        rules,
        (c.script_fits.ensures (parameters_with c.args.config.now (length c.args.scripts.now)) refl refl (search (arith, rules))).1
            (fits_at (parameters_with c.args.config.now (length c.args.scripts.now)) c.args.scripts.now c.loop-client.client c.index-scripts-client.result _ (search rules) c.index-scripts-client.is c.deref.ensures.value may.2),
      )),
)
