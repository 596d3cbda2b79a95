-- Test by test.
use Rattle.std.proofs.Common.{arith, rules}
use Rattle.bp_replay.proofs.fitting.row_fits.Goals as goal

pub returns-then-row-client : goal.returns-then-row-client
returns-then-row-client c p pages size below = (λ ok. absurd (search (rules, ok)), λ f. absurd (search (rules, f.own)))

pub returns-then-not-step_fits : goal.returns-then-not-step_fits
returns-then-not-step_fits c p pages size below = (λ ok. absurd (search (rules, ok)), λ f. absurd (search (rules, (c.step_fits.ensures p pages size).1 f.fits.step_fits)))

pub returns-then-client-eq0 : goal.returns-then-client-eq0
returns-then-client-eq0 c p pages size below = (
  λ yes. record { fits = record { client_in = search (arith, rules); step_fits = (c.step_fits.ensures p pages size).0 (search rules) }; own = search rules; log = λ some. absurd (search (arith, rules)) },
  λ f. search rules,
)

pub returns-else-client-eq0 : goal.returns-else-client-eq0
returns-else-client-eq0 c p pages size below = (
  λ yes. record { fits = record { client_in = search (arith, rules); step_fits = (c.step_fits.ensures p pages size).0 (search rules) }; own = search rules; log = λ some. c.is_no_log.ensures.0 yes },
  λ f. c.is_no_log.ensures.1 (f.log (search (arith, rules))),
)
