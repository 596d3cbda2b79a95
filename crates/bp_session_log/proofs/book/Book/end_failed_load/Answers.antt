-- One ticket fewer.
use Rattle.std.proofs.Common.{rules, ◌≡◌, ◌∙◌}
use Rattle.bp_trail.specs.Ends.{read_refusal}
use Rattle.bp_session_log.proofs.Keeping.{next_past, next_len, next_capacity}
use Rattle.bp_session_log.proofs.Ending.{keeps_not_loaded, ended_badly}
use Rattle.bp_session_log.proofs.book.Book.end_failed_load.Goals as goal

pub invariant_of-self : goal.invariant_of-self
invariant_of-self g c =
    let told = c.record.ensures in (
      keeps_not_loaded _ _ _ _ _ _ _ _ _ _ _ c.args.ticket c.args.fault c.self.invariant.0 (search rules)
          (next_past _ _ _ _ _ told ∙ search rules)
          (next_len _ _ _ _ _ told) (next_capacity _ _ _ _ _ told),
      c.self.invariant.1,
    )

pub returns-in-Err-Failed-clause-outcome : goal.returns-in-Err-Failed-clause-outcome
returns-in-Err-Failed-clause-outcome g c =
    let why : c.in-Err-Failed.refusal ≡ read_refusal c.args.fault = search rules in
    ended_badly c.args.ticket c.args.fault c.in-Err-Failed.refusal _ _ why (next_past _ _ _ _ _ c.record.ensures ∙ search rules)
