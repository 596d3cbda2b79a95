-- What a list owes is bounded by its length, so that the room for it can be counted.
use Rattle.std.proofs.Common.{ap, ℕ, ◌+◌, ◌*◌, ◌^◌, ◌≤◌, ◌<◌, List, [], ◌∷◌, length, arith, Option, Some, None}
use Rattle.bp_trail.specs.declared.entries.Reply.{Reply}
use Rattle.bp_trail.specs.declared.entries.Reply.TheVariants.{Load, WriteFirst}
use Rattle.bp_trail.specs.Event.{Grant, pass_back}
use Rattle.bp_trail.specs.Lists.{and_given, without}
use Rattle.bp_trail.specs.Passes.{pass_of, passes_out}
use Rattle.bp_trail.specs.Trail.{Trail}
use Rattle.bp_session_log.specs.Books.{KeepsRoom, tickets_given, open_tickets}
use Rattle.bp_session_log.proofs.Ending.{filter_le, others}

given_le : (r : Reply) → tickets_given r ≤ 1
given_le (Load t v) = omega arith
given_le (WriteFirst t p image) = omega arith
given_le _ = omega arith

open_le : (said : Trail) → open_tickets said ≤ length said
open_le [] = omega arith
open_le (e ∷ before) = omega (arith, given_le e.reply, open_le before)

without_le : (b : Option ℕ) (gs : List Grant) → length (without (λ (g : Grant). g.serial) b gs) ≤ length gs
without_le None gs = omega arith
without_le (Some n) gs = filter_le (others n) gs

more_le : (o : Option Grant) (gs : List Grant) → length (and_given o gs) ≤ length gs + 1
more_le None gs = omega arith
more_le (Some g) gs = omega arith

out_le : (said : Trail) → length (passes_out said) ≤ length said
out_le [] = omega arith
out_le (e ∷ before) = omega (arith, more_le (pass_of e) (without (λ (g : Grant). g.serial) (pass_back e.call) (passes_out before)), without_le (pass_back e.call) (passes_out before), out_le before)

-- a list that is not long can be counted, with all that it owes and much more
pub record Counted (kept held tickets : ℕ) : Type 0 where
  pub all : kept + (held + 2 * tickets) < 2 ^ 63
  pub few : tickets < 2 ^ 61

pub counted : (client : ℕ) (said : Trail) (held : List Grant) (tickets kept copies c h : ℕ) → KeepsRoom client said held tickets kept copies c h → length said < 2 ^ 61 → Counted kept (length held) tickets
counted client said held tickets kept copies c h r short = record {
  all = omega (arith, r.counted, open_le said, out_le said, ap length r.held_are, r.tickets_are, short);
  few = omega (arith, open_le said, r.tickets_are, short);
}
