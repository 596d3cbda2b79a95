use Rattle.std.proofs.Common.{rules, ap, ◌∙◌, subst, ◌≤◌, ◌+◌, arith, ℕ}
use Rattle.bp_words.specs.Fields.{fields, IsFree, HasRoom}
use Rattle.bp_words.proofs.Steps.{find_kept, to_latch_kept}
use Rattle.bp_words.proofs.shares.Pin.try_read.Goals as goal

pub load-seen-requires : goal.load-seen-requires
load-seen-requires c = (search rules, search rules, find_kept _ _ _)

pub compare_exchange-taken-requires : goal.compare_exchange-taken-requires
compare_exchange-taken-requires c =
    let some_pin : 1 ≤ (fields c.load-seen.result).pins = subst (λ (k : ℕ). k ≤ (fields c.load-seen.result).pins) (ap (λ me. me.0.pins + me.0.loose) c.self.invariant) c.load-seen.ensures.2.2 in
    let free : IsFree 1 (fields c.load-seen.result) = search rules in
    let room : HasRoom (fields c.load-seen.result) = search rules in
    (search rules, search rules, to_latch_kept _ _ c.load-seen.result _ _ 1 0 _ (ap (λ me. me.0) (c.load-seen.ensures.2.0 ∙ c.self.invariant)) (search rules) (omega arith) some_pin c.load-seen.ensures.2.4 room.0 free.0 (λ up. absurd (omega arith)) (search rules))
