use Rattle.std.proofs.Common.{rules, ap, ◌∙◌, ◌≡◌, arith}
use Rattle.bp_words.specs.Fields.{fields, IsFree, HasRoom}
use Rattle.bp_words.proofs.Steps.{find_kept, beside_latch_kept}
use Rattle.bp_words.proofs.Parts.{beside_split}
use Rattle.bp_words.proofs.shares.Pin.try_read_beside.Goals as goal

pub load-seen-requires : goal.load-seen-requires
load-seen-requires c = (search rules, search rules, find_kept _ _ _)

pub compare_exchange-taken-requires : goal.compare_exchange-taken-requires
compare_exchange-taken-requires c =
    let free : IsFree 1 (fields c.load-seen.result) = search rules in
    let room : HasRoom (fields c.load-seen.result) = search rules in
    (search rules, search rules, beside_latch_kept _ _ c.load-seen.result _ _ 1 0 _ (ap (λ me. me.0) (c.load-seen.ensures.2.0 ∙ c.self.invariant)) (search rules) (omega arith) c.load-seen.ensures.2.4 room.0 free.0 (λ up. absurd (omega arith)) (search rules))

pub split_seat-seat-requires : goal.split_seat-seat-requires
split_seat-seat-requires c =
    let hit : c.compare_exchange-taken.result ≡ c.load-seen.result = search rules in
    (search rules, search rules, beside_split _ 1 0 _ _ (ap (λ me. me.0) (c.compare_exchange-taken.ensures.2.0 hit)) (omega arith))
