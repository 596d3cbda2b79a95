use Rattle.std.proofs.Common.{rules, ap}
use Rattle.bp_words.proofs.Parts.{hand_split, latch_split, pin_split}
use Rattle.bp_words.proofs.queues.Queue.hand.Goals as goal

pub split_seat-seat-requires : goal.split_seat-seat-requires
split_seat-seat-requires c = (search rules, search rules, hand_split _ _ _ _ _ _ (ap (λ me. me.0) c.self.invariant) (search rules))

pub split_seat-reader-requires : goal.split_seat-reader-requires
split_seat-reader-requires c = (search rules, search rules, latch_split _ 1 0 _ _ (ap (λ me. me.0) c.split_seat-seat.ensures.4))

pub split_seat-pin-requires : goal.split_seat-pin-requires
split_seat-pin-requires c = (search rules, search rules, pin_split _ _ _ (ap (λ me. me.0) c.split_seat-reader.ensures.2))
