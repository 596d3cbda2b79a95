use Rattle.std.proofs.Common.{rules, ap, ◌∙◌, arith}
use Rattle.bp_words.specs.Fields.{fields, HasRoom}
use Rattle.bp_words.specs.Views.{guest}
use Rattle.bp_words.proofs.Steps.{find_kept, wait_kept}
use Rattle.bp_words.proofs.Parts.{pin_join, queue_join, one_split, pin_split}
use Rattle.bp_words.proofs.queues.Queue.try_wait_to_read.Goals as goal

pub join_seat-requires : goal.join_seat-requires
join_seat-requires c = (search rules, search rules, search rules, search rules, pin_join _ _ _ _ _ (ap (λ me. me.0) c.visitor.invariant) (ap (λ me. me.0) c.pin.invariant))

pub join_seat-requires-2 : goal.join_seat-requires-2
join_seat-requires-2 c = (search rules, search rules, search rules, search rules, queue_join _ _ _ _ _ _ _ _ _ (ap (λ me. me.0) c.self.invariant) (ap (λ me. me.0) c.join_seat.ensures.2))

pub load-seen-requires : goal.load-seen-requires
load-seen-requires c = (search rules, search rules, find_kept _ _ _)

pub split_seat-seat-requires : goal.split_seat-seat-requires
split_seat-seat-requires c = (search rules, search rules, one_split _ _ _ _ 0 _ _ (ap (λ me. me.0) (c.load-seen.ensures.2.0 ∙ c.join_seat-2.ensures.2)))

pub split_seat-pin-requires : goal.split_seat-pin-requires
split_seat-pin-requires c =
    let is = c.load-seen.ensures.2.0 ∙ c.join_seat-2.ensures.2 in
    (search rules, search rules, pin_split _ _ _ (ap (λ me. me.0) c.split_seat-seat.ensures.4 ∙ ap (λ me. guest 0 0 0 1 0 me.0.writes 1 me.0.page) is))

pub compare_exchange-found-requires : goal.compare_exchange-found-requires
compare_exchange-found-requires c =
    let room : HasRoom (fields c.load-seen.result) = search rules in
    let is = c.load-seen.ensures.2.0 ∙ c.join_seat-2.ensures.2 in
    (search rules, search rules, wait_kept _ _ c.load-seen.result _ _ _ _ 1 0 _ _ (ap (λ me. me.0) is) (omega arith) c.load-seen.ensures.2.4 room.0 (search rules))

pub split_seat-seat-requires-then-found-seen : goal.split_seat-seat-requires-then-found-seen
split_seat-seat-requires-then-found-seen c =
    let missed = c.compare_exchange-found.ensures.2.1 (search rules) in
    (search rules, search rules, one_split _ _ _ _ 0 _ _ (ap (λ me. me.0) (missed ∙ (c.load-seen.ensures.2.0 ∙ c.join_seat-2.ensures.2))))

pub split_seat-pin-requires-then-found-seen : goal.split_seat-pin-requires-then-found-seen
split_seat-pin-requires-then-found-seen c =
    let missed = c.compare_exchange-found.ensures.2.1 (search rules) in
    let is = missed ∙ (c.load-seen.ensures.2.0 ∙ c.join_seat-2.ensures.2) in
    (search rules, search rules, pin_split _ _ _ (ap (λ me. me.0) c.split_seat-seat-then-found-seen.ensures.4 ∙ ap (λ me. guest 0 0 0 1 0 me.0.writes 1 me.0.page) is))
