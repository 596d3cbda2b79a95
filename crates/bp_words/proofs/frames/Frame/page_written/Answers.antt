use Rattle.std.proofs.Common.{rules, ap, ◌+◌, ◌∙◌, arith}
use Rattle.bp_words.specs.Views.{joined}
use Rattle.bp_words.proofs.Parts.{join_keeper, compare_kept}
use Rattle.bp_words.proofs.Keeping.{give_split}
use Rattle.bp_words.proofs.frames.Frame.page_written.Goals as goal

pub join_seat-requires : goal.join_seat-requires
join_seat-requires c = (search rules, search rules, search rules, search rules, join_keeper _ _ _ _ 0 0 1 _ _ _ _ (ap (λ me. me.0) c.keeper.invariant) (ap (λ me. me.0) c.share.invariant) (omega arith))

pub load-requires : goal.load-requires
load-requires c = (search rules, search rules, compare_kept _ _ _)

pub split_seat-seat-requires : goal.split_seat-seat-requires
split_seat-seat-requires c =
    let is = c.load.ensures.2.0 ∙ (c.join_seat.ensures.2 ∙ (λ i. (joined (c.keeper.invariant i).0 (c.share.invariant i).0, c.keeper.inside.seat.me.1))) in
    (search rules, search rules, give_split _ 0 0 1 0 0 _ (ap (λ me. me.0.reads) is) (ap (λ me. me.0.pins) is) (ap (λ me. me.0.writes) is) (ap (λ me. me.0.halves) is) (ap (λ me. me.0.strays) is) (ap (λ me. me.0.loose) is) (ap (λ me. me.0.waits + (me.0.wants + me.0.queues)) is) (ap (λ me. me.0.tends) is) (omega arith))
