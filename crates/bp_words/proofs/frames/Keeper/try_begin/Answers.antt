use Rattle.std.proofs.Common.{rules, ap, ◌+◌, ◌∙◌, ◌≡◌, arith}
use Rattle.bp_words.specs.Fields.{one_if}
use Rattle.bp_words.specs.Views.{keeper}
use Rattle.bp_words.proofs.Keeping.{store_kept, find_home_kept, begin_kept, give_split, one_if_small}
use Rattle.bp_words.proofs.frames.Keeper.try_begin.Goals as goal

pub store-requires : goal.store-requires
store-requires c = (search rules, search rules, store_kept _ _ _ c.self.inside.spare c.self.inside.seat.me.0.stored _ (ap (λ me. me.0) c.self.invariant ∙ ap (λ p. keeper 0 c.self.inside.spare p c.self.inside.seat.me.0.stored) (search rules)))

pub load-seen-requires : goal.load-seen-requires
load-seen-requires c = (search rules, search rules, find_home_kept _ _ _ _ _ (ap (λ me. me.0) c.store.ensures.2))

pub compare_exchange-found-requires : goal.compare_exchange-found-requires
compare_exchange-found-requires c = (search rules, search rules, begin_kept _ _ _ _ c.load-seen.result _ (one_if c.args.stays) _ (ap (λ me. me.0) (c.load-seen.ensures.2.0 ∙ c.store.ensures.2)) (one_if_small c.args.stays) (search rules) c.with_pass-next.ensures)

pub split_seat-seat-requires : goal.split_seat-seat-requires
split_seat-seat-requires c =
    let hit : c.compare_exchange-found.result ≡ c.load-seen.result = search rules in
    let is = c.compare_exchange-found.ensures.2.0 hit in
    (search rules, search rules, give_split _ 0 1 0 0 0 _ (ap (λ me. me.0.reads) is) (ap (λ me. me.0.pins) is) (ap (λ me. me.0.writes) is) (ap (λ me. me.0.halves) is) (ap (λ me. me.0.strays) is) (ap (λ me. me.0.loose) is) (ap (λ me. me.0.waits + (me.0.wants + me.0.queues)) is) (ap (λ me. me.0.tends) is) (omega arith))
