use Rattle.std.proofs.Common.{rules, ap, ◌∙◌, ◌≡◌, ◌+◌, ◌-◌, ◌<◌, ◌≤◌, subst, ℕ}
use Rattle.bp_words.specs.Fields.{fields, IsLatched}
use Rattle.bp_words.specs.Views.{guest}
use Rattle.bp_words.proofs.Steps.{find_kept, flag_queue_kept, let_writer_in_kept}
use Rattle.bp_words.proofs.Parts.{one_split, latch_split, pin_split}
use Rattle.bp_words.proofs.Keeping.{one_unless_small, unless_none}
use Rattle.bp_words.proofs.queues.Queue.try_let_writer_in.Goals as goal

pub load-seen-requires : goal.load-seen-requires
load-seen-requires c = (search rules, search rules, find_kept _ _ _)

pub compare_exchange-requires : goal.compare_exchange-requires
compare_exchange-requires c =
    let latched : IsLatched (fields c.load-seen.result) = search rules in
    let some_writer : 0 < c.self.inside.writers = search rules in
    (search rules, search rules, flag_queue_kept _ _ c.load-seen.result _ _ _ _ _ _ (ap (λ me. me.0) (c.load-seen.ensures.2.0 ∙ c.self.invariant)) some_writer c.load-seen.ensures.2.4 (c.with_writer-next.ensures.latched latched))

pub compare_exchange-found-requires : goal.compare_exchange-found-requires
compare_exchange-found-requires c =
    let free : ¬ (IsLatched (fields c.load-seen.result)) = search rules in
    let some_writer : 0 < c.self.inside.writers = search rules in
    let let_in = subst (λ (k : ℕ). k ≤ (fields c.load-seen.result).readers) (ap (λ me. me.0.reads + (me.0.halves + me.0.strays)) c.self.invariant) c.load-seen.ensures.2.1 in
    (search rules, search rules, let_writer_in_kept _ _ c.load-seen.result _ c.self.inside.waiting c.self.inside.writers c.self.inside.granted _ _ _ _ (ap (λ me. me.0) (c.load-seen.ensures.2.0 ∙ c.self.invariant)) some_writer (one_unless_small _) (one_unless_small _) (unless_none (c.self.inside.waiting + (c.self.inside.writers - 1))) let_in c.load-seen.ensures.2.4 free (c.with_writer-next.ensures.free free))

pub split_seat-seat-requires : goal.split_seat-seat-requires
split_seat-seat-requires c =
    let hit : c.compare_exchange-found.result ≡ c.load-seen.result = search rules in
    (search rules, search rules, one_split _ _ _ _ 1 _ _ (ap (λ me. me.0) (c.compare_exchange-found.ensures.2.0 hit)))

pub split_seat-writer-requires : goal.split_seat-writer-requires
split_seat-writer-requires c =
    let hit : c.compare_exchange-found.result ≡ c.load-seen.result = search rules in
    let is = c.compare_exchange-found.ensures.2.0 hit in
    (search rules, search rules, latch_split _ 0 1 _ _ (ap (λ me. me.0) c.split_seat-seat.ensures.4 ∙ ap (λ me. guest 0 0 0 1 0 me.0.writes 1 me.0.page) is))

pub split_seat-pin-requires : goal.split_seat-pin-requires
split_seat-pin-requires c = (search rules, search rules, pin_split _ _ _ (ap (λ me. me.0) c.split_seat-writer.ensures.2))
