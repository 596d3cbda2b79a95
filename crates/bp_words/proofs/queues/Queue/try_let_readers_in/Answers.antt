use Rattle.std.proofs.Common.{rules, ap, ◌∙◌, ◌≡◌, ◌+◌, ◌<◌, subst, ℕ}
use Rattle.std.specs.Prelude.{◌==◌}
use Rattle.bp_words.specs.Fields.{fields}
use Rattle.bp_words.proofs.Steps.{find_room_kept, let_in_kept}
use Rattle.bp_words.proofs.Keeping.{one_unless_small, unless_none}
use Rattle.bp_words.proofs.queues.Queue.try_let_readers_in.Goals as goal

pub load-seen-requires : goal.load-seen-requires
load-seen-requires c = (search rules, search rules, find_room_kept _ _ _)

pub compare_exchange-found-requires : goal.compare_exchange-found-requires
compare_exchange-found-requires c =
    let room : (fields c.load-seen.result).readers + c.self.inside.waiting < 1048576 = subst (λ (k : ℕ). (fields c.load-seen.result).readers + k < 1048576) (ap (λ me. me.0.waits) c.self.invariant) c.load-seen.ensures.2.1 in
    let unwritten : (fields c.load-seen.result).writers ≡ 0 = search rules in
    (search rules, search rules, let_in_kept _ _ c.load-seen.result _ c.self.inside.waiting c.self.inside.writers c.self.inside.granted _ _ _ _ (ap (λ me. me.0) (c.load-seen.ensures.2.0 ∙ c.self.invariant)) (one_unless_small (c.self.inside.writers == 0)) (one_unless_small (c.self.inside.writers == 0)) (unless_none c.self.inside.writers) room c.load-seen.ensures.2.2 unwritten (search rules))
