use Rattle.std.proofs.Common.{rules, ap}
use Rattle.bp_words.specs.Fields.{fields, IsUnused}
use Rattle.bp_words.proofs.Keeping.{end_kept}
use Rattle.bp_words.proofs.frames.Keeper.try_end.Goals as goal

pub compare_exchange-found-requires : goal.compare_exchange-found-requires
compare_exchange-found-requires c =
    let unused : IsUnused (fields c.peek-seen.result) = search rules in
    (search rules, search rules, end_kept _ _ c.self.inside.spare c.self.inside.seat.me.0.stored c.peek-seen.result _ c.self.inside.seat.me.0.page _ (ap (λ me. me.0) c.self.invariant) unused (search rules) (search rules))
