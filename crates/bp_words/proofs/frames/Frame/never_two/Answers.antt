use Rattle.std.proofs.Common.{rules, ap, arith}
use Rattle.bp_words.proofs.Parts.{join_shares, compare_kept}
use Rattle.bp_words.proofs.frames.Frame.never_two.Goals as goal

pub join_seat-requires : goal.join_seat-requires
join_seat-requires c = (search rules, search rules, search rules, search rules, join_shares _ _ 0 0 1 _ 0 0 1 _ _ _ (ap (λ me. me.0) c.writer.invariant) (ap (λ me. me.0) c.second.invariant) (omega arith) (omega arith))

pub load-requires : goal.load-requires
load-requires c = (search rules, search rules, compare_kept _ _ _)
