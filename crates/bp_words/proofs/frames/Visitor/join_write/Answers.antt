use Rattle.std.proofs.Common.{rules, ap, ◌∙◌, ◌≡◌, ◌+◌, arith}
use Rattle.bp_words.specs.Fields.{fields, IsWritable}
use Rattle.bp_words.proofs.Steps.{find_kept, come_alone_kept, leave_kept, look_kept}
use Rattle.bp_words.proofs.Parts.{share_split}
use Rattle.bp_words.proofs.frames.Visitor.join_write.Goals as goal

pub load-seen-requires : goal.load-seen-requires
load-seen-requires c = (search rules, search rules, find_kept _ _ _)

pub compare_exchange-taken-requires : goal.compare_exchange-taken-requires
compare_exchange-taken-requires c =
    let free : IsWritable (fields c.load-seen.result) = search rules in
    (search rules, search rules, come_alone_kept _ _ c.load-seen.result _ _ (ap (λ me. me.0) (c.load-seen.ensures.2.0 ∙ c.self.invariant)) (search rules) free c.load-seen.ensures.2.4 (search rules))

pub load-found-requires : goal.load-found-requires
load-found-requires c = (search rules, search rules, look_kept _ _ _)

pub fetch_sub-requires : goal.fetch_sub-requires
fetch_sub-requires c =
    let hit : c.compare_exchange-taken.result ≡ c.load-seen.result = search rules in
    let got = c.compare_exchange-taken.ensures.2.0 hit in
    let is = c.load-found.ensures.2.0 ∙ got.1 in
    (search rules, search rules, leave_kept _ _ 0 0 1 _ (ap (λ me. me.0.reads + (me.0.halves + me.0.strays)) is) (ap (λ me. me.0.pins + me.0.loose) is) (ap (λ me. me.0.writes) is) (ap (λ me. me.0.waits + (me.0.wants + me.0.queues)) is) (omega arith) (omega arith) (omega arith))

pub split_seat-seat-requires : goal.split_seat-seat-requires
split_seat-seat-requires c =
    let hit : c.compare_exchange-taken.result ≡ c.load-seen.result = search rules in
    let got = c.compare_exchange-taken.ensures.2.0 hit in
    (search rules, search rules, share_split _ 0 0 1 got.0 _ (ap (λ me. me.0) (c.load-found.ensures.2.0 ∙ got.1)) (omega arith))
