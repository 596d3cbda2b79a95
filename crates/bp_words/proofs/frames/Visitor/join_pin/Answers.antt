use Rattle.std.proofs.Common.{rules, ap, ◌∙◌, arith}
use Rattle.bp_words.specs.Fields.{fields, IsPinnable}
use Rattle.bp_words.proofs.Steps.{come_pin_kept, came_to_pin, leave_kept, look_kept}
use Rattle.bp_words.proofs.Parts.{share_split}
use Rattle.bp_words.proofs.frames.Visitor.join_pin.Goals as goal

pub fetch_add-requires : goal.fetch_add-requires
fetch_add-requires c = (search rules, search rules, come_pin_kept _ _ 1 _ (omega arith) (ap (λ me. me.0) c.self.invariant))

pub load-found-requires : goal.load-found-requires
load-found-requires c = (search rules, search rules, look_kept _ _ _)

pub fetch_sub-requires : goal.fetch_sub-requires
fetch_sub-requires c =
    let came = came_to_pin _ c.self.inside.seat.me _ _ c.fetch_add.ensures.2 c.load-found.ensures.2.0 in
    (search rules, search rules, leave_kept _ _ 0 1 0 _ came.0 came.1 came.2 came.3 (omega arith) (omega arith) (omega arith))

pub split_seat-seat-requires : goal.split_seat-seat-requires
split_seat-seat-requires c =
    let p : IsPinnable (fields c.fetch_add.result) = search rules in
    let got = c.fetch_add.ensures.2.0 p in
    (search rules, search rules, share_split _ 0 1 0 got.0 _ (ap (λ me. me.0) (c.load-found.ensures.2.0 ∙ got.1)) (omega arith))
