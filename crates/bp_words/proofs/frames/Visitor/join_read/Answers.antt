use Rattle.std.proofs.Common.{rules, ap, ◌∙◌, arith}
use Rattle.bp_words.specs.Fields.{fields, IsReadable, IsPinnable}
use Rattle.bp_words.specs.Views.{guest}
use Rattle.bp_words.proofs.Steps.{come_read_kept, came_to_read, came_and_looked, leave_kept, look_kept, turn_kept}
use Rattle.bp_words.proofs.Parts.{share_split}
use Rattle.bp_words.proofs.frames.Visitor.join_read.Goals as goal

pub fetch_add-requires : goal.fetch_add-requires
fetch_add-requires c = (search rules, search rules, come_read_kept _ _ _ (ap (λ me. me.0) c.self.invariant))

pub fetch_sub-requires : goal.fetch_sub-requires
fetch_sub-requires c =
    let came = came_to_read _ c.self.inside.seat.me _ c.fetch_add.ensures.2 in
    (search rules, search rules, leave_kept _ _ 1 0 0 _ came.0 came.1 came.2 came.3 (omega arith) (omega arith) (omega arith))

pub load-found-requires : goal.load-found-requires
load-found-requires c = (search rules, search rules, look_kept _ _ _)

pub fetch_sub-requires-then-found-page : goal.fetch_sub-requires-then-found-page
fetch_sub-requires-then-found-page c =
    let came = came_and_looked _ 0 c.self.inside.seat.me _ _ c.fetch_add.ensures.2 c.load-found.ensures.2.0 in
    (search rules, search rules, leave_kept _ _ 1 0 0 _ came.0 came.1 came.2 came.3 (omega arith) (omega arith) (omega arith))

pub split_seat-seat-requires : goal.split_seat-seat-requires
split_seat-seat-requires c =
    let r : IsReadable (fields c.fetch_add.result) = search rules in
    let got = c.fetch_add.ensures.2.0 r in
    (search rules, search rules, share_split _ 1 0 0 got.0 _ (ap (λ me. me.0) (c.load-found.ensures.2.0 ∙ got.1)) (omega arith))

pub fetch_add-requires-2 : goal.fetch_add-requires-2
fetch_add-requires-2 c =
    let nr : ¬ (IsReadable (fields c.fetch_add.result)) = search rules in
    let p : IsPinnable (fields c.fetch_add.result) = search rules in
    let got = c.fetch_add.ensures.2.1 nr p in
    (search rules, search rules, turn_kept _ _ got.0 _ (ap (λ me. me.0) (c.load-found.ensures.2.0 ∙ got.1)))

pub split_seat-seat-requires-2 : goal.split_seat-seat-requires-2
split_seat-seat-requires-2 c =
    let nr : ¬ (IsReadable (fields c.fetch_add.result)) = search rules in
    let p : IsPinnable (fields c.fetch_add.result) = search rules in
    let got = c.fetch_add.ensures.2.1 nr p in
    let of_page = ap (λ me. me.0.page) (c.load-found.ensures.2.0 ∙ got.1) in
    (search rules, search rules, share_split _ 0 1 0 got.0 _ (ap (λ me. me.0) c.fetch_add-2.ensures.2 ∙ ap (λ p. guest 0 0 0 1 0 0 1 p) of_page) (omega arith))
