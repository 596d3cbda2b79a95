use Rattle.std.proofs.Common.{◌∙◌, ap, arith, rules, List, Bool}
use Rattle.bp_replacer.specs.SeatList.{seated_by}
use Rattle.bp_replacer.proofs.SeatListLaws.{nobody_seated}
use Rattle.bp_replacer.proofs.seat_list.SeatList.new.Goals as goal

pub returns : goal.returns
returns c =
    let es = c.in_ok-entries.entries.items in
    ap (λ (ts : List Bool). seated_by ts es) (c.in_ok-taken.ensures.items_if_clones_equal (λ y is. search rules))
    ∙ nobody_seated c.args.size es (omega (arith, c.in_ok-entries.entries.ok.0, c.in_ok-entries.ensures.len))
