use Rattle.std.proofs.Common.{ap, sym, arith, length, None}
use Rattle.std.proofs.lemmas.List.{get_or_past}
use Rattle.bp_replacer.proofs.SeatListLaws.{length_seated}
use Rattle.bp_replacer.proofs.seat_list.SeatList.at.Goals as goal

pub find-requires : goal.find-requires
find-requires c =
    let i = c.self.inside in
    omega (arith, c.len.ensures, ap length c.self.view_is, length_seated i.taken.items i.entries.items c.self.invariant, c.self.invariant, i.entries.ok.0)

pub returns-else-seat-len : goal.returns-else-seat-len
returns-else-seat-len c =
    let i = c.self.inside in
    sym (get_or_past c.args.self.now c.args.seat None (omega (arith, c.len.ensures, ap length c.self.view_is, length_seated i.taken.items i.entries.items c.self.invariant, c.self.invariant, i.entries.ok.0)))
