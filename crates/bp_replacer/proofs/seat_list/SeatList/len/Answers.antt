use Rattle.std.proofs.Common.{ap, arith, length}
use Rattle.bp_replacer.proofs.SeatListLaws.{length_seated}
use Rattle.bp_replacer.proofs.seat_list.SeatList.len.Goals as goal

pub returns : goal.returns
returns c =
    let i = c.self.inside in
    omega (arith, c.len.ensures, ap length c.self.view_is, length_seated i.taken.items i.entries.items c.self.invariant, c.self.invariant, i.taken.ok.0, i.entries.ok.0)
