use Rattle.std.proofs.Common.{◌∙◌, ap, sym, arith, length, false}
use Rattle.std.specs.Option.{is_some}
use Rattle.std.proofs.lemmas.List.{get_or_default}
use Rattle.bp_replacer.specs.Seats.{seat_at}
use Rattle.bp_replacer.proofs.SeatListLaws.{length_seated, taken_seated}
use Rattle.bp_replacer.proofs.seat_list.SeatList.is_taken.Goals as goal

pub index-requires : goal.index-requires
index-requires c =
    let i = c.self.inside in
    omega (arith, c.requires, ap length c.self.view_is, length_seated i.taken.items i.entries.items c.self.invariant, i.taken.ok.0)

pub returns : goal.returns
returns c =
    let i = c.self.inside in
    c.index.ensures
    ∙ get_or_default i.taken.items c.args.seat c.index.result.now false (omega (arith, c.requires, ap length c.self.view_is, length_seated i.taken.items i.entries.items c.self.invariant))
    ∙ sym (taken_seated i.taken.items i.entries.items c.args.seat c.self.invariant)
    ∙ ap (λ seats. is_some (seat_at seats c.args.seat)) c.self.view_is
