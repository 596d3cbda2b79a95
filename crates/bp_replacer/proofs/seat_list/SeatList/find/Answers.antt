use Rattle.std.proofs.Common.{◌≡◌, ◌∙◌, true, ap, sym, arith, length, Some}
use Rattle.std.specs.Option.{is_some}
use Rattle.std.proofs.lemmas.Bool.{true≢false}
use Rattle.bp_replacer.specs.Seats.{seat_at}
use Rattle.bp_replacer.proofs.SeatListLaws.{length_seated, entry_seated}
use Rattle.bp_replacer.proofs.seat_list.SeatList.find.Goals as goal

pub index-requires : goal.index-requires
index-requires c =
    let i = c.self.inside in
    omega (arith, c.requires, ap length c.self.view_is, length_seated i.taken.items i.entries.items c.self.invariant, c.self.invariant, i.entries.ok.0)

pub returns-then-is_taken : goal.returns-then-is_taken
returns-then-is_taken c =
    let i = c.self.inside in
    let taken : is_some (seat_at c.args.self.now c.args.seat) ≡ true = sym c.is_taken.ensures ∙ c.if-is_taken.true in
    let there = entry_seated i.taken.items i.entries.items c.args.seat c.index.result.now c.self.invariant (λ nobody. true≢false (sym taken ∙ ap is_some (ap (λ seats. seat_at seats c.args.seat) (sym c.self.view_is) ∙ nobody))) in
    ap Some c.index.ensures ∙ sym there ∙ ap (λ seats. seat_at seats c.args.seat) c.self.view_is
