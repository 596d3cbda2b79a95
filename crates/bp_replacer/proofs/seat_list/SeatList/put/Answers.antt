use Rattle.std.proofs.Common.{◌∙◌, ap, sym, arith, length, set, Bool, List}
use Rattle.std.specs.Option.{is_some}
use Rattle.bp_replacer.specs.SeatList.{seated_by}
use Rattle.bp_replacer.proofs.SeatListLaws.{length_seated, enter_seated, leave_seated}
use Rattle.bp_replacer.proofs.seat_list.SeatList.put.Goals as goal

pub set_flag-requires : goal.set_flag-requires
set_flag-requires c =
    let i = c.self.inside in
    omega (arith, c.requires, ap length c.self.view_is, length_seated i.taken.items i.entries.items c.self.invariant, i.taken.ok.0)

pub index_mut-requires : goal.index_mut-requires
index_mut-requires c =
    let i = c.self.inside in
    omega (arith, c.requires, ap length c.self.view_is, length_seated i.taken.items i.entries.items c.self.invariant, c.self.invariant, i.entries.ok.0)

pub returns-in-Some : goal.returns-in-Some
returns-in-Some c =
    let i = c.self.inside in
    let seat = c.args.seat in
    ap (λ (flags : List Bool). seated_by flags (set i.entries.items seat c.in-Some.candidate)) c.set_flag.ensures
    ∙ ap (λ (t : Bool). seated_by (set i.taken.items seat t) (set i.entries.items seat c.in-Some.candidate)) (c.is_some.ensures ∙ ap is_some c.in-Some.is)
    ∙ enter_seated i.taken.items i.entries.items seat c.in-Some.candidate c.self.invariant
    ∙ (λ k. set (c.self.view_is k) seat (sym c.in-Some.is k))

pub returns-in_default : goal.returns-in_default
returns-in_default c =
    let i = c.self.inside in
    let seat = c.args.seat in
    ap (λ (flags : List Bool). seated_by flags i.entries.items) c.set_flag.ensures
    ∙ ap (λ (t : Bool). seated_by (set i.taken.items seat t) i.entries.items) (c.is_some.ensures ∙ ap is_some c.in_default.is)
    ∙ leave_seated i.taken.items i.entries.items seat c.self.invariant
    ∙ (λ k. set (c.self.view_is k) seat (sym c.in_default.is k))
