use Rattle.std.proofs.Common.{◌≡◌, ◌+◌, ◌-◌, get_or, sym, ap, ◌∙◌, subst, refl, arith}
use Rattle.std.proofs.lemmas.List.{get_or_past, get_or_default}
use Rattle.bp_frames.specs.Tables.{Table, IsSlotIn}
use Rattle.bp_frames.proofs.Tables.{none-shown, some-shown}
use Rattle.bp_frames.proofs.frame_table.FrameTable.find.Goals as goal

pub returns-then-number-len-clause-here : goal.returns-then-number-len-clause-here
returns-then-number-len-clause-here c =
    let ws = c.self.inside.places.items in
    sym (none-shown _ _ _ _ _ c.self.invariant.0 _ _ c.self.view_is c.args.page (get_or_past ws c.args.page 0 (omega (arith, c.if-number-len.true, c.number-number.ensures, c.len.ensures))))

pub returns-then-place-eq0-clause-here : goal.returns-then-place-eq0-clause-here
returns-then-place-eq0-clause-here c =
    let ws = c.self.inside.places.items in
    let there : get_or ws c.number-number.result 0 ≡ 0 = subst (λ d. get_or ws c.number-number.result d ≡ 0) c.if-place-eq0.true (sym c.index-place.ensures ∙ c.if-place-eq0.true) in
    sym (none-shown _ _ _ _ _ c.self.invariant.0 _ _ c.self.view_is c.args.page (ap (λ n. get_or ws n 0) (sym c.number-number.ensures) ∙ there))

pub returns-clause-found : goal.returns-clause-found
returns-clause-found c =
    let ws = c.self.inside.places.items in
    let place = c.index-place.result.now in
    let there : get_or ws c.number-number.result 0 ≡ place = get_or_default ws c.number-number.result 0 place (omega (arith, c.if-number-len.false, c.len.ensures)) ∙ sym c.index-place.ensures in
    let one_more : place ≡ place - 1 + 1 = omega (arith, c.if-place-eq0.false) in
    (subst (λ (t : Table). IsSlotIn t (record { page = c.args.page; index = place - 1 })) c.self.view_is (ap (λ n. get_or ws n 0) (sym c.number-number.ensures) ∙ there ∙ one_more), refl)

pub returns-clause-here : goal.returns-clause-here
returns-clause-here c = sym (some-shown _ _ _ _ _ c.self.invariant.0 _ _ c.self.view_is (record { page = c.args.page; index = c.index-place.result.now - 1 }) (returns-clause-found c).0)
