use Rattle.std.proofs.Common.{true, not, reverse, filter, refl, sym, ap, ◌∙◌}
use Rattle.std.specs.Prelude.{◌==◌}
use Rattle.bp_trail.specs.Event.{Grant, grant}
use Rattle.bp_trail.proofs.Counting.{filter-reverse}
use Rattle.bp_frames.specs.declared.grant_list.Slot.{Slot}
use Rattle.bp_frames.specs.GrantLists.{Given, grants_out}
use Rattle.bp_frames.proofs.Outstanding.{without-newest}
use Rattle.bp_frames.proofs.grant_list.GrantList.pass_by.Goals as goal

pub returns-else-not-rises_with-clause-out : goal.returns-else-not-rises_with-clause-out
returns-else-not-rises_with-clause-out c =
    let items = c.self.inside.slots.items in
    let newest : Slot = record { grant = grant 0 0 c.args.serial; is_out = true } in
    let rises = c.rises_with.ensures newest refl c.if-not-rises_with.false in
    ap (λ (v : Given). v.out) (sym c.self.view_is)
    ∙ ap reverse (sym (without-newest c.args.serial items newest refl rises))
    ∙ filter-reverse (λ (g : Grant). not (g.serial == c.args.serial)) (grants_out items)
    ∙ ap (λ (v : Given). filter (λ (g : Grant). not (g.serial == c.args.serial)) v.out) c.self.view_is
