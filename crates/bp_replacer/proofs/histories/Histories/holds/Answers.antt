use Rattle.std.proofs.Common.{◌∙◌, sym, ap}
use Rattle.bp_replacer.specs.declared.histories.Block.{Block}
use Rattle.bp_replacer.proofs.BlockSteps.{shows, shows_block}
use Rattle.bp_replacer.proofs.histories.Histories.holds.Goals as goal

pub unwrap-requires : goal.unwrap-requires
unwrap-requires c = shows c.self.inside _ c.self.view_is c.self.invariant.0 _ _ _ (sym c.place.ensures.place ∙ c.in-Some.is) c.slot.ensures _ c.get.ensures

pub returns-in-Some : goal.returns-in-Some
returns-in-Some c =
    let was = shows_block c.self.inside _ c.self.view_is c.self.invariant.0 _ _ _ (sym c.place.ensures.place ∙ c.in-Some.is) c.slot.ensures _ c.get.ensures _ c.unwrap.ensures in
    sym (ap (λ (b : Block). b.held) was)
