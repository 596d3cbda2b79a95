use Rattle.std.proofs.Common.{◌≡◌, false, refl, sym, ap, ◌∙◌, unwrap_or}
use Rattle.std.specs.Option.{is_some}
use Rattle.bp_replacer.specs.Histories.{no_block, has_block, KeepsPlaces}
use Rattle.bp_replacer.proofs.PurgeLaws.{has_none}
use Rattle.bp_replacer.proofs.PurgeWalk.{without}
use Rattle.bp_replacer.proofs.histories.Histories.forget.Goals as goal

-- a page without a block

away : (c : goal.In_default) → has_block c.args.self.now c.args.page ≡ false
away c = sym c.place.ensures.some ∙ ap is_some c.in_default.is

pub returns-in_default-clause-held : goal.returns-in_default-clause-held
returns-in_default-clause-held c = ap (λ o. (unwrap_or o no_block).held) (without c.args.self.now c.args.page (away c))

pub returns-in_default-clause-stamps : goal.returns-in_default-clause-stamps
returns-in_default-clause-stamps c = has_none c.args.self.now c.args.page (without c.args.self.now c.args.page (away c))

pub returns-in_default-clause-places : goal.returns-in_default-clause-places
unfolding KeepsPlaces
returns-in_default-clause-places c = λ page was held. refl
