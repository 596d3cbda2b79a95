use Rattle.std.proofs.Common.{◌≡◌, false, ap, ◌∙◌}
use Rattle.bp_trail.specs.Places.{loading, resident}
use Rattle.bp_core.proofs.Held.{away-held}
use Rattle.bp_core.proofs.Keeps.{at-past}
use Rattle.bp_core.proofs.pool.PoolCore.is_loading.Goals as goal

pub returns : goal.returns
returns g c =
    c.holds.ensures
    ∙ away-held _ _ _ c.self.invariant.agrees c.args.page (at-past _ _ _ c.self.invariant _ c.self.view_is (λ q past. resident past c.args.page ≡ false) c.requires.away)
    ∙ ap (λ v. loading v.past c.args.page) c.self.view_is
