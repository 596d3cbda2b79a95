-- The pool's pages are those of the client's port.
use Rattle.std.proofs.Common.{◌≡◌, ◌∙◌, sym, ap, subst}
use Rattle.bp_page.specs.declared.limits.Geometry.{Geometry}
use Rattle.bp_replay.specs.Players.{PlayerValue}
use Rattle.bp_replay.specs.Scripts.{RowsFit}
use Rattle.bp_replay.proofs.player.ScriptPlayer.play.Goals as goal

pub run_rows-requires-clause-fits : goal.run_rows-requires-clause-fits
run_rows-requires-clause-fits g c =
    let p = g.N.PoolName.parameters in
    let client = c.args.client.now in
    let pages : p.pages ≡ c.geometry.result.pages = sym client.pages_are ∙ ap (λ (x : Geometry). x.pages) (sym c.geometry.ensures) in
    let size : p.size ≡ c.geometry.result.size = sym client.size_is ∙ ap (λ (x : Geometry). x.size) (sym c.geometry.ensures) in
    subst (λ rows. RowsFit p client.session.client rows) (sym c.deref.ensures.value)
    (subst (λ rows. RowsFit p client.session.client rows) (sym (ap (λ (v : PlayerValue). v.script) c.self.view_is))
    (subst (λ who. RowsFit p who c.args.self.now.script) c.client.ensures (c.may_play.ensures.fits c.if-may_play.true p pages size)))
