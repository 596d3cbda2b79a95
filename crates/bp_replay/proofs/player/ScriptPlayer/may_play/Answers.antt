-- The rows fit the pages that they are for.
use Rattle.std.proofs.Common.{◌≡◌, ◌∙◌, sym, subst}
use Rattle.std.proofs.lemmas.Bool.{eqb-true}
use Rattle.bp_replay.specs.Scripts.{RowsFit}
use Rattle.bp_replay.proofs.player.ScriptPlayer.may_play.Goals as goal

pub returns-clause-fits : goal.returns-clause-fits
returns-clause-fits c same p pages size =
    let own = c.self.inside.geometry.size in
    let alike : own ≡ c.args.geometry.now.size = eqb-true own c.args.geometry.now.size same in
    rw (← c.self.view_is)
    (subst (λ who. RowsFit p who c.self.inside.script.items) c.if-self-client.false
    (c.self.invariant.fits p (pages ∙ sym c.if-self-geometry.false) (size ∙ sym alike)))
