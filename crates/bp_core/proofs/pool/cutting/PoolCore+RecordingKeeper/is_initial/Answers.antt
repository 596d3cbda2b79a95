use Rattle.std.proofs.Common.{◌≡◌, [], sym, ◌∙◌, subst}
use Rattle.std.specs.Prelude.{Decides, ◌==◌}
use Rattle.std.proofs.lemmas.Bool.{eqb-true, eq-eqb}
use Rattle.bp_trail.specs.Standing.{standing}
use Rattle.bp_core.proofs.KeepsCut.{nowhere}
use Rattle.bp_core.proofs.pool.cutting.PoolCore+RecordingKeeper.is_initial.Goals as goal

pub returns-then-self-eq0 : goal.returns-then-self-eq0
returns-then-self-eq0 c =
    let x = c.self.inside.state in
    let o = c.self.invariant.agrees.observed in
    subst (λ v. Decides (x.tickets_given == 0) (standing v.parameters v.past ≡ standing v.parameters [])) c.self.view_is
    (nowhere _ _ _ c.self.invariant.agrees.legal
    (λ e. (sym o.clock_is ∙ c.if-self-eq1.true, sym o.durable_is ∙ sym c.number.ensures ∙ c.if-number-eq0.true, sym o.passes_is ∙ c.if-self-eq0.true, sym o.tickets_is ∙ eqb-true x.tickets_given 0 e))
    (λ n. eq-eqb x.tickets_given 0 (o.tickets_is ∙ n.3)))
