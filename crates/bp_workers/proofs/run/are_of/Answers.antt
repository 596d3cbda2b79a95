-- Port after port.
use Rattle.std.proofs.Common.{◌≡◌, All, arith, rules, refl, sym, ◌∙◌, subst}
use Rattle.std.proofs.lemmas.List.{take_all}
use Rattle.std.proofs.lemmas.List.Elements.{All-more}
use Rattle.bp_workers.proofs.run.are_of.Goals as goal

pub loop-port-preserved : goal.loop-port-preserved
loop-port-preserved g c =
    All-more (λ p. g.P.Port.geometry_of p ≡ c.args.geometry.now) c.args.ports.now c.loop-port.port-index c.port-item.result (omega (arith, c.loop-port-test.true)) c.loop-port.invariant
    (subst (λ p. g.P.Port.geometry_of p ≡ c.args.geometry.now) c.port-item.is (sym c.geometry.ensures ∙ c.is_same.ensures.0 (search rules)))

pub returns : goal.returns
returns g c = (
  λ ok. subst (λ ports. All (λ p. g.P.Port.geometry_of p ≡ c.args.geometry.now) ports) (take_all c.loop-port.port-index c.args.ports.now (omega (arith, c.loop-port-test.false, c.loop-port.auto.port-index-end))) c.loop-port.invariant,
  λ all. refl,
)
