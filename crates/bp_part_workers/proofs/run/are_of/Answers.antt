-- Port after port.
use Rattle.std.proofs.Common.{All, arith, rules, refl, sym, ◌∙◌, subst}
use Rattle.std.proofs.lemmas.List.{take_all}
use Rattle.std.proofs.lemmas.List.Elements.{All-more}
use Rattle.bp_part_workers.specs.Runs.{IsPortOf}
use Rattle.bp_part_workers.proofs.run.are_of.Goals as goal

pub loop-port-preserved : goal.loop-port-preserved
loop-port-preserved g c =
    All-more (IsPortOf c.args.config.now c.args.parts) c.args.ports.now c.loop-port.port-index c.port-item.result (omega (arith, c.loop-port-test.true)) c.loop-port.invariant
    (subst (IsPortOf c.args.config.now c.args.parts) c.port-item.is (record { stripes = search rules; geometry = sym c.geometry.ensures ∙ c.is_same.ensures.0 (search rules) }))

pub returns : goal.returns
returns g c = (
  λ ok. subst (λ ports. All (IsPortOf c.args.config.now c.args.parts) ports) (take_all c.loop-port.port-index c.args.ports.now (omega (arith, c.loop-port-test.false, c.loop-port.auto.port-index-end))) c.loop-port.invariant,
  λ all. refl,
)
