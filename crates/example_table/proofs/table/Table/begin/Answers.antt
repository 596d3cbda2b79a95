use Rattle.std.proofs.Common.{Bool, List, false, length, refl, ap, ◌∙◌, arith}
use Rattle.std.proofs.lemmas.List.{length-replicate}
use Rattle.bp_core.specs.CoreView.{CoreView}
use Rattle.example_table.proofs.Tabling.{table-begins}
use Rattle.example_table.proofs.Wholes.{none-imaged}
use Rattle.example_table.proofs.table.Table.begin.Goals as goal

pub returns-clause-begins : goal.returns-clause-begins
returns-clause-begins g c =
    let made = c.in_ok-pool.ensures in
    (made.1, refl, λ table file start log_calls is. table-begins table file start log_calls c.in_ok-pool.pool c.args.log (ap (λ (x : CoreView). x.past) made.0.1) is)

pub returns-clause-imaged : goal.returns-clause-imaged
returns-clause-imaged g c = (
  none-imaged c.in_ok-imaged.imaged.items _ (c.in_ok-imaged.ensures.items_if_clones_equal (λ y h. h)),
  ap (λ (fs : List Bool). length fs) (c.in_ok-imaged.ensures.items_if_clones_equal (λ y h. h)) ∙ length-replicate {A = Bool} _ false ∙ omega (arith, ap (λ d. d.pages) (c.geometry.ensures ∙ ap (λ p. g.P.Port.geometry_of p) (c.port.ensures ∙ c.in_ok-pool.ensures.1))),
)

pub returns-clause-asked : goal.returns-clause-asked
returns-clause-asked g c = (let made = c.in_ok-pool.ensures in ap (λ (x : CoreView). x.parameters) made.0.1)
