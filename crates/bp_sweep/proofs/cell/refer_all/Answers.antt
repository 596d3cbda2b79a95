use Rattle.std.proofs.Common.{◌+◌, ◌++◌, ◌∷◌, [], ap, refl, sym, subst, ◌∙◌}
use Rattle.std.specs.Prelude.{take}
use Rattle.std.proofs.lemmas.List.{take_more}
use Rattle.bp_sweep.specs.Referring.{HasRun}
use Rattle.bp_sweep.proofs.Steps.{run-none}
use Rattle.bp_sweep.proofs.cell.refer_all.Goals as goal

pub loop-page-init : goal.loop-page-init
loop-page-init g c = record { run = run-none c.args.core.now; tallied = c.requires.tallied; geometry = refl; done = refl }

pub loop-page-preserved : goal.loop-page-preserved
loop-page-preserved g c =
    let so_far = take c.loop-page.page-index c.args.references.now in
    record {
      run = subst (λ pages. HasRun c.args.core.now pages c.refer.new.core)
          (ap (λ page. so_far ++ page ∷ []) (c.new.ensures ∙ c.from.ensures) ∙ sym (take_more c.args.references.now c.loop-page.page-index 0 c.loop-page-test.true))
          (c.in_ok-refer.ensures.step c.args.core.now so_far c.loop-page.invariant.run);
      tallied = c.in_ok-refer.ensures.tallied;
      geometry = c.refer.ensures.geometry ∙ c.loop-page.invariant.geometry;
      done = ap (λ n. n + 1) c.loop-page.invariant.done;
    }
