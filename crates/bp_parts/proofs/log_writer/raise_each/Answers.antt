-- The end of one mark is raised, and the others are as they were.
use Rattle.std.proofs.Common.{arith, sym, ap, subst, ◌∙◌, ◌≡◌, ◌<◌, max, length, length-set}
use Rattle.bp_mark.specs.Marks.{LogEndValue}
use Rattle.bp_parts.specs.Logs.{AreEndsFrom}
use Rattle.bp_parts.proofs.Raising.{ends_more, ends_left}
use Rattle.bp_parts.proofs.log_writer.raise_each.Goals as goal

pub raise-requires : goal.raise-requires
raise-requires g c =
    let i = c.loop-part.invariant in
    let at = c.index_mut.ensures.value ∙ i.3 c.loop-part.part _ (omega arith) (omega (arith, c.loop-part-test.true, c.loop-part.auto.part-end)) in
    let own = c.index-parts-part.is ∙ c.requires.parts c.loop-part.part _ (omega (arith, c.loop-part-test.true, c.loop-part.auto.part-end, i.0, c.requires.all, c.args.ends.now.ok)) in
    ap (λ (e : LogEndValue). e.mark) at ∙ ap g.N.PartNames.mark (sym own) ∙ sym c.mark.ensures

pub loop-part-preserved : goal.loop-part-preserved
loop-part-preserved g c =
    let i = c.loop-part.invariant in
    let below : c.loop-part.part < length c.loop-part.ends.items = omega (arith, i.0, i.1, c.loop-part-test.true, c.loop-part.auto.part-end) in
    let at = c.index_mut.ensures.value ∙ i.3 c.loop-part.part _ (omega arith) (omega (arith, c.loop-part-test.true, c.loop-part.auto.part-end)) in
    let raised = c.raise.ensures ∙ ap (λ (e : LogEndValue). record e { frontier = max e.frontier c.args.lsn }) at in
    (i.0, length-set c.loop-part.ends.items c.loop-part.part c.raise.new.self ∙ i.1, ends_more _ _ _ _ _ below i.2 raised, ends_left _ _ _ _ _ _ i.3)

pub returns-clause-raised : goal.returns-clause-raised
returns-clause-raised g c =
    let i = c.loop-part.invariant in
    let all : c.loop-part.part ≡ length c.loop-part.ends.items = omega (arith, i.0, i.1, c.loop-part-test.false, c.loop-part.auto.part-end) in
    subst (λ n. AreEndsFrom g.N.PartNames.mark (max c.args.frontier c.args.lsn) 0 n c.loop-part.ends.items) all i.2
