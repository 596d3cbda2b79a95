-- One ring after another.
use Rattle.std.proofs.Common.{◌≡◌, arith, refl, subst, ◌∙◌, []}
use Rattle.std.proofs.lemmas.List.Elements.{All-nil}
use Rattle.bp_session_log.specs.Rings.{RingView, ring_view, DrainsRing}
use Rattle.bp_session_log.specs.Rings.DrainsRings.{none_left}
use Rattle.bp_session_log.proofs.Drains.{rings_next, rings_durable, quiet_next, both_hold}
use Rattle.bp_session_log.proofs.draining.drain_all.Goals as goal

pub loop-client-init : goal.loop-client-init
loop-client-init g c = record { parameters = refl; before = refl; count = refl; drained = none_left; left = refl; quiet = λ _. All-nil (λ (r : RingView). r.waiting ≡ []) }

pub loop-client-preserved : goal.loop-client-preserved
loop-client-preserved g c =
    let i = c.loop-client.invariant in
    let here = subst (λ ring. DrainsRing 32 c.loop-client.client (ring_view ring) (ring_view c.drain-is_empty.new.consumer) c.loop-client.core.past c.drain-is_empty.new.core.past) c.index_mut.ensures.value c.drain-is_empty.ensures.drained in
    let next = rings_next ring_view 32 c.loop-client.client c.args.consumers.now.items c.loop-client.consumers.items c.index_mut.result.now c.drain-is_empty.new.consumer _ _ _ (omega (arith, c.loop-client-test.true, c.args.consumers.now.ok, c.len-client-end.ensures)) (omega (arith, c.loop-client-test.true, i.count, c.loop-client.consumers.ok, c.len-client-end.ensures)) i.drained i.left here in
    record { parameters = c.drain-is_empty.ensures.parameters ∙ i.parameters; before = c.drain-is_empty.ensures.before ∙ i.before; count = i.count; drained = next.0; left = next.1; quiet = λ is. quiet_next ring_view c.loop-client.client c.loop-client.consumers.items c.drain-is_empty.new.consumer (omega (arith, c.loop-client-test.true, i.count, c.loop-client.consumers.ok, c.len-client-end.ensures)) (i.quiet (both_hold c.loop-client.is_quiet c.drain-is_empty.result is).0) (c.drain-is_empty.ensures.quiet (both_hold c.loop-client.is_quiet c.drain-is_empty.result is).1) }

pub returns-clause-durable : goal.returns-clause-durable
returns-clause-durable g c = rings_durable _ _ _ _ _ _ c.loop-client.invariant.drained
