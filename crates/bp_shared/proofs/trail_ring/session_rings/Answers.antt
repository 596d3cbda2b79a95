-- One ring after another.
use Rattle.std.proofs.Common.{ap, arith, [], ◌∷◌, length, length-append, rules}
use Rattle.bp_shared.proofs.Posting.{no_rings, ring_more}
use Rattle.bp_shared.proofs.trail_ring.session_rings.Goals as goal

pub loop-init : goal.loop-init
loop-init c = record {
  rings = no_rings c.in_ok-producers.producers.items c.in_ok-consumers.consumers.items c.in_ok-producers.ensures.items c.in_ok-consumers.ensures.items;
  count = ap length c.in_ok-producers.ensures.items;
  beside = c.in_ok-consumers.ensures.len;
  room = c.in_ok-producers.ensures.capacity;
  room_beside = c.in_ok-consumers.ensures.capacity;
}

pub loop-preserved : goal.loop-preserved
loop-preserved c =
    let i = c.loop.invariant in
    let made = c.in_ok-producer.ensures in
    let in_one = c.push_reserved.ensures in
    let out_one = c.push_reserved-in-loop.ensures in
    record {
      rings = ring_more _ _ _ _ c.in_ok-producer.producer c.in_ok-producer.consumer i.rings in_one.items out_one.items (search rules) made.producer made.consumer.0;
      count = omega (arith, i.count, ap length in_one.items, length-append c.loop.producers.items (c.in_ok-producer.producer ∷ []));
      beside = omega (arith, i.beside, out_one.len);
      room = omega (arith, i.room, in_one.capacity);
      room_beside = omega (arith, i.room_beside, out_one.capacity);
    }
