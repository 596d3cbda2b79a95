-- Both ends of the session's ring, and its line.
use Rattle.std.proofs.Common.{nat_eq, rules, arith, refl, ◌≡◌, ◌∙◌, sym, ap, subst, map, length}
use Rattle.std.proofs.lemmas.Bool.{eqb-true}
use Rattle.std.proofs.lemmas.List.{nil_from_length, map-set, length-reverse}
use Rattle.rtrb.specs.Ring.{known_items, received, known_free}
use Rattle.bp_session_log.specs.Books.{unfixes}
use Rattle.bp_session_log.specs.Rings.{RingName, RingView, ring_view}
use Rattle.bp_session_log.proofs.Drains.{both_hold, quiet_set}
use Rattle.bp_shared.specs.Posting.{IsPosted}
use Rattle.bp_shared.specs.Sessions.{SessionValue}
use Rattle.bp_shared.proofs.Posting.{meets}
use Rattle.bp_shared.proofs.Waiting.{settles}
use Rattle.bp_shared.proofs.Telling.{earlier_drained, shown_drained, shown_own, listed_by, told_by, went_back}
use Rattle.bp_shared.proofs.Belonging.{own_line, own_ring}
use Rattle.bp_shared.proofs.locked_pool.LockedPool.drain_own.Goals as goal

pub slots_beside-waiting-requires : goal.slots_beside-waiting-requires
slots_beside-waiting-requires g c =
    let s = c.session.inside in
    let is = c.from-client.ensures ∙ c.client.ensures ∙ sym (ap (λ (v : SessionValue). v.client) c.session.view_is) in
    let met = meets c.self.inside.consumers.items (g.N.PartNames.ring c.self.inside.part).rings g.N.PartNames.parameters.clients s.book.client c.from-client.result c.index_mut-consumer.result.now s.producer c.self.invariant.3.names_are c.self.invariant.4 c.session.invariant.0 is c.index_mut-consumer.ensures.value (own_ring _ _ _ _ (rw (← c.self.view_is, ← c.session.view_is) at c.requires.part) c.session.invariant.4) in
    (ap (λ (n : RingName). n.words) met.name, ap (λ (n : RingName). n.slots) met.name, ap (λ (n : RingName). n.names) met.name, search rules)

pub slots_beside-requires : goal.slots_beside-requires
slots_beside-requires g c =
    let s = c.session.inside in
    let is = c.from-client.ensures ∙ c.client.ensures ∙ sym (ap (λ (v : SessionValue). v.client) c.session.view_is) in
    let met = meets c.self.inside.consumers.items (g.N.PartNames.ring c.self.inside.part).rings g.N.PartNames.parameters.clients s.book.client c.from-client.result c.index_mut-consumer.result.now s.producer c.self.invariant.3.names_are c.self.invariant.4 c.session.invariant.0 is c.index_mut-consumer.ensures.value (own_ring _ _ _ _ (rw (← c.self.view_is, ← c.session.view_is) at c.requires.part) c.session.invariant.4) in
    let seen = c.slots_beside-waiting.ensures in
    let same = c.drain_known.ensures.drained.same in (
      ap (λ (n : RingName). n.words) same ∙ seen.looked.0.0.0 ∙ ap (λ (n : RingName). n.words) met.name ∙ sym seen.producer.0.0.0,
      ap (λ (n : RingName). n.slots) same ∙ seen.looked.0.0.1 ∙ ap (λ (n : RingName). n.slots) met.name ∙ sym seen.producer.0.0.1,
      ap (λ (n : RingName). n.names) same ∙ seen.looked.0.0.2 ∙ ap (λ (n : RingName). n.names) met.name ∙ sym seen.producer.0.0.2,
      search rules,
    )

pub invariant_of-self : goal.invariant_of-self
invariant_of-self g c =
    let s = c.session.inside in
    let is = c.from-client.ensures ∙ c.client.ensures ∙ sym (ap (λ (v : SessionValue). v.client) c.session.view_is) in
    let met = meets c.self.inside.consumers.items (g.N.PartNames.ring c.self.inside.part).rings g.N.PartNames.parameters.clients s.book.client c.from-client.result c.index_mut-consumer.result.now s.producer c.self.invariant.3.names_are c.self.invariant.4 c.session.invariant.0 is c.index_mut-consumer.ensures.value (own_ring _ _ _ _ (rw (← c.self.view_is, ← c.session.view_is) at c.requires.part) c.session.invariant.4) in
    let seen = c.slots_beside-waiting.ensures in
    let same = ap (λ (v : RingView). v.name) met.seen in
    let got = ap (λ (v : RingView). v.received) met.seen in
    let told = told_by (g.N.PartNames.ring c.self.inside.part).board g.N.PartNames.past s.book.client c.self.inside.board c.write.new.self s.line c.write.new.line c.self.inside.core.past s.book.said s.book.said c.self.invariant.2 (own_line _ _ _ _ _ (rw (← c.self.view_is, ← c.session.view_is) at c.requires.part) c.session.invariant.3) c.write.ensures in
    let all = settles (g.N.PartNames.ring c.self.inside.part).rings g.N.PartNames.past (map ring_view c.self.inside.consumers.items) c.self.inside.core c.drain_known.new.core s.book.client c.from-client.result c.slots_beside-waiting.result (ring_view c.slots_beside-waiting.new.self) (ring_view c.drain_known.new.consumer) (ring_view c.slots_beside.new.consumer) (ring_view c.index_mut-consumer.result.now) s.book.said c.self.invariant.3 met.counted is (search (rules, same, seen.looked)) (seen.looked.1 ∙ sym got) c.drain_known.ensures.drained c.drain_known.ensures.parameters c.drain_known.ensures.before seen.value (seen.fifo ∙ seen.producer.1 ∙ c.session.invariant.2) c.session.invariant.5 c.keeps_the_rules.ensures.legal told (search (rules, c.slots_beside.ensures.consumer)) c.slots_beside.ensures.consumer.1 in
    let drained = c.drain_known.ensures.drained in
    let shown = shown_drained _ _ _ _ _ c.self.invariant.2 (went_back _ _ drained.taken _ drained.go_back) in
    let durable = all.durable_is in (
      search (rules, durable),
      search rules,
      shown_own _ _ s.book.client _ _ _ _ _ s.book.said shown (own_line _ _ _ _ _ (rw (← c.self.view_is, ← c.session.view_is) at c.requires.part) c.session.invariant.3) c.write.ensures all.all,
      subst (λ vs. IsPosted (g.N.PartNames.ring c.self.inside.part).rings g.N.PartNames.past vs c.drain_known.new.core.past) (sym (map-set ring_view c.self.inside.consumers.items c.from-client.result c.slots_beside.new.consumer)) all.posted,
      c.self.invariant.4,
      earlier_drained _ _ _ _ c.self.invariant.5 (went_back _ _ drained.taken _ drained.go_back),
    )

pub returns : goal.returns
returns g c =
    let s = c.session.inside in
    let is = c.from-client.ensures ∙ c.client.ensures ∙ sym (ap (λ (v : SessionValue). v.client) c.session.view_is) in
    let met = meets c.self.inside.consumers.items (g.N.PartNames.ring c.self.inside.part).rings g.N.PartNames.parameters.clients s.book.client c.from-client.result c.index_mut-consumer.result.now s.producer c.self.invariant.3.names_are c.self.invariant.4 c.session.invariant.0 is c.index_mut-consumer.ensures.value (own_ring _ _ _ _ (rw (← c.self.view_is, ← c.session.view_is) at c.requires.part) c.session.invariant.4) in
    let seen = c.slots_beside-waiting.ensures in
    let same = ap (λ (v : RingView). v.name) met.seen in
    let got = ap (λ (v : RingView). v.received) met.seen in
    let told = told_by (g.N.PartNames.ring c.self.inside.part).board g.N.PartNames.past s.book.client c.self.inside.board c.write.new.self s.line c.write.new.line c.self.inside.core.past s.book.said s.book.said c.self.invariant.2 (own_line _ _ _ _ _ (rw (← c.self.view_is, ← c.session.view_is) at c.requires.part) c.session.invariant.3) c.write.ensures in
    let all = settles (g.N.PartNames.ring c.self.inside.part).rings g.N.PartNames.past (map ring_view c.self.inside.consumers.items) c.self.inside.core c.drain_known.new.core s.book.client c.from-client.result c.slots_beside-waiting.result (ring_view c.slots_beside-waiting.new.self) (ring_view c.drain_known.new.consumer) (ring_view c.slots_beside.new.consumer) (ring_view c.index_mut-consumer.result.now) s.book.said c.self.invariant.3 met.counted is (search (rules, same, seen.looked)) (seen.looked.1 ∙ sym got) c.drain_known.ensures.drained c.drain_known.ensures.parameters c.drain_known.ensures.before seen.value (seen.fifo ∙ seen.producer.1 ∙ c.session.invariant.2) c.session.invariant.5 c.keeps_the_rules.ensures.legal told (search (rules, c.slots_beside.ensures.consumer)) c.slots_beside.ensures.consumer.1 in
    let drained = c.drain_known.ensures.drained in
    let shown = shown_drained _ _ _ _ _ c.self.invariant.2 (went_back _ _ drained.taken _ drained.go_back) in
    let looked = c.slots_beside.ensures in
    let posted = ap length (looked.looked.1 ∙ seen.producer.1 ∙ c.session.invariant.2) ∙ length-reverse (unfixes s.book.said) in
    let gave = ap length looked.consumer.1 ∙ sym (length-reverse (received c.drain_known.new.consumer)) ∙ ap length all.emptied in
    let places : known_free c.slots_beside.new.self ≡ 32 = omega (arith, looked.value, looked.all_free, posted, gave, looked.looked.0.1, seen.producer.0.1, c.session.invariant.7) in
    rw (← c.self.view_is, ← c.session.view_is) (record {
      part = refl;
      takes = all.takes;
      seen = refl;
      ends = refl;
      session = λ i. record {
        part = s.part;
        client = s.book.client;
        before = s.book.before;
        said = s.book.said;
        seen = s.seen.list;
        free = places i;
        room = s.book.entries;
        passes = s.book.passes;
        copies = s.book.copies;
        places = s.book.places;
      };
      free = omega (arith, places, seen.producer.2, looked.looked.2);
      legal = c.keeps_the_rules.ensures.legal;
      list = listed_by _ _ s.book.client _ _ _ _ _ s.book.said _ shown (own_line _ _ _ _ _ (rw (← c.self.view_is, ← c.session.view_is) at c.requires.part) c.session.invariant.3) c.write.ensures all.all;
    })

pub invariant_of-self-inside : goal.invariant_of-self-inside
invariant_of-self-inside g c = (
  (λ is.
      let both = both_hold c.self.inside.is_quiet (nat_eq c.cached_slots.result 0) is in
      quiet_set ring_view c.from-client.result c.self.inside.consumers.items c.slots_beside.new.consumer (c.self.inside.quiet both.0) (nil_from_length (known_items c.slots_beside.new.consumer) (sym c.cached_slots.ensures ∙ eqb-true c.cached_slots.result 0 both.1))),
  tt,
)
