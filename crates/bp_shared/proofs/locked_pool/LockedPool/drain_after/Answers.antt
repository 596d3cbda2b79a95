-- The session's own ring is looked into with both its ends.
use Rattle.std.proofs.Common.{nat_eq, rules, ◌≡◌, ◌∙◌, sym, ap, subst, [], map, reverse}
use Rattle.std.proofs.lemmas.Bool.{eqb-true}
use Rattle.std.proofs.lemmas.List.{append-nil, map-set, nil_from_length}
use Rattle.rtrb.specs.Ring.{known_items, received}
use Rattle.bp_session_log.specs.Rings.{RingName, RingView, ring_view}
use Rattle.bp_session_log.specs.Rings.GoBack.{none_taken}
use Rattle.bp_session_log.proofs.Drains.{both_hold, quiet_set}
use Rattle.bp_shared.specs.Locked.{LockedValue}
use Rattle.bp_shared.specs.Posting.{IsPosted, IsUnfixedBy}
use Rattle.bp_shared.specs.Sessions.{SessionValue}
use Rattle.bp_shared.proofs.Posting.{came_back, meets, posted_one}
use Rattle.bp_shared.proofs.Telling.{AddsUnfixes, drained_unfixes, listed_beside}
use Rattle.bp_shared.proofs.Belonging.{own_ring}
use Rattle.bp_shared.proofs.locked_pool.LockedPool.drain_after.Goals as goal

pub slots_beside-requires : goal.slots_beside-requires
slots_beside-requires g c =
    let s = c.session.inside in
    let is = c.from-client.ensures ∙ c.client.ensures ∙ sym (ap (λ (v : SessionValue). v.client) c.session.view_is) in
    let part = ap g.N.PartNames.ring (ap (λ (v : SessionValue). v.part) c.session.view_is ∙ c.requires.part ∙ sym c.drain.ensures.part ∙ sym (ap (λ (v : LockedValue). v.part) c.self.view_is)) in
    let met = meets c.self.inside.consumers.items (g.N.PartNames.ring c.self.inside.part).rings g.N.PartNames.parameters.clients s.book.client c.from-client.result c.index_mut-consumer.result.now s.producer c.self.invariant.3.names_are c.self.invariant.4 c.session.invariant.0 is c.index_mut-consumer.ensures.value (own_ring _ _ _ _ part c.session.invariant.4) in
    (ap (λ (n : RingName). n.words) met.name, ap (λ (n : RingName). n.slots) met.name, ap (λ (n : RingName). n.names) met.name, search rules)

pub invariant_of-self : goal.invariant_of-self
invariant_of-self g c =
    let s = c.session.inside in
    let is = c.from-client.ensures ∙ c.client.ensures ∙ sym (ap (λ (v : SessionValue). v.client) c.session.view_is) in
    let part = ap g.N.PartNames.ring (ap (λ (v : SessionValue). v.part) c.session.view_is ∙ c.requires.part ∙ sym c.drain.ensures.part ∙ sym (ap (λ (v : LockedValue). v.part) c.self.view_is)) in
    let met = meets c.self.inside.consumers.items (g.N.PartNames.ring c.self.inside.part).rings g.N.PartNames.parameters.clients s.book.client c.from-client.result c.index_mut-consumer.result.now s.producer c.self.invariant.3.names_are c.self.invariant.4 c.session.invariant.0 is c.index_mut-consumer.ensures.value (own_ring _ _ _ _ part c.session.invariant.4) in
    let looked = c.slots_beside.ensures.looked in
    let same = ap (λ (v : RingView). v.name) met.seen in
    let got = ap (λ (v : RingView). v.received) met.seen in
    let posted = posted_one (g.N.PartNames.ring c.self.inside.part).rings g.N.PartNames.past (map ring_view c.self.inside.consumers.items) c.self.inside.core.past c.self.inside.core.past c.from-client.result (ring_view c.slots_beside.new.self) (ring_view c.index_mut-consumer.result.now) [] c.self.invariant.3 met.counted (search (rules, same, looked)) (looked.1 ∙ sym got ∙ sym (append-nil _)) none_taken in (
      c.self.invariant.0,
      c.self.invariant.1,
      c.self.invariant.2,
      subst (λ vs. IsPosted (g.N.PartNames.ring c.self.inside.part).rings g.N.PartNames.past vs c.self.inside.core.past) (sym (map-set ring_view c.self.inside.consumers.items c.from-client.result c.slots_beside.new.self)) posted,
      c.self.invariant.4,
      c.self.invariant.5,
    )

pub returns-clause-list : goal.returns-clause-list
returns-clause-list g c =
    let s = c.session.inside in
    let is = c.from-client.ensures ∙ c.client.ensures ∙ sym (ap (λ (v : SessionValue). v.client) c.session.view_is) in
    let part = ap g.N.PartNames.ring (ap (λ (v : SessionValue). v.part) c.session.view_is ∙ c.requires.part ∙ sym c.drain.ensures.part ∙ sym (ap (λ (v : LockedValue). v.part) c.self.view_is)) in
    let met = meets c.self.inside.consumers.items (g.N.PartNames.ring c.self.inside.part).rings g.N.PartNames.parameters.clients s.book.client c.from-client.result c.index_mut-consumer.result.now s.producer c.self.invariant.3.names_are c.self.invariant.4 c.session.invariant.0 is c.index_mut-consumer.ensures.value (own_ring _ _ _ _ part c.session.invariant.4) in
    let looked = c.slots_beside.ensures in
    let got = ap (λ (v : RingView). v.received) met.seen in
    let more = subst (AddsUnfixes c.args.self.now.core.past) (sym (ap (λ (v : LockedValue). v.core.past) c.self.view_is)) (drained_unfixes 32 0 _ _ _ _ c.drain.ensures.drained) in
    let came = came_back (g.N.PartNames.ring c.self.inside.part).rings g.N.PartNames.past (map ring_view c.self.inside.consumers.items) c.self.inside.core.past c.from-client.result (ring_view c.index_mut-consumer.result.now) c.self.invariant.3 met.counted in
    let gave = subst (λ n. IsUnfixedBy g.N.PartNames.past c.self.inside.core.past n (reverse (received c.slots_beside.new.self))) is (subst (λ gs. IsUnfixedBy g.N.PartNames.past c.self.inside.core.past c.from-client.result (reverse gs)) (got ∙ sym looked.looked.1) came) in
    rw (← c.session.view_is) (listed_beside g.N.PartNames.past c.args.self.now.core.past c.self.inside.core.past s.book.client s.book.said (received c.slots_beside.new.self) (known_items c.slots_beside.new.self) (rw (← c.session.view_is) at c.requires.list) more gave (looked.fifo ∙ looked.producer.1 ∙ c.session.invariant.2))

pub invariant_of-self-inside : goal.invariant_of-self-inside
invariant_of-self-inside g c = (
  (λ is.
      let both = both_hold c.self.inside.is_quiet (nat_eq c.cached_slots.result 0) is in
      quiet_set ring_view c.from-client.result c.self.inside.consumers.items c.slots_beside.new.self (c.self.inside.quiet both.0) (nil_from_length (known_items c.slots_beside.new.self) (sym c.cached_slots.ensures ∙ eqb-true c.cached_slots.result 0 both.1))),
  tt,
)
