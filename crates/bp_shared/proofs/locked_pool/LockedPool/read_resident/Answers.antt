-- Three entries, and a pass through the session's ring.
use Rattle.std.proofs.Common.{nat_eq, arith, refl, ◌≡◌, ◌∙◌, sym, ap, subst, ◌∷◌, ◌++◌, [], map}
use Rattle.std.proofs.lemmas.Bool.{eqb-true}
use Rattle.std.proofs.lemmas.List.{nil_from_length, map-set}
use Rattle.rtrb.specs.Ring.{known_items, received, sent, known_free}
use Rattle.bp_session_log.specs.Rings.{RingView, ring_view}
use Rattle.bp_session_log.specs.Turns.{and_read}
use Rattle.bp_session_log.proofs.Drains.{both_hold, quiet_set}
use Rattle.bp_shared.specs.Posting.{IsPosted}
use Rattle.bp_shared.proofs.Acting.{shows}
use Rattle.bp_shared.proofs.Belonging.{own_line, own_ring}
use Rattle.bp_shared.proofs.Looking.{look_adds, look_ends, look_posted, all_came_out}
use Rattle.bp_shared.proofs.Posting.{meets}
use Rattle.bp_shared.proofs.Telling.{earlier_adds, earlier_seen, line_earlier, shown_more}
use Rattle.bp_shared.proofs.locked_pool.LockedPool.read_resident.Goals as goal

pub pass_through-requires-clause-pair : goal.pass_through-requires-clause-pair
pass_through-requires-clause-pair g c =
    let s = c.session.inside in
    let is = c.from-client.ensures ∙ c.client.ensures ∙ c.ask_read_resident.ensures.adds.client in
    let part = ap g.N.PartNames.ring (rw (← c.self.view_is, ← c.session.view_is) at c.requires.entered.part) in
    let met = meets c.self.inside.consumers.items (g.N.PartNames.ring c.self.inside.part).rings g.N.PartNames.parameters.clients s.book.client c.from-client.result c.index_mut-consumer.result.now s.producer c.self.invariant.3.names_are c.self.invariant.4 c.session.invariant.0 is c.index_mut-consumer.ensures.value (own_ring _ _ _ _ part c.session.invariant.4) in
    met.name

pub pass_through-requires-clause-emptied : goal.pass_through-requires-clause-emptied
pass_through-requires-clause-emptied g c =
    let s = c.session.inside in
    let is = c.from-client.ensures ∙ c.client.ensures ∙ c.ask_read_resident.ensures.adds.client in
    let part = ap g.N.PartNames.ring (rw (← c.self.view_is, ← c.session.view_is) at c.requires.entered.part) in
    let met = meets c.self.inside.consumers.items (g.N.PartNames.ring c.self.inside.part).rings g.N.PartNames.parameters.clients s.book.client c.from-client.result c.index_mut-consumer.result.now s.producer c.self.invariant.3.names_are c.self.invariant.4 c.session.invariant.0 is c.index_mut-consumer.ensures.value (own_ring _ _ _ _ part c.session.invariant.4) in
    all_came_out (g.N.PartNames.ring c.self.inside.part).rings g.N.PartNames.past (map ring_view c.self.inside.consumers.items) c.self.inside.core.past s.book.client c.from-client.result (ring_view c.index_mut-consumer.result.now) s.book.said (received c.index_mut-consumer.result.now) (sent s.producer) c.self.invariant.3
    (rw (← c.self.view_is, ← c.session.view_is) at c.requires.entered.list_is) met.counted is (sym (ap (λ (v : RingView). v.received) met.seen)) c.session.invariant.2

pub invariant_of-self : goal.invariant_of-self
invariant_of-self g c =
    let s = c.session.inside in
    let asked = c.ask_read_resident in
    let adds = asked.ensures.adds in
    let note = c.in-Ok-Some.note in
    let turn = rw c.in-Ok-Some.field-0-is at c.in-Ok-Some.ensures.outcome in
    let is = c.from-client.ensures ∙ c.client.ensures ∙ adds.client in
    let part = ap g.N.PartNames.ring (rw (← c.self.view_is, ← c.session.view_is) at c.requires.entered.part) in
    let met = meets c.self.inside.consumers.items (g.N.PartNames.ring c.self.inside.part).rings g.N.PartNames.parameters.clients s.book.client c.from-client.result c.index_mut-consumer.result.now s.producer c.self.invariant.3.names_are c.self.invariant.4 c.session.invariant.0 is c.index_mut-consumer.ensures.value (own_ring _ _ _ _ part c.session.invariant.4) in
    let more = look_adds s.book.client c.args.page c.args.offset c.args.into.now note asked.new.into c.self.inside.core asked.new.core s.book asked.new.self adds turn in
    let locked = c.self.invariant.0 in
    let handed = c.self.invariant.1 in
    let passed = c.pass_through in
    let posted =
    look_posted s.book.client c.args.page c.args.offset c.args.into.now note asked.new.into c.self.inside.core asked.new.core s.book asked.new.self adds turn (g.N.PartNames.ring c.self.inside.part).rings g.N.PartNames.past (map ring_view c.self.inside.consumers.items) c.from-client.result (ring_view passed.new.consumer) (ring_view c.index_mut-consumer.result.now) c.self.invariant.3 met.counted is
    (passed.ensures.consumer ∙ sym (ap (λ (v : RingView). v.name) met.seen)) (passed.ensures.received ∙ ap (λ xs. xs ++ note ∷ []) (sym (ap (λ (v : RingView). v.received) met.seen))) in (
      record { reader_is = locked.reader_is; parameters_are = adds.parameters ∙ locked.parameters_are; seen = omega (arith, adds.durable_stays, locked.seen) },
      record { ring_is = handed.ring_is; emptied = handed.emptied; pieces_are = adds.before ∙ handed.pieces_are },
      shown_more _ _ s.book.client _ _ _ _ _ _ _ _ c.self.invariant.2 (own_line _ _ _ _ _ part c.session.invariant.3) (rw (← c.self.view_is, ← c.session.view_is) at c.requires.entered.list_is) more c.write.ensures,
      subst (λ vs. IsPosted (g.N.PartNames.ring c.self.inside.part).rings g.N.PartNames.past vs asked.new.core.past) (sym (map-set ring_view c.self.inside.consumers.items c.from-client.result passed.new.consumer)) posted,
      c.self.invariant.4,
      earlier_seen _ _ _ _ _ _ (earlier_adds _ _ _ _ _ _ _ c.self.invariant.5 more) c.write-in-Ok-Some.ensures,
    )

pub returns-in-Ok-Some-clause-acted : goal.returns-in-Ok-Some-clause-acted
returns-in-Ok-Some-clause-acted g c =
    let s = c.session.inside in
    let asked = c.ask_read_resident in
    let adds = asked.ensures.adds in
    let turn = rw c.in-Ok-Some.field-0-is at c.in-Ok-Some.ensures.outcome in
    let more = look_adds s.book.client c.args.page c.args.offset c.args.into.now c.in-Ok-Some.note asked.new.into c.self.inside.core asked.new.core s.book asked.new.self adds turn in
    let free : known_free s.producer ≡ 32 = rw (← c.session.view_is) at c.requires.entered.emptied in
    let seen = c.write-in-Ok-Some.ensures in
    rw (← c.session.view_is) (shows _ _ _ _ c.self.inside.core asked.new.core c.self.invariant.0.parameters_are adds.parameters c.keeps_the_rules.ensures.legal (rw (← c.self.view_is, ← c.session.view_is) at c.requires.entered.list_is) more adds.client free (c.pass_through.ensures.free.1 ∙ sym free) (line_earlier _ _ _ _ _ _ _ c.self.invariant.5 seen) seen.list_is refl)

pub returns-in-Ok-Some-clause-once : goal.returns-in-Ok-Some-clause-once
returns-in-Ok-Some-clause-once g c is =
    let s = c.session.inside in
    let asked = c.ask_read_resident in
    let adds = asked.ensures.adds in
    let note = c.in-Ok-Some.note in
    let turn = rw c.in-Ok-Some.field-0-is at c.in-Ok-Some.ensures.outcome in
    let ends = look_ends s.book.client c.args.page c.args.offset c.args.into.now note asked.new.into c.self.inside.core asked.new.core s.book asked.new.self adds turn in
    rw (← c.session.view_is) (
      note.serial,
      turn.0,
      c.self.inside.core.past,
      subst (λ n. asked.new.self.said ≡ and_read n c.args.page note.serial turn.0 s.book.said) (sym adds.client) turn.2,
      c.write-in-Ok-Some.ensures.list_is ∙ subst (λ n. asked.new.core.past ≡ and_read n c.args.page note.serial turn.0 c.self.inside.core.past) (sym adds.client) ends,
    )

pub invariant_of-self-inside : goal.invariant_of-self-inside
invariant_of-self-inside g c = (
  (λ is.
      let both = both_hold c.self.inside.is_quiet (nat_eq c.cached_slots.result 0) is in
      quiet_set ring_view c.from-client.result c.self.inside.consumers.items c.pass_through.new.consumer (c.self.inside.quiet both.0) (nil_from_length (known_items c.pass_through.new.consumer) (sym c.cached_slots.ensures ∙ eqb-true c.cached_slots.result 0 both.1))),
  tt,
)
