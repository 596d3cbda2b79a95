-- One session after another.
use Rattle.std.proofs.Common.{All, rules, arith, refl, sym, subst, ◌≡◌, ◌<◌, ap, ◌∙◌, ◌+◌, [], ◌∷◌, add-one, length, drop, get_or, length-append, length-drop}
use Rattle.std.proofs.lemmas.List.{drop_more}
use Rattle.std.proofs.lemmas.List.Elements.{All-get_or, All-nil}
use Rattle.std.specs.Vec.Iter.{into_iter_items}
use Rattle.bp_trail.specs.Parameters.{Parameters}
use Rattle.bp_shared.specs.Posting.{IsUnused}
use Rattle.bp_shared.proofs.Posting.{next_name}
use Rattle.bp_shared.specs.Sessions.{new_sessions_of}
use Rattle.bp_shared.specs.Telling.{IsBlank}
use Rattle.bp_shared.proofs.Making.{sessions_more}
use Rattle.bp_shared.proofs.Telling.{all_shown, blank_more, line_new}
use Rattle.bp_shared.proofs.pool.new_clients.Goals as goal

pub loop-client-init : goal.loop-client-init
loop-client-init g c = record {
  clients = c.clients-clients.ensures ∙ ap (λ (p : Parameters). p.clients) c.requires.parameters;
  sessions = c.in_ok-sessions.ensures.items;
  rings = search rules;
  board = c.requires.board;
  lines = ap length c.requires.empty.0;
  blank = subst IsBlank (sym c.requires.empty.0) (λ _. refl);
  seen = c.requires.seen;
  shown = subst (All (λ list. list ≡ g.N.PartNames.past)) (sym c.requires.empty.1) (All-nil (λ list. list ≡ g.N.PartNames.past));
  count = c.in_ok-sessions.ensures.len;
  room = c.in_ok-sessions.ensures.capacity;
}

pub new-session-requires-clause-unused : goal.new-session-requires-clause-unused
new-session-requires-clause-unused g c =
    let from = sym c.in-Some.ensures.items ∙ c.loop-client.invariant.rings in
    let below : c.loop-client.client < length c.args.producers.items = omega (arith, c.loop-client-test.true, c.loop-client.invariant.clients, c.requires.count) in
    let here = ap (λ ps. get_or ps 0 c.in-Some.producer) (sym (drop_more c.args.producers.items c.loop-client.client c.in-Some.producer below) ∙ sym from) in
    subst IsUnused here (All-get_or IsUnused c.args.producers.items c.loop-client.client c.in-Some.producer below c.requires.unused)

pub new-session-requires-clause-ring : goal.new-session-requires-clause-ring
new-session-requires-clause-ring g c =
    let below : c.loop-client.client < length c.args.producers.items = omega (arith, c.loop-client-test.true, c.loop-client.invariant.clients, c.requires.count) in
    next_name c.args.producers.items (g.N.PartNames.ring c.args.part).rings c.loop-client.client c.in-Some.producer (into_iter_items c.next.new.self) c.requires.rings below (sym c.in-Some.ensures.items ∙ c.loop-client.invariant.rings)

pub new-session-requires-clause-line : goal.new-session-requires-clause-line
new-session-requires-clause-line g c = line_new _ _ _ (c.line-line.ensures.name_is ∙ c.loop-client.invariant.board) (c.line-line.ensures.number_is ∙ c.loop-client.invariant.lines) c.line-line.ensures.empty

pub loop-client-preserved : goal.loop-client-preserved
loop-client-preserved g c =
    let i = c.loop-client.invariant in
    let more = c.line-line.ensures in
    let counted : length c.line-line.new.self.lists ≡ length c.loop-client.board.lists + 1 = ap length more.lists ∙ length-append c.loop-client.board.lists ([] ∷ []) in
    record {
      clients = i.clients;
      sessions = sessions_more _ _ c.loop-client.client _ _ _ c.new-session.result i.sessions (search rules) c.new-session.ensures.part c.new-session.ensures.client c.new-session.ensures.before c.new-session.ensures.said c.new-session.ensures.seen c.new-session.ensures.free c.new-session.ensures.room c.new-session.ensures.passes c.new-session.ensures.copies c.new-session.ensures.places (add-one c.loop-client.client);
      rings = ap (drop 1) (sym c.in-Some.ensures.items ∙ i.rings ∙ drop_more c.args.producers.items c.loop-client.client c.in-Some.producer (omega (arith, c.loop-client-test.true, c.loop-client.invariant.clients, c.requires.count)));
      board = more.name ∙ i.board;
      lines = omega (arith, counted, i.lines);
      blank = subst IsBlank (sym more.lists) (blank_more _ i.blank);
      seen = c.write.ensures.name ∙ c.line-saw.ensures.name ∙ i.seen;
      shown = all_shown _ _ _ _ _ _ _ i.shown c.line-saw.ensures c.write.ensures c.requires.past;
      count = omega (arith, c.push_reserved.ensures.len, i.count);
      room = omega (arith, i.room, c.push_reserved.ensures.capacity);
    }

pub returns-clause-sessions : goal.returns-clause-sessions
returns-clause-sessions g c =
    let all : c.loop-client.client ≡ c.clients-clients.result = omega (arith, c.loop-client-test.false, c.loop-client.auto.client-end) in
    c.loop-client.invariant.sessions ∙ ap (new_sessions_of c.args.part g.N.PartNames.past) (all ∙ c.loop-client.invariant.clients)

pub unreachable-requires : goal.unreachable-requires
unreachable-requires g c =
    let i = c.loop-client.invariant in
    absurd (omega (arith, c.in_default.ensures.cases.0, ap length i.rings, length-drop c.loop-client.client c.args.producers.items, c.loop-client-test.true, c.loop-client.invariant.clients, c.requires.count))

pub push_reserved-requires : goal.push_reserved-requires
push_reserved-requires g c = omega (arith, c.loop-client.invariant.count, c.loop-client.invariant.room, c.loop-client-test.true)
