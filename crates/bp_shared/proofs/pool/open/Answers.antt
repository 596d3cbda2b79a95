-- The rings are made for so many clients, or refused.
use Rattle.std.proofs.Common.{◌≡◌, arith, refl, sym, ap, ◌∙◌, length, vec_len, Err}
use Rattle.std.proofs.lemmas.List.{length-map}
use Rattle.std.specs.declared.vec.Vec.{Vec}
use Rattle.std.proofs.lemmas.Result.{err_from_is_err_and}
use Rattle.bp_trail.specs.Parameters.{Parameters}
use Rattle.bp_session_log.specs.Rings.{ring_of}
use Rattle.bp_shared.specs.Taking.{PoolRing}
use Rattle.bp_shared.proofs.Working.{why-of}
use Rattle.bp_shared.proofs.pool.open.Goals as goal

long : {T A : Type 0} (v : Vec T A) → length v.items ≡ vec_len v
long v = omega (arith, v.ok)

pub returns-then-len-clients : goal.returns-then-len-clients
returns-then-len-clients g c =
    let is = c.ring.view_is ∙ c.requires.ring in
    let rings = ap (λ (r : PoolRing). r.rings) is in
    let count : length (g.N.PartNames.ring c.args.part).rings ≡ length c.ring.inside.producers.items = ap length (sym rings) ∙ length-map c.ring.inside.producers.items ring_of in
    record { part = tt; sessions = tt; clients = λ not. refl; refused = λ same. absurd (c.if-len-clients.true (c.len.ensures ∙ sym (long c.ring.inside.producers) ∙ sym count ∙ same ∙ sym (c.clients-clients.ensures ∙ ap (λ (p : Parameters). p.clients) c.requires.parameters))) }

pub new_clients-requires-clause-rings : goal.new_clients-requires-clause-rings
new_clients-requires-clause-rings g c = ap (λ (r : PoolRing). r.rings) (c.ring.view_is ∙ c.requires.ring)

pub new_clients-requires-clause-unused : goal.new_clients-requires-clause-unused
new_clients-requires-clause-unused g c = c.ring.invariant.6.unused

pub new_clients-requires-clause-count : goal.new_clients-requires-clause-count
new_clients-requires-clause-count g c = long c.ring.inside.producers ∙ sym c.len.ensures ∙ c.if-len-clients.false ∙ c.clients-clients.ensures ∙ ap (λ (p : Parameters). p.clients) c.requires.parameters

pub new_clients-requires-clause-board : goal.new_clients-requires-clause-board
new_clients-requires-clause-board g c = ap (λ (r : PoolRing). r.board) (c.ring.view_is ∙ c.requires.ring)

pub new_clients-requires-clause-seen : goal.new_clients-requires-clause-seen
new_clients-requires-clause-seen g c = ap (λ (r : PoolRing). r.seen) (c.ring.view_is ∙ c.requires.ring)

pub new_clients-requires-clause-empty : goal.new_clients-requires-clause-empty
new_clients-requires-clause-empty g c = (c.ring.invariant.4, c.ring.invariant.5)

pub returns-in_err-sessions : goal.returns-in_err-sessions
returns-in_err-sessions g c =
    let is = c.ring.view_is ∙ c.requires.ring in
    let rings = ap (λ (r : PoolRing). r.rings) is in
    let count : length (g.N.PartNames.ring c.args.part).rings ≡ length c.ring.inside.producers.items = ap length (sym rings) ∙ length-map c.ring.inside.producers.items ring_of in
    let all : length (g.N.PartNames.ring c.args.part).rings ≡ g.N.PartNames.parameters.clients = count ∙ long c.ring.inside.producers ∙ sym c.len.ensures ∙ c.if-len-clients.false ∙ (c.clients-clients.ensures ∙ ap (λ (p : Parameters). p.clients) c.requires.parameters) in
    let why = err_from_is_err_and c.from_residual.result c.from_residual.ensures.1 in
    rw (why.1 ∙ ap Err (why.2 ∙ ap why-of c.in_err-sessions.ensures.refused)) (record { part = tt; sessions = tt; clients = λ not. absurd (not all); refused = λ same. refl })

pub invariant_of-result : goal.invariant_of-result
invariant_of-result g c =
    let is = c.ring.view_is ∙ c.requires.ring in
    let rings = ap (λ (r : PoolRing). r.rings) is in
    let count : length (g.N.PartNames.ring c.args.part).rings ≡ length c.ring.inside.producers.items = ap length (sym rings) ∙ length-map c.ring.inside.producers.items ring_of in
    let all : length (g.N.PartNames.ring c.args.part).rings ≡ g.N.PartNames.parameters.clients = count ∙ long c.ring.inside.producers ∙ sym c.len.ensures ∙ c.if-len-clients.false ∙ (c.clients-clients.ensures ∙ ap (λ (p : Parameters). p.clients) c.requires.parameters) in
    let made = c.in_ok-sessions.ensures in
    record {
      rings = c.ring.invariant.6.same ∙ rings;
      count = all;
      empty = c.ring.invariant.6.empty;
      trail = ap (λ (r : PoolRing). r.trail) is;
      unused = (c.ring.invariant.1, c.ring.invariant.2);
      taker = (c.ring.invariant.0 ∙ ap (λ (r : PoolRing). r.trail) is, c.ring.invariant.3);
      board_is = (made.board, made.blank);
      seen_is = (made.seen, made.shown);
    }

pub returns : goal.returns
returns g c =
    let is = c.ring.view_is ∙ c.requires.ring in
    let rings = ap (λ (r : PoolRing). r.rings) is in
    let count : length (g.N.PartNames.ring c.args.part).rings ≡ length c.ring.inside.producers.items = ap length (sym rings) ∙ length-map c.ring.inside.producers.items ring_of in
    let all : length (g.N.PartNames.ring c.args.part).rings ≡ g.N.PartNames.parameters.clients = count ∙ long c.ring.inside.producers ∙ sym c.len.ensures ∙ c.if-len-clients.false ∙ (c.clients-clients.ensures ∙ ap (λ (p : Parameters). p.clients) c.requires.parameters) in
    record { part = refl; sessions = c.in_ok-sessions.ensures.sessions; clients = λ not. absurd (not all); refused = λ same. tt }
