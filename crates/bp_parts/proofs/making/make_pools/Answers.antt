-- One part more.
use Rattle.std.proofs.Common.{◌≡◌, ◌∙◌, ◌≤◌, ap, arith, refl, sym, subst, [], Err, length, vec_len}
use Rattle.std.proofs.lemmas.List.Elements.{All-head, All-tail, All-same}
use Rattle.bp_trail.specs.Clock.{durable}
use Rattle.bp_core.specs.CoreView.{CoreView}
use Rattle.bp_shared.specs.Taking.{PoolRing}
use Rattle.bp_shared.proofs.Working.{why-of}
use Rattle.bp_parts.specs.Logs.{AreEndsFrom}
use Rattle.bp_parts.specs.Making.{AreRows, IsNamed, IsNewCore, new_takers}
use Rattle.bp_parts.specs.Places.{up_to}
use Rattle.bp_parts.proofs.Dealing.{end_is, ends_pushed, taker_is}
use Rattle.bp_parts.proofs.Placing.{from_first, longer, next_is, rest_are, up_to_more}
use Rattle.bp_parts.proofs.making.make_pools.Goals as goal

pub loop-one-preserved : goal.loop-one-preserved
loop-one-preserved g c =
    let i = c.loop-one.invariant in
    let next = c.in-Some.ensures.steps.0 in
    let next_core = c.in-Some-next.ensures.items in
    let own = next_is (IsNamed g.N.PartNames.mark g.N.PartNames.ring g.N.PartNames.parameters.clients) c.loop-one.part _ _ c.in-Some.one i.named next in
    let made = c.in-Ok.ensures in
    record {
      named = rest_are (IsNamed g.N.PartNames.mark g.N.PartNames.ring g.N.PartNames.parameters.clients) c.loop-one.part _ _ c.in-Some.one i.named next;
      counted = omega (arith, i.counted, ap length next);
      new = All-tail (IsNewCore g.N.PartNames.parameters) c.in-Some-next.core _ (All-same (IsNewCore g.N.PartNames.parameters) _ _ (sym next_core) i.new);
      each = omega (arith, i.each, ap length next, ap length next_core);
      parts = up_to_more (λ part. part) c.loop-one.part _ _ _ c.in-Ok.made.0 i.parts c.in-Ok-push.ensures.items made.part refl;
      takers = up_to_more (λ part. record { part = part; past = []; pieces = 0 }) c.loop-one.part _ _ _ c.in-Ok.made.2 i.takers c.in-Ok-push-2.ensures.items (taker_is c.in-Ok.made.2 c.loop-one.part made.taker_part (made.taker ∙ c.requires.new.0) made.pieces) refl;
      ends = ends_pushed g.N.PartNames.mark _ _ c.in-Some.one.end c.loop-one.part i.ends i.as_many c.in-Ok-push-3.ensures.items (end_is c.in-Some.one.end _ _ c.in-Some.one.end_is own.mark_is own.unnamed.unused);
      as_many = longer _ _ c.in-Some.one.end _ i.as_many c.in-Ok-push-3.ensures.items;
      rows = c.in_ok-deal.ensures.dealt;
      clients = c.in_ok-deal.ensures.count ∙ i.clients;
    }

pub loop-one-init : goal.loop-one-init
loop-one-init g c =
    let gives = c.into_iter-one-iterator.ensures.into_iter_gives.0 in
    let cores = c.into_iter-cores.ensures.rest in
    record {
      named = from_first (IsNamed g.N.PartNames.mark g.N.PartNames.ring g.N.PartNames.parameters.clients) _ _ gives c.requires.named;
      counted = omega (arith, ap length gives, c.args.names.ok);
      new = All-same (IsNewCore g.N.PartNames.parameters) _ _ cores c.requires.cores;
      each = omega (arith, ap length cores, ap length gives, c.requires.each, c.args.cores.ok, c.args.names.ok);
      parts = c.new-parts.ensures.items;
      takers = c.new-takers.ensures.items;
      ends = λ i d from below. absurd (omega (arith, below));
      as_many = ap length c.new-ends.ensures.items;
      rows = c.requires.rows;
      clients = c.requires.clients;
    }

pub new_part-made-requires-clause-mark : goal.new_part-made-requires-clause-mark
new_part-made-requires-clause-mark g c = (next_is (IsNamed g.N.PartNames.mark g.N.PartNames.ring g.N.PartNames.parameters.clients) c.loop-one.part _ _ c.in-Some.one c.loop-one.invariant.named c.in-Some.ensures.steps.0).mark_is

pub new_part-made-requires-clause-reader : goal.new_part-made-requires-clause-reader
new_part-made-requires-clause-reader g c = c.in-Some.one.reader_is ∙ (next_is (IsNamed g.N.PartNames.mark g.N.PartNames.ring g.N.PartNames.parameters.clients) c.loop-one.part _ _ c.in-Some.one c.loop-one.invariant.named c.in-Some.ensures.steps.0).mark_is

pub new_part-made-requires-clause-ring : goal.new_part-made-requires-clause-ring
new_part-made-requires-clause-ring g c = (next_is (IsNamed g.N.PartNames.mark g.N.PartNames.ring g.N.PartNames.parameters.clients) c.loop-one.part _ _ c.in-Some.one c.loop-one.invariant.named c.in-Some.ensures.steps.0).ring_is

pub new_part-made-requires-clause-parameters : goal.new_part-made-requires-clause-parameters
new_part-made-requires-clause-parameters g c = ap (λ (x : CoreView). x.parameters) (All-head (IsNewCore g.N.PartNames.parameters) c.in-Some-next.core _ (All-same (IsNewCore g.N.PartNames.parameters) _ _ (sym c.in-Some-next.ensures.items) c.loop-one.invariant.new))

pub new_part-made-requires-clause-before : goal.new_part-made-requires-clause-before
new_part-made-requires-clause-before g c = ap (λ (x : CoreView). x.before) (All-head (IsNewCore g.N.PartNames.parameters) c.in-Some-next.core _ (All-same (IsNewCore g.N.PartNames.parameters) _ _ (sym c.in-Some-next.ensures.items) c.loop-one.invariant.new)) ∙ sym c.requires.new.0

pub new_part-made-requires-clause-past : goal.new_part-made-requires-clause-past
new_part-made-requires-clause-past g c = ap (λ (x : CoreView). x.past) (All-head (IsNewCore g.N.PartNames.parameters) c.in-Some-next.core _ (All-same (IsNewCore g.N.PartNames.parameters) _ _ (sym c.in-Some-next.ensures.items) c.loop-one.invariant.new)) ∙ sym c.requires.new.1

pub new_part-made-requires-clause-seen : goal.new_part-made-requires-clause-seen
new_part-made-requires-clause-seen g c = subst (λ past. durable past ≤ c.in-Some.one.reader.seen) (sym (ap (λ (x : CoreView). x.past) (All-head (IsNewCore g.N.PartNames.parameters) c.in-Some-next.core _ (All-same (IsNewCore g.N.PartNames.parameters) _ _ (sym c.in-Some-next.ensures.items) c.loop-one.invariant.new)))) (omega arith)

pub returns-in-Err-clause-refused : goal.returns-in-Err-clause-refused
returns-in-Err-clause-refused g c =
    let own = next_is (IsNamed g.N.PartNames.mark g.N.PartNames.ring g.N.PartNames.parameters.clients) c.loop-one.part _ _ c.in-Some.one c.loop-one.invariant.named c.in-Some.ensures.steps.0 in
    let rings = ap (λ (r : PoolRing). length r.rings) (sym own.ring_is) ∙ own.unnamed.rings in
    ap Err (ap why-of (c.in-Err.ensures.refused rings))

pub returns-clause-parts : goal.returns-clause-parts
returns-clause-parts g c =
    let all : c.loop-one.part ≡ vec_len c.args.names = omega (arith, c.loop-one.invariant.counted, c.in-None.ensures.steps.0, c.loop-one.one-iterator.rest.ok) in
    c.loop-one.invariant.parts ∙ ap (up_to (λ part. part)) all

pub returns-clause-takers : goal.returns-clause-takers
returns-clause-takers g c =
    let all : c.loop-one.part ≡ vec_len c.args.names = omega (arith, c.loop-one.invariant.counted, c.in-None.ensures.steps.0, c.loop-one.one-iterator.rest.ok) in
    c.loop-one.invariant.takers ∙ ap new_takers all

pub returns-clause-ends : goal.returns-clause-ends
returns-clause-ends g c = subst (λ n. AreEndsFrom g.N.PartNames.mark 0 0 n c.loop-one.ends.items) (sym c.loop-one.invariant.as_many) c.loop-one.invariant.ends

pub returns-clause-rows : goal.returns-clause-rows
returns-clause-rows g c =
    let all : c.loop-one.part ≡ vec_len c.args.names = omega (arith, c.loop-one.invariant.counted, c.in-None.ensures.steps.0, c.loop-one.one-iterator.rest.ok) in
    subst (λ n. AreRows n c.loop-one.rows.items) all c.loop-one.invariant.rows
