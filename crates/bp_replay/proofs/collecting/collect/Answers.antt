-- One client after the other.
use Rattle.std.proofs.Common.{◌≡◌, ◌∙◌, ap, sym, [], map, rules}
use Rattle.std.proofs.lemmas.List.{length-map}
use Rattle.std.proofs.lemmas.List.Elements.{All-head, All-tail, All-same}
use Rattle.std.specs.Vec.Iter.{into_iter_items}
use Rattle.bp_replay.specs.Players.{left_value}
use Rattle.bp_replay.proofs.Adding.{one_more, all_added}
use Rattle.bp_replay.proofs.collecting.collect.Goals as goal

pub loop-one-preserved : goal.loop-one-preserved
loop-one-preserved g c =
    let next = c.in-Some.ensures.steps.0 in
    record {
      so_far = one_more _ _ _ (left_value c.in-Some.one) _ _ _ _ _ _ c.loop-one.invariant.so_far (ap (map left_value) next) c.in_ok-add_left.ensures.said c.in_ok-add_left.ensures.refused c.in_ok-add_left.ensures.ports;
      uncut = All-tail (λ one. one.book.before ≡ []) c.in-Some.one _ (All-same (λ one. one.book.before ≡ []) _ _ (sym next) c.loop-one.invariant.uncut);
    }

pub add_left-requires : goal.add_left-requires
add_left-requires g c = record { uncut = All-head (λ one. one.book.before ≡ []) c.in-Some.one _ (All-same (λ one. one.book.before ≡ []) _ _ (sym c.in-Some.ensures.steps.0) c.loop-one.invariant.uncut) }

pub returns-clause-collected : goal.returns-clause-collected
returns-clause-collected g c = all_added _ _ _ _ _ c.loop-one.invariant.so_far (length-map (into_iter_items c.loop-one.one-iterator) left_value ∙ search (rules, c.in-None.ensures.steps))
