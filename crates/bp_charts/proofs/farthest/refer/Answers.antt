-- A reference by its cases.
use Rattle.std.proofs.Common.{◌≡◌, ◌∙◌, ◌+◌, ◌<◌, ◌≤◌, refl, ap, subst, rules, arith, true, false}
use Rattle.std.specs.Ordering.{nat_cmp}
use Rattle.std.specs.BTreeSet.{btree_set_len, contains}
use Rattle.bp_charts.specs.Optimum.{Held, with_one, without_one}
use Rattle.bp_charts.specs.Keys.{keys_of, IsGreatest}
use Rattle.bp_charts.specs.Keys.Steps.{a_hit, a_load, an_exchange}
use Rattle.bp_charts.proofs.Moves.{removes, stays-away, unmoved}
use Rattle.bp_charts.proofs.farthest.refer.Goals as goal

pub returns-then-remove : goal.returns-then-remove
returns-then-remove c =
    let len : btree_set_len c.remove.new.self + 1 ≡ btree_set_len c.args.held.now = search rules in
    let found : contains nat_cmp c.args.held.now c.args.now ≡ true = search rules in
    a_hit found (omega (arith, len)) (c.in_ok-add_key.ensures ∙ ap (with_one c.args.next) (removes c.args.held.now c.remove.new.self c.args.now c.if-remove.ensures.updates len)) refl

pub returns-then-len-frames : goal.returns-then-len-frames
returns-then-len-frames c =
    let same = unmoved c.args.held.now c.remove.new.self c.if-remove.ensures.unchanged in
    let away : contains nat_cmp c.args.held.now c.args.now ≡ false = search rules in
    let room : btree_set_len c.remove.new.self < c.args.frames = search rules in
    a_load away (subst (λ n. n < c.args.frames) (ap (λ (h : Held). h.count) same) room) (c.in_ok-add_key-2.ensures ∙ ap (with_one c.args.next) same) refl

pub add_key-requires-2 : goal.add_key-requires-2
add_key-requires-2 c =
    let same = unmoved c.args.held.now c.remove.new.self c.if-remove.ensures.unchanged in
    record {
      fresh = ap (λ (h : Held). h.has c.args.next) c.drop_last.ensures.2
          ∙ stays-away (keys_of c.remove.new.self) c.drop_last.ensures.0 c.args.next (ap (λ (h : Held). h.has c.args.next) same ∙ c.requires.fresh);
    }

pub returns : goal.returns
returns c =
    let same = unmoved c.args.held.now c.remove.new.self c.if-remove.ensures.unchanged in
    let away : contains nat_cmp c.args.held.now c.args.now ≡ false = search rules in
    let full : c.args.frames ≤ btree_set_len c.remove.new.self = search rules in
    an_exchange c.drop_last.ensures.0 away (subst (λ n. c.args.frames ≤ n) (ap (λ (h : Held). h.count) same) full)
    (subst (λ h. IsGreatest h c.drop_last.ensures.0) same c.drop_last.ensures.1)
    (c.in_ok-add_key-3.ensures ∙ ap (with_one c.args.next) (c.drop_last.ensures.2 ∙ ap (without_one c.drop_last.ensures.0) same)) refl
