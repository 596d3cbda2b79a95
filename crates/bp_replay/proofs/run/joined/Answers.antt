-- What was added, with the refused rows put in order. No cut was made, so the trail is all entries.
use Rattle.std.proofs.Common.{◌≡◌, List, [], ◌++◌, reverse, length, arith, rules, refl, sym, ap, ◌∙◌}
use Rattle.std.proofs.lemmas.List.{append-nil, append_cancel_right}
use Rattle.std.proofs.lemmas.List.Sorted.{IsNonDecreasingBy-from_sort_by_key}
use Rattle.bp_trail.specs.declared.entries.Entry.{Entry}
use Rattle.bp_trail.specs.Trail.{Trail}
use Rattle.bp_replay.proofs.Adding.{same_reversed}
use Rattle.bp_replay.proofs.run.joined.Goals as goal

-- what two calls tell of one trail is one
same_told : (a b : List Entry) (before past : Trail) → reverse a ++ before ≡ past → reverse b ++ before ≡ past → a ≡ b
same_told a b before past first second = same_reversed a b (reverse b) (append_cancel_right (reverse a) (reverse b) before (first ∙ sym second)) refl

all_told : (a : List Entry) (before past : Trail) → reverse a ++ before ≡ past → before ≡ [] → past ≡ reverse a
all_told a before past told none = sym told ∙ ap (λ b. reverse a ++ b) none ∙ append-nil (reverse a)

pub returns-clause-own : goal.returns-clause-own
returns-clause-own g c = sym (all_told c.into_trail.result.items c.args.run.core.before c.args.run.core.past c.into_trail.ensures.entries c.requires.uncut.0)

pub returns-clause-room : goal.returns-clause-room
returns-clause-room g c =
    omega (arith, c.trail.ensures.room, c.into_trail.result.ok, ap length (same_told c.trail.result.now c.into_trail.result.items _ _ c.trail.ensures.entries c.into_trail.ensures.entries))

pub returns-clause-joined : goal.returns-clause-joined
returns-clause-joined g c = record {
  one_by_one = c.collect.new.refused.items;
  collected = c.in-Ok.ensures.collected;
  same = c.sort_unstable_by_key.ensures.permutation;
  in_order = IsNonDecreasingBy-from_sort_by_key (λ r. r.row) _ c.sort_unstable_by_key.ensures.sorted (λ a r q k. search rules);
}
