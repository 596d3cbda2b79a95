use Rattle.std.proofs.Common.{◌≡◌, Bool, true, ap, sym, ◌∙◌, reverse, filter, rules, subst, arith, eqb, ◌&&◌, not}
use Rattle.std.specs.Prelude.{All, ◌==◌}
use Rattle.std.proofs.lemmas.Bool.{and_parts}
use Rattle.std.proofs.lemmas.Fn.{filter_same}
use Rattle.std.proofs.lemmas.List.Elements.{filter_passes}
use Rattle.bp_trail.specs.Event.{Grant}
use Rattle.bp_trail.proofs.Counting.{filter-reverse}
use Rattle.bp_frames.specs.declared.grant_list.Slot.{Slot}
use Rattle.bp_frames.specs.GrantLists.{Given, grants_out, above}
use Rattle.bp_frames.specs.Rising.{IsRisingBy}
use Rattle.bp_frames.proofs.Rising.{rising-filter}
use Rattle.bp_frames.proofs.Outstanding.{out-without, all-out, above-filter}
use Rattle.bp_frames.proofs.grant_list.GrantList.close_each.Goals as goal

abbrev passes : (c : goal.After-self-1) → Slot → Bool
passes c s = s.is_out && not (eqb s.grant.serial c.args.serial)

kept : (c : goal.After-self-1) → c.retain.new.self.items ≡ filter (passes c) c.self.inside.slots.items
kept c = filter_same _ (passes c) _ (λ x b f k. search rules) _ _ c.retain.ensures.filtered

pub invariant_of-self : goal.invariant_of-self
invariant_of-self c =
    let new = c.retain.new.self in
    let all : All (λ (s : Slot). s.is_out ≡ true) new.items =
    subst (All (λ (s : Slot). s.is_out ≡ true)) (sym (kept c)) (λ k d lt. (and_parts _ _ (filter_passes (passes c) c.self.inside.slots.items k d lt)).0) in (
      λ rises. subst (IsRisingBy (λ (s : Slot). s.grant.serial)) (sym (kept c)) (rising-filter (λ (s : Slot). s.grant.serial) (passes c) c.self.inside.slots.items (c.self.invariant.0 rises)),
      omega (arith, c.len-self-inside.ensures, new.ok.0, all-out new.items all),
    )

pub returns-clause-out : goal.returns-clause-out
returns-clause-out c =
    ap (λ ss. reverse (grants_out ss)) (kept c) ∙ ap reverse (out-without c.args.serial c.self.inside.slots.items) ∙ filter-reverse (λ (g : Grant). not (g.serial == c.args.serial)) (grants_out c.self.inside.slots.items)
    ∙ ap (λ (v : Given). filter (λ (g : Grant). not (g.serial == c.args.serial)) v.out) c.self.view_is

pub returns-clause-more : goal.returns-clause-more
returns-clause-more c =
    record {
      room = omega (arith, ap (λ (v : Given). v.room) c.self.view_is, c.retain.ensures.bound, c.retain.ensures.capacity);
      next = omega (arith, ap (λ (v : Given). v.next) c.self.view_is, ap above (kept c), above-filter (passes c) c.self.inside.slots.items);
    }
