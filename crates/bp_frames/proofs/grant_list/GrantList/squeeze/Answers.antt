use Rattle.std.proofs.Common.{◌≡◌, ap, sym, ◌∙◌, reverse, filter, length, rules, subst, arith}
use Rattle.std.proofs.lemmas.Fn.{filter_same}
use Rattle.bp_frames.specs.declared.grant_list.Slot.{Slot}
use Rattle.bp_frames.specs.GrantLists.{Given, grants_out, above}
use Rattle.bp_frames.specs.Rising.{IsRisingBy}
use Rattle.bp_frames.proofs.Rising.{rising-filter}
use Rattle.bp_frames.proofs.Outstanding.{out-filter, above-filter}
use Rattle.bp_frames.proofs.grant_list.GrantList.squeeze.Goals as goal

kept : (c : goal.After-retain) → c.retain.new.self.items ≡ filter (λ (s : Slot). s.is_out) c.self.inside.slots.items
kept c = filter_same _ (λ (s : Slot). s.is_out) _ (λ x b f k. search rules) _ _ c.retain.ensures.filtered

same : (c : goal.After-retain) → grants_out c.retain.new.self.items ≡ grants_out c.self.inside.slots.items
same c = ap grants_out (kept c) ∙ out-filter c.self.inside.slots.items

pub invariant_of-self : goal.invariant_of-self
invariant_of-self c =
    (λ rises. subst (IsRisingBy (λ (s : Slot). s.grant.serial)) (sym (kept c)) (rising-filter (λ (s : Slot). s.grant.serial) (λ (s : Slot). s.is_out) c.self.inside.slots.items (c.self.invariant.0 rises)), c.self.invariant.1 ∙ ap length (sym (same c)))

pub returns-clause-out : goal.returns-clause-out
returns-clause-out c = ap reverse (same c) ∙ ap (λ (v : Given). v.out) c.self.view_is

pub returns-clause-more : goal.returns-clause-more
returns-clause-more c =
    let slots = c.self.inside.slots in
    record {
      room = omega (arith, ap (λ (v : Given). v.room) c.self.view_is, c.retain.ensures.bound, c.retain.ensures.capacity);
      next = omega (arith, ap (λ (v : Given). v.next) c.self.view_is, ap above (kept c), above-filter (λ (s : Slot). s.is_out) slots.items);
    }
