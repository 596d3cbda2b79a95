use Rattle.std.proofs.Common.{reverse, length-append, arith, ◌≡◌, Some, refl, ap, sym, ◌∙◌}
use Rattle.std.specs.Option.{option_to_list}
use Rattle.std.specs.Prelude.{length}
use Rattle.bp_frames.specs.declared.grant_list.Slot.{Slot}
use Rattle.bp_frames.specs.GrantLists.{Given, grants_out, above}
use Rattle.bp_frames.proofs.Rising.{rising-front}
use Rattle.bp_frames.proofs.Outstanding.{back-left, above-append}
use Rattle.bp_frames.proofs.grant_list.GrantList.drop_newest.Goals as goal

same : (c : goal.After-pop_back) → grants_out c.self.inside.slots.items ≡ grants_out c.pop_back.new.self.items
same c =
    let newest = c.in-Some.newest.now in
    back-left c.self.inside.slots.items c.pop_back.new.self.items c.pop_back.result newest c.pop_back.ensures.items (c.pop_back.ensures.value newest (c.in-Some.ensures.variant.0 refl) ∙ ap Some (sym c.in-Some.ensures.lookup)) c.if-not-newest.true

pub invariant_of-self : goal.invariant_of-self
invariant_of-self c =
    (λ rises. rising-front (λ (s : Slot). s.grant.serial) c.pop_back.new.self.items (option_to_list c.pop_back.result) c.self.inside.slots.items c.pop_back.ensures.items (c.self.invariant.0 rises), c.self.invariant.1 ∙ ap length (same c))

pub returns-then-not-newest-clause-out : goal.returns-then-not-newest-clause-out
returns-then-not-newest-clause-out c = ap reverse (sym (same c)) ∙ ap (λ (v : Given). v.out) c.self.view_is

pub returns-then-not-newest-clause-more : goal.returns-then-not-newest-clause-more
returns-then-not-newest-clause-more c =
    let old = c.self.inside.slots in
    let new = c.pop_back.new.self in
    let parts = c.pop_back.ensures.items in
    record {
      room = omega (arith, ap (λ (v : Given). v.room) c.self.view_is, c.pop_back.ensures.capacity, ap length parts, length-append new.items (option_to_list c.pop_back.result), old.ok.0, new.ok.0);
      next = omega (arith, ap (λ (v : Given). v.next) c.self.view_is, ap above parts, above-append new.items (option_to_list c.pop_back.result));
    }
