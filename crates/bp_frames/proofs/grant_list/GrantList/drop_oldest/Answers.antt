use Rattle.std.proofs.Common.{◌≡◌, Some, refl, ap, sym, ◌∙◌}
use Rattle.std.specs.Option.{option_to_list}
use Rattle.std.specs.Prelude.{length}
use Rattle.bp_frames.specs.declared.grant_list.Slot.{Slot}
use Rattle.bp_frames.specs.GrantLists.{grants_out}
use Rattle.bp_frames.proofs.Rising.{rising-rest}
use Rattle.bp_frames.proofs.Outstanding.{front-left}
use Rattle.bp_frames.proofs.grant_list.GrantList.drop_oldest.Goals as goal

same : (c : goal.After-pop_front) → grants_out c.self.inside.slots.items ≡ grants_out c.pop_front.new.self.items
same c =
    let oldest = c.in-Some.oldest.now in
    front-left c.self.inside.slots.items c.pop_front.new.self.items c.pop_front.result oldest c.pop_front.ensures.items (c.pop_front.ensures.value oldest (c.in-Some.ensures.variant.0 refl) ∙ ap Some (sym c.in-Some.ensures.lookup)) c.if-not-oldest.true

pub invariant_of-self : goal.invariant_of-self
invariant_of-self c =
    (λ rises. rising-rest (λ (s : Slot). s.grant.serial) (option_to_list c.pop_front.result) c.pop_front.new.self.items c.self.inside.slots.items c.pop_front.ensures.items (c.self.invariant.0 rises), c.self.invariant.1 ∙ ap length (same c))
