use Rattle.std.proofs.Common.{[], ◌∷◌, true, refl, length, length-append, reverse, ◌∙◌, ap, arith}
use Rattle.bp_trail.proofs.Counting.{reverse-push}
use Rattle.bp_frames.specs.declared.grant_list.Slot.{Slot}
use Rattle.bp_frames.specs.GrantLists.{Given, grants_out}
use Rattle.bp_frames.proofs.Outstanding.{length-out, out-append}
use Rattle.bp_frames.proofs.grant_list.GrantList.add.Goals as goal

pub overflow_add-self : goal.overflow_add-self
overflow_add-self c =
    let slots = c.self.inside.slots in
    omega (arith, c.self.invariant.1, length-out slots.items, slots.ok.0, c.push_back_reserved.ensures.len)

pub invariant_of-self : goal.invariant_of-self
invariant_of-self c =
    let items = c.self.inside.slots.items in
    let slot : Slot = record { grant = c.args.grant; is_out = true } in
    rw c.push_back_reserved.ensures.items (
      c.rises_with-self-inside.ensures slot refl,
      omega (arith, c.self.invariant.1, ap length (out-append items (slot ∷ [])), length-append (grants_out items) (slot.grant ∷ [])),
    )

pub returns-clause-out : goal.returns-clause-out
returns-clause-out c =
    let items = c.self.inside.slots.items in
    let slot : Slot = record { grant = c.args.grant; is_out = true } in
    ap (λ ss. reverse (grants_out ss)) c.push_back_reserved.ensures.items ∙ ap reverse (out-append items (slot ∷ [])) ∙ reverse-push (grants_out items) slot.grant
    ∙ ap (λ (v : Given). c.args.grant ∷ v.out) c.self.view_is
