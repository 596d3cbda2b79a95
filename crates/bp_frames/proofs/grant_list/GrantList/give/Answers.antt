use Rattle.std.proofs.Common.{◌≡◌, ◌+◌, ◌-◌, ◌≤◌, [], ◌∷◌, true, length, length-append, reverse, ◌∙◌, sym, ap, subst, arith}
use Rattle.bp_trail.specs.Event.{grant}
use Rattle.bp_frames.specs.declared.grant_list.Slot.{Slot}
use Rattle.bp_frames.specs.GrantLists.{Given, with_grant, grants_out, above}
use Rattle.std.specs.VecDeque.{deque_len, deque_capacity}
use Rattle.bp_trail.proofs.Counting.{reverse-push}
use Rattle.bp_frames.proofs.Rising.{rising-pushed}
use Rattle.bp_frames.proofs.Outstanding.{length-out, out-append, above-append, below-above}
use Rattle.bp_frames.proofs.grant_list.GrantList.give.Goals as goal

pub overflow_add-self : goal.overflow_add-self
overflow_add-self c =
    let slots = c.self.inside.slots in
    omega (arith, c.self.invariant.1, length-out slots.items, slots.ok.0, c.push_back_reserved.ensures.len)

pub invariant_of-self : goal.invariant_of-self
invariant_of-self c =
    let items = c.self.inside.slots.items in
    let slot : Slot = record { grant = grant c.args.client c.args.page c.args.serial; is_out = true } in
    let newest = subst (λ (v : Given). v.next ≤ c.args.serial) (sym c.self.view_is) c.requires.newest in
    rw c.push_back_reserved.ensures.items (
      λ rises. rising-pushed (λ (s : Slot). s.grant.serial) items (c.self.invariant.0 rises) slot (below-above items c.args.serial newest),
      omega (arith, c.self.invariant.1, ap length (out-append items (slot ∷ [])), length-append (grants_out items) (slot.grant ∷ [])),
    )

pub returns : goal.returns
returns c =
    let items = c.self.inside.slots.items in
    let slot : Slot = record { grant = grant c.args.client c.args.page c.args.serial; is_out = true } in
    let newest = subst (λ (v : Given). v.next ≤ c.args.serial) (sym c.self.view_is) c.requires.newest in
    let out = ap (λ ss. reverse (grants_out ss)) c.push_back_reserved.ensures.items ∙ ap reverse (out-append items (slot ∷ [])) ∙ reverse-push (grants_out items) slot.grant in
    let next : above c.push_back_reserved.new.self.items ≡ c.args.serial + 1 = omega (arith, ap above c.push_back_reserved.ensures.items, above-append items (slot ∷ []), newest) in
    let room : deque_capacity c.push_back_reserved.new.self - deque_len c.push_back_reserved.new.self ≡ deque_capacity c.self.inside.slots - deque_len c.self.inside.slots - 1 = omega (arith, c.push_back_reserved.ensures.len, c.push_back_reserved.ensures.capacity) in
    (λ i. record { out = out i; room = room i; next = next i }) ∙ ap (λ (v : Given). with_grant v c.args.client c.args.page c.args.serial) c.self.view_is
