use Rattle.std.proofs.Common.{◌≡◌, ℕ, List, suc, true, false, length, get_or, set, filter, ◌∙◌, sym, ap, refl, arith}
use Rattle.std.specs.Prelude.{not, ◌==◌}
use Rattle.std.proofs.lemmas.Bool.{and_parts}
use Rattle.bp_trail.specs.Event.{Grant, grant}
use Rattle.bp_trail.specs.Legal.{is_out}
use Rattle.bp_frames.specs.declared.grant_list.Slot.{Slot}
use Rattle.bp_frames.specs.GrantLists.{Given, grants_out}
use Rattle.bp_frames.specs.Rising.{StandsAt}
use Rattle.bp_frames.proofs.Rising.{rising-set}
use Rattle.bp_frames.proofs.Outstanding.{out-read, out-nowhere, rest-marked, fewer-marked, above-set}
use Rattle.bp_frames.proofs.grant_list.GrantList.mark.Goals as goal

pub returns-in_default-clause-was : goal.returns-in_default-clause-was
returns-in_default-clause-was c =
    sym (out-nowhere c.args.client c.args.page c.args.serial c.self.inside.slots.items c.in_default.ensures) ∙ ap (λ v. is_out (grant c.args.client c.args.page c.args.serial) v.out) c.self.view_is

pub returns-then-not-is_out_as-clause-was : goal.returns-then-not-is_out_as-clause-was
returns-then-not-is_out_as-clause-was c =
    sym c.if-not-is_out_as.true
    ∙ out-read c.args.client c.args.page c.args.serial c.self.inside.slots.items c.in-Some.place c.index.result.now c.in-Some.ensures c.index.ensures c.is_out_as.result c.is_out_as.ensures
    ∙ ap (λ v. is_out (grant c.args.client c.args.page c.args.serial) v.out) c.self.view_is

pub returns-clause-was : goal.returns-clause-was
returns-clause-was c =
    sym c.if-not-is_out_as.false
    ∙ out-read c.args.client c.args.page c.args.serial c.self.inside.slots.items c.in-Some.place c.index.result.now c.in-Some.ensures c.index.ensures c.is_out_as.result c.is_out_as.ensures
    ∙ ap (λ v. is_out (grant c.args.client c.args.page c.args.serial) v.out) c.self.view_is

module _ (items : List Slot) (n at : ℕ) (stands : StandsAt (λ (s : Slot). s.grant.serial) items n at) (read : Slot) (is : read ≡ get_or items at read) where
  abbrev left : Slot
  left = record { grant = read.grant; is_out = false }

  numbered : (d : Slot) → (get_or items at d).grant.serial ≡ read.grant.serial
  numbered d = stands.here d ∙ sym (stands.here read) ∙ ap (λ (s : Slot). s.grant.serial) (sym is)

  fewer : (was : Slot) → was ≡ get_or items at was → was.is_out ≡ true → suc (length (grants_out (set items at left))) ≡ length (grants_out items)
  fewer was was_is out = fewer-marked items at left was refl stands.in_range (ap (λ (s : Slot). s.is_out) (sym was_is) ∙ out)

pub overflow_sub-self : goal.overflow_sub-self
overflow_sub-self c =
    let items = c.self.inside.slots.items in
    omega (arith, c.self.invariant.1, fewer items c.args.serial c.in-Some.place c.in-Some.ensures c.index_mut.result.now c.index_mut.ensures.value c.index.result.now c.index.ensures (and_parts _ _ (sym c.is_out_as.ensures ∙ c.if-not-is_out_as.false)).0)

pub invariant_of-self : goal.invariant_of-self
invariant_of-self c =
    let items = c.self.inside.slots.items in
    let slot = left items c.args.serial c.in-Some.place c.in-Some.ensures c.index_mut.result.now c.index_mut.ensures.value in (
      λ rises. rising-set (λ (s : Slot). s.grant.serial) items c.in-Some.place slot c.in-Some.ensures.in_range (numbered items c.args.serial c.in-Some.place c.in-Some.ensures c.index_mut.result.now c.index_mut.ensures.value) (c.self.invariant.0 rises),
      omega (arith, c.self.invariant.1, fewer items c.args.serial c.in-Some.place c.in-Some.ensures c.index_mut.result.now c.index_mut.ensures.value c.index.result.now c.index.ensures (and_parts _ _ (sym c.is_out_as.ensures ∙ c.if-not-is_out_as.false)).0),
    )

pub returns-clause-out : goal.returns-clause-out
returns-clause-out c out =
    let items = c.self.inside.slots.items in
    let slot = left items c.args.serial c.in-Some.place c.in-Some.ensures c.index_mut.result.now c.index_mut.ensures.value in
    rest-marked c.args.serial items c.in-Some.place slot refl c.in-Some.ensures ∙ ap (λ (v : Given). filter (λ (g : Grant). not (g.serial == c.args.serial)) v.out) c.self.view_is

pub returns-clause-more : goal.returns-clause-more
returns-clause-more c =
    let items = c.self.inside.slots.items in
    let slot = left items c.args.serial c.in-Some.place c.in-Some.ensures c.index_mut.result.now c.index_mut.ensures.value in
    record {
      room = omega (arith, ap (λ (v : Given). v.room) c.self.view_is);
      next = omega (arith, ap (λ (v : Given). v.next) c.self.view_is, above-set items c.in-Some.place slot c.in-Some.ensures.in_range (numbered items c.args.serial c.in-Some.place c.in-Some.ensures c.index_mut.result.now c.index_mut.ensures.value));
    }
