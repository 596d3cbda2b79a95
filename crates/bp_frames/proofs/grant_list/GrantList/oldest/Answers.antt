use Rattle.std.proofs.Common.{◌<◌, arith, ap, sym, ◌∙◌, length, reverse, Some, slice_get}
use Rattle.std.proofs.lemmas.List.{reverse-reverse}
use Rattle.bp_frames.specs.declared.grant_list.Slot.{Slot}
use Rattle.bp_frames.specs.GrantLists.{Given, grants_out}
use Rattle.bp_frames.proofs.Outstanding.{oldest-is, none-out}
use Rattle.bp_frames.proofs.grant_list.GrantList.oldest.Goals as goal

pub returns-then-first-len : goal.returns-then-first-len
returns-then-first-len c =
    let items = c.self.inside.slots.items in
    let starts = c.first_out-first.ensures in
    let lt : c.first_out-first.result < length items = omega (arith, c.if-first-len.true, c.len.ensures, c.self.inside.slots.ok.0) in
    ap (λ (s : Slot). Some s.grant) c.index.ensures
    ∙ sym (oldest-is items c.first_out-first.result c.index.result.now lt starts.left (starts.out c.index.result.now lt))
    ∙ ap (λ gs. slice_get gs 0) (sym (reverse-reverse (grants_out items)))
    ∙ ap (λ (v : Given). slice_get (reverse v.out) 0) c.self.view_is

pub returns-else-first-len : goal.returns-else-first-len
returns-else-first-len c =
    let items = c.self.inside.slots.items in
    ap (λ gs. slice_get gs 0) (sym (none-out items (λ k d lt. c.first_out-first.ensures.left k d (omega (arith, lt, c.if-first-len.false, c.len.ensures, c.self.inside.slots.ok.0)))))
    ∙ ap (λ gs. slice_get gs 0) (sym (reverse-reverse (grants_out items)))
    ∙ ap (λ (v : Given). slice_get (reverse v.out) 0) c.self.view_is
