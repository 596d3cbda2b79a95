-- The pass is the newest of its key.
use Rattle.std.proofs.Common.{◌≡◌, [], ◌∷◌, ◌++◌, true, Some, sym, ap, subst, ◌∙◌, arith, length, if◌then◌else◌}
use Rattle.std.proofs.lemmas.List.{length-reverse}
use Rattle.std.specs.Prelude.{reverse}
use Rattle.std.specs.HashMap.{get}
use Rattle.bp_scripts.specs.Script.{is_pass_of}
use Rattle.bp_trail.proofs.Counting.{reverse-push}
use Rattle.bp_replay.specs.declared.held_list.Slot.{Slot}
use Rattle.bp_replay.specs.HeldLists.{HeldValue, AreLinked, newest_of, passes_in, same_key}
use Rattle.bp_replay.proofs.HeldSlots.{passes-append}
use Rattle.bp_replay.proofs.held_list.HeldList.push.Goals as goal

pub invariant_of-self : goal.invariant_of-self
invariant_of-self c =
    let items = c.self.inside.slots.items in
    let slot : Slot = record { note = c.args.note; is_held = true; previous = c.in-Ok.previous } in
    let turned = ap reverse c.push_reserved.ensures.items ∙ reverse-push items slot in
    let count : c.len-place.result ≡ length (reverse items) = omega (arith, c.len-place.ensures, c.self.inside.slots.ok, length-reverse items) in (
      subst AreLinked (sym turned) (λ held. c.in-Ok.ensures.old ∙ ap (get same_key c.self.inside.latest) c.key_of.ensures ∙ c.self.invariant.1 (c.args.note.client, c.args.note.page), c.self.invariant.0),
      λ q. c.in-Ok.ensures.updates.0 q ∙ ap (λ k. if same_key k q then Some c.len-place.result else get same_key c.self.inside.latest q) c.key_of.ensures
          ∙ ap (λ n. if is_pass_of q.0 q.1 c.args.note then Some n else get same_key c.self.inside.latest q) count
          ∙ ap (λ o. if is_pass_of q.0 q.1 c.args.note then Some (length (reverse items)) else o) (c.self.invariant.1 q)
          ∙ ap (newest_of q) (sym turned),
    )

pub returns-clause-passes : goal.returns-clause-passes
returns-clause-passes c =
    let items = c.self.inside.slots.items in
    let slot : Slot = record { note = c.args.note; is_held = true; previous = c.in-Ok.previous } in
    ap passes_in c.push_reserved.ensures.items ∙ passes-append items (slot ∷ []) ∙ ap (λ (v : HeldValue). v.passes ++ c.args.note ∷ []) c.self.view_is
