-- No slot is there, and the table leads nowhere.
use Rattle.std.proofs.Common.{sym, ap, subst, ◌∙◌, reverse}
use Rattle.std.specs.Map.{lookup}
use Rattle.bp_replay.specs.HeldLists.{AreLinked, newest_of, same_key}
use Rattle.bp_replay.proofs.held_list.HeldList.new.Goals as goal

pub invariant_of-result : goal.invariant_of-result
invariant_of-result c =
    let none = c.new.ensures.items in (
      subst (λ slots. AreLinked (reverse slots)) (sym none) tt,
      λ k. ap (lookup (same_key k)) c.new-2.ensures.empty ∙ ap (λ slots. newest_of k (reverse slots)) (sym none),
    )
