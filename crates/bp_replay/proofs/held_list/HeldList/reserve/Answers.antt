-- The slots stay, and the table finds what it found.
use Rattle.std.proofs.Common.{sym, ap, subst, ◌∙◌, reverse}
use Rattle.bp_replay.specs.HeldLists.{AreLinked, newest_of}
use Rattle.bp_replay.proofs.held_list.HeldList.reserve.Goals as goal

pub invariant_of-self-2 : goal.invariant_of-self-2
invariant_of-self-2 c = (
  subst (λ slots. AreLinked (reverse slots)) (sym c.reserve.ensures.items) c.self.invariant.0,
  λ k. c.reserve-2.ensures.entries.2 k ∙ c.self.invariant.1 k ∙ ap (λ slots. newest_of k (reverse slots)) (sym c.reserve.ensures.items),
)
