use Rattle.std.proofs.Common.{◌≡◌}
use Rattle.bp_frames.specs.GrantLists.{GivesAsMuch}
use Rattle.bp_frames.proofs.grant_list.GrantList.trim_front.Given as goal

abbrev pub invariant-loop : goal.invariant-loop
invariant-loop l = (l.self.out ≡ l.initial.self.out) × GivesAsMuch l.initial.self l.self
