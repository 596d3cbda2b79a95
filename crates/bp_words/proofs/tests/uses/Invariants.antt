use Rattle.std.proofs.Common.{◌≡◌}
use Rattle.bp_words.proofs.tests.uses.Given as goal

abbrev pub invariant-loop-turn : goal.invariant-loop-turn
invariant-loop-turn l = l.visitor.frame ≡ l.fn.frame
