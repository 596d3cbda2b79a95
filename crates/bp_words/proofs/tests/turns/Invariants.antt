use Rattle.std.proofs.Common.{◌≡◌}
use Rattle.bp_words.proofs.tests.turns.Given as goal

abbrev pub invariant-loop : goal.invariant-loop
invariant-loop l = l.keeper.frame ≡ l.fn.frame
