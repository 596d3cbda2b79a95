use Rattle.bp_shared.proofs.Holding.{held-is-out, held-is-pinned}
use Rattle.bp_shared.proofs.Telling.{listed_told, listed_unfixed}
use Rattle.bp_shared.proofs.laws.held_pages_are_pinned.Goals as goal

pub returns-clause-listed : goal.returns-clause-listed
returns-clause-listed c = λ start past client said list. (listed_told start past client said list, listed_unfixed start past client said list)

pub returns-clause-out : goal.returns-clause-out
returns-clause-out c = held-is-out

pub returns-clause-pinned : goal.returns-clause-pinned
returns-clause-pinned c = held-is-pinned
