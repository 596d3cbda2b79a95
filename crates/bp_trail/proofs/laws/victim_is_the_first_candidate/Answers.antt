use Rattle.bp_trail.proofs.Distance.{none-farther}
use Rattle.bp_trail.proofs.Sentences.{candidate-decides, victim-first, first-victim, no-candidate, victimless}
use Rattle.bp_trail.proofs.laws.victim_is_the_first_candidate.Goals as goal

pub returns-clause-candidate : goal.returns-clause-candidate
returns-clause-candidate c = candidate-decides

pub returns-clause-found : goal.returns-clause-found
returns-clause-found c = victim-first

pub returns-clause-only : goal.returns-clause-only
returns-clause-only c = first-victim

pub returns-clause-none : goal.returns-clause-none
returns-clause-none c = λ p past q none. no-candidate p past none q

pub returns-clause-no_candidate : goal.returns-clause-no_candidate
returns-clause-no_candidate c = victimless

pub returns-clause-none_farther : goal.returns-clause-none_farther
returns-clause-none_farther c = none-farther
