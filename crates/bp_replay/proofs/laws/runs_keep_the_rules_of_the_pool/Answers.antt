-- Each law of legal trails, of the trail of a run.
use Rattle.bp_replay.proofs.Ruling.{rules-kept}
use Rattle.bp_replay.proofs.laws.runs_keep_the_rules_of_the_pool.Goals as goal

pub returns : goal.returns
returns a c trail legal = rules-kept c trail legal
