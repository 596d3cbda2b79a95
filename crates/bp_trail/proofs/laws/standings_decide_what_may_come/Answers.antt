use Rattle.bp_trail.proofs.Cuts.{standing-decides}
use Rattle.bp_trail.proofs.Fresh.{standing-of-empty}
use Rattle.bp_trail.proofs.laws.standings_decide_what_may_come.Goals as goal

pub returns-clause-follows : goal.returns-clause-follows
returns-clause-follows c = standing-decides

pub returns-clause-nowhere : goal.returns-clause-nowhere
returns-clause-nowhere c = standing-of-empty
