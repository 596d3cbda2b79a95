use Rattle.bp_trail.proofs.Sentences.{stamps-of, last-is}
use Rattle.bp_trail.proofs.laws.stamps_are_of_the_bursts.Goals as goal

pub returns-clause-stamps : goal.returns-clause-stamps
returns-clause-stamps c = λ p past q place pieces cut. stamps-of p past q pieces cut place

pub returns-clause-last : goal.returns-clause-last
returns-clause-last c = last-is
