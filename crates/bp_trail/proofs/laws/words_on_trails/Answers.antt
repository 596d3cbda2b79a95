use Rattle.bp_trail.proofs.Elements.{since-lasts, after-last, after-last-only, greatest-is}
use Rattle.bp_trail.proofs.laws.words_on_trails.Goals as goal

pub returns-clause-since : goal.returns-clause-since
returns-clause-since c = since-lasts

pub returns-clause-after_last : goal.returns-clause-after_last
returns-clause-after_last c = after-last-only

pub returns-clause-some_after_last : goal.returns-clause-some_after_last
returns-clause-some_after_last c = after-last

pub returns-clause-greatest : goal.returns-clause-greatest
returns-clause-greatest c = greatest-is
