use Rattle.bp_trail.proofs.SecondFix.{ends-cleaned, cleaned-loads}
use Rattle.bp_trail.proofs.laws.saved_victim_leaves_at_the_next_fix.Goals as goal

pub returns-clause-ends : goal.returns-clause-ends
returns-clause-ends c = λ p past client t q v image. ends-cleaned p past client q t v image

pub returns-clause-loads : goal.returns-clause-loads
returns-clause-loads c = λ p past client t q v image legal is. cleaned-loads p past client q t v image legal is
