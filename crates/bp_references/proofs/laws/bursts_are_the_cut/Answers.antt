use Rattle.bp_references.proofs.CutLaws.{bursts_cut, one_cut}
use Rattle.bp_references.proofs.laws.bursts_are_the_cut.Goals as goal

pub returns-clause-cut : goal.returns-clause-cut
returns-clause-cut c = bursts_cut

pub returns-clause-only : goal.returns-clause-only
returns-clause-only c = one_cut
