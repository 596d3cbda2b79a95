use Rattle.bp_scripts.proofs.InPieces.{bounded_by_its_row}
use Rattle.bp_scripts.proofs.laws.marks_are_bounded_row_by_row.Goals as goal

pub returns : goal.returns
returns c = bounded_by_its_row
