use Rattle.bp_scripts.proofs.InPieces.{in_piece}
use Rattle.bp_scripts.proofs.laws.entry_is_in_the_piece_of_its_row.Goals as goal

pub returns : goal.returns
returns c = in_piece
