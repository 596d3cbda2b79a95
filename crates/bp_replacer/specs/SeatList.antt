-- Seats whose candidates stand apart from what tells which of them are empty.
use Rattle.std.specs.Prelude.{Bool, true, false, List, [], ◌∷◌, Option, Some, None}
use Rattle.bp_references.specs.Candidates.{Candidate}

-- the seats by whether each is taken and who stands there then
abbrev pub seated_by : List Bool → List Candidate → List (Option Candidate)
seated_by [] es = []
seated_by (t ∷ ts) [] = []
seated_by (true ∷ ts) (e ∷ es) = Some e ∷ seated_by ts es
seated_by (false ∷ ts) (e ∷ es) = None ∷ seated_by ts es
