-- The lines of a table of cells, one cell and one line after the other.
use Rattle.std.proofs.Common.{◌≡◌, ℕ, ◌+◌, ◌<◌, List, [], ◌∷◌, ◌++◌, take, length, get_or, sym, subst}
use Rattle.std.proofs.lemmas.List.{take_more}
use Rattle.bp_charts.specs.declared.curves.Which.{Which}
use Rattle.bp_charts.specs.declared.curves.Curve.{Curve}
use Rattle.bp_charts.specs.declared.cells.Cell.{Cell}
use Rattle.bp_charts.specs.Cells.{AreLines, IsLine, own_point, points_of}
use Rattle.bp_charts.specs.Cells.AreLines.{one_more}
use Rattle.bp_charts.proofs.Writes.{flat_map_next}

pub points-next : (which : Which) (cells : List Cell) (i : ℕ) (d : Cell) → i < length cells
    → points_of which (take i cells) ++ own_point which (get_or cells i d) ≡ points_of which (take (i + 1) cells)
points-next which cells i d h = flat_map_next (own_point which) cells i d h

pub line-next : (cells : List Cell) (names : List Which) (i : ℕ) (d : Which) (lines : List Curve) (line : Curve) → i < length names
    → AreLines cells (take i names) lines → IsLine cells (get_or names i d) line → AreLines cells (take (i + 1) names) (lines ++ line ∷ [])
line-next cells names i d lines line h so_far here =
    subst (λ (ws : List Which). AreLines cells ws (lines ++ line ∷ [])) (sym (take_more names i d h)) (one_more (get_or names i d) so_far here)
