-- The lines of a table of cells.
use Rattle.std.specs.Prelude.{◌≡◌, Bool, true, false, ◌==◌, if◌then◌else◌, List, [], ◌∷◌, ◌++◌, flat_map}
use Rattle.bp_charts.specs.declared.curves.Which.{Which}
use Rattle.bp_charts.specs.declared.curves.Which.TheVariants.{K, Optimum}
use Rattle.bp_charts.specs.declared.curves.Point.{Point}
use Rattle.bp_charts.specs.declared.curves.Curve.{Curve}
use Rattle.bp_charts.specs.declared.cells.Cell.{Cell}

-- both name the same line
abbrev pub is_own : Which → Which → Bool
is_own (K k) (K own) = k == own
is_own (K k) Optimum = false
is_own Optimum (K own) = false
is_own Optimum Optimum = true

-- the cell's point, if this line shows it
abbrev pub own_point : Which → Cell → List Point
own_point which cell = if is_own which cell.which then cell.point ∷ [] else []

abbrev pub points_of : Which → List Cell → List Point
points_of which cells = flat_map (own_point which) cells

-- the line has this name, and the points of the cells that it shows, in order
pub record IsLine (cells : List Cell) (which : Which) (line : Curve) : Type 0 where
  pub which_is : line.which ≡ which
  pub points_are : line.points.items ≡ points_of which cells

-- each name has its line, in order
pub data AreLines (cells : List Cell) : List Which → List Curve → Type 0 where
  none : AreLines cells [] []
  one_more : {names : List Which} {lines : List Curve} (which : Which) {line : Curve}
      → AreLines cells names lines → IsLine cells which line
      → AreLines cells (names ++ which ∷ []) (lines ++ line ∷ [])
