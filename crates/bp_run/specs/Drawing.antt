-- The picture of a sweep's table.
use Rattle.std.specs.Prelude.{◌≡◌, ℕ, zero, suc, nat_eq, if◌then◌else◌, Bool, true, false, List, [], ◌∷◌, ◌++◌, map, Option, Some, None}
use Rattle.std.specs.List.{list_any}
use Rattle.std.specs.List.Sorted.{IsNonDecreasingBy, IsPermutation}
use Rattle.clap.specs.Words.{Text}
use Rattle.bp_charts.specs.declared.cells.Cell.{Cell}
use Rattle.bp_charts.specs.declared.curves.Curve.{Curve as Drawn}
use Rattle.bp_charts.specs.declared.curves.Which.{Which}
use Rattle.bp_charts.specs.declared.curves.Which.TheVariants.{K, Optimum}
use Rattle.bp_charts.specs.Cells.{AreLines}
use Rattle.bp_charts.specs.Chart.{chart_text}
use Rattle.bp_charts.specs.declared.table.Line.{Line}

-- which line of the picture shows a pool with this K, or the optimum
abbrev pub which_of : Option ℕ → Which
which_of (Some k) = K k
which_of None = Optimum

-- what the picture shows of a line of the table
abbrev pub cell_of : Line → Cell
cell_of line =
    record {
      which = which_of line.k;
      point = record { frames = line.frames; hits = line.hits; fixes = line.fixes };
    }

-- the cells are those of the table, by growing frames
pub record AreShown (table : List Line) (cells : List Cell) : Type 0 where
  pub same : IsPermutation (map cell_of table) cells
  pub growing : IsNonDecreasingBy (λ cell. cell.point.frames) cells

-- this K, if it is among these
abbrev pub if_among : List ℕ → ℕ → List Which
if_among ks k = if list_any (λ other. nat_eq other k) ks then K k ∷ [] else []

-- each K from 1 up to this one that is among these, once
unfoldable pub names_up_to : List ℕ → ℕ → List Which
names_up_to ks zero = []
names_up_to ks (suc k) = names_up_to ks k ++ if_among ks (suc k)

-- a line for each K, the least first, and one for the optimum
abbrev pub names_of : List ℕ → List Which
names_of ks = names_up_to ks 16 ++ Optimum ∷ []

-- the bytes are those of the chart of the table's cells
pub record Pictures (ks : List ℕ) (table : List Line) (bytes : List ℕ) : Type 0 where
  pub cells : List Cell
  pub shown : AreShown table cells
  pub lines : List Drawn
  pub drawn : AreLines cells (names_of ks) lines
  pub bytes_are : bytes ≡ chart_text lines

-- where a picture is asked for, its bytes were written to its path
abbrev pub IsDrawn : (Text → List ℕ → Bool → Type 0) → Option Text → List ℕ → List Line → Type 0
IsDrawn saves None ks table = Unit {0}
IsDrawn saves (Some path) ks table =
    (bytes : List ℕ) × Pictures ks table bytes × saves path bytes true

-- a picture is asked for, and writing its bytes to its path failed
abbrev pub FailsToDraw : (Text → List ℕ → Bool → Type 0) → Option Text → List ℕ → List Line → Type 0
FailsToDraw saves None ks table = ⊥
FailsToDraw saves (Some path) ks table =
    (bytes : List ℕ) × Pictures ks table bytes × saves path bytes false
