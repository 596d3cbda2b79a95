-- What a chart's places mean: every point stands within the axes, and the grid lines are numbered
-- rightly.
use Rattle.std.specs.Prelude.{◌≡◌, ℕ, ◌+◌, ◌*◌, ◌^◌, ◌<◌, ◌≤◌, min, max, List, All}
use Rattle.bp_charts.specs.declared.curves.Curve.{Curve}
use Rattle.bp_charts.specs.declared.curves.Point.{Point}
use Rattle.bp_charts.specs.declared.places.Place.{Place}
use Rattle.bp_charts.specs.declared.scale.Scale.{Scale}
use Rattle.bp_charts.specs.Places.{place_of, right_of}
use Rattle.bp_charts.specs.Axis.{tick_at}

pub record IsWithin (place : Place) : Type 0 where
  pub left : 800 ≤ place.right
  pub right : place.right ≤ 7200
  pub top : 400 ≤ place.down
  pub bottom : place.down ≤ 4400

-- the axis of frames goes from no more than the point's to no fewer, that of hit ratios from no
-- greater one to no lesser, and the point stands within the axes
pub record IsOnAxes (s : Scale) (p : Point) : Type 0 where
  pub from : 2 ^ s.low ≤ p.frames
  pub to : p.frames ≤ 2 ^ (s.low + s.doublings)
  pub ratio_from : s.from * max p.fixes 1 ≤ 10 * min p.hits p.fixes
  pub ratio_to : 10 * min p.hits p.fixes ≤ (s.from + s.tenths) * max p.fixes 1
  pub within : IsWithin (place_of s p)

-- some frames, and no more than a `usize` tells
pub record HasFrames (p : Point) : Type 0 where
  pub some : 1 ≤ p.frames
  pub few : p.frames < 2 ^ 64

abbrev pub HaveFrames : List Curve → Type 0
HaveFrames lines = All (λ (line : Curve). All HasFrames line.points.items) lines

abbrev pub AreOnAxes : Scale → List Curve → Type 0
AreOnAxes s lines = All (λ (line : Curve). All (IsOnAxes s) line.points.items) lines

-- each grid line stands where points with as many frames do, up to what a `usize` tells
abbrev pub HasItsNumbers : Scale → Type 0
HasItsNumbers s =
    (step : ℕ) → step ≤ s.doublings → s.low + step < 64
    → tick_at s step ≡ right_of s (2 ^ (s.low + step))
