-- The axis of frames: from a power of two to a power of two, each doubling as wide. The axis of hit
-- ratios: from a tenth to a tenth.
use Rattle.std.specs.Prelude.{ℕ, ◌+◌, ◌-◌, ◌*◌, ◌/◌, ◌^◌, ◌≤◌, min, max, List, fold}
use Rattle.std.specs.Int.Count.{count_leading_zeros}
use Rattle.bp_charts.specs.declared.curves.Curve.{Curve}
use Rattle.bp_charts.specs.declared.curves.Point.{Point}
use Rattle.bp_charts.specs.declared.scale.Span.{Span}
use Rattle.bp_charts.specs.declared.scale.Scale.{Scale}

-- how often a number can be halved before it is below two
abbrev pub halvings : ℕ → ℕ
halvings n = 63 - count_leading_zeros 64 n

-- the span, with this point in it: its hit ratio lies between two tenths, or at one
abbrev pub and_point : Span → Point → Span
and_point span p = record {
  least = min span.least p.frames;
  greatest = max span.greatest p.frames;
  lowest = min span.lowest (10 * min p.hits p.fixes / max p.fixes 1);
  highest = max span.highest ((10 * min p.hits p.fixes + max p.fixes 1 - 1) / max p.fixes 1);
}

abbrev pub and_line : Span → Curve → Span
and_line span line = fold and_point span line.points.items

-- from the least frames of all points to the greatest, and from the tenth at or below the least ratio,
-- but none above 0.9, to the one at or above the greatest
abbrev pub span_of : List Curve → Span
span_of lines =
    fold and_line (record { least = 2 ^ 64 - 1; greatest = 1; lowest = 9; highest = 0 }) lines

-- from the power of two at or below the least to the one at or above the greatest, and at least one
-- doubling; from tenth to tenth, and at least one
abbrev pub scale_over : Span → Scale
scale_over span = record {
  low = halvings (min span.least span.greatest);
  doublings = max (halvings (span.greatest - 1) + 1 - halvings (min span.least span.greatest)) 1;
  from = min span.lowest 9;
  tenths = max (min span.highest 10 - min span.lowest 9) 1;
}

pub record IsScale (s : Scale) : Type 0 where
  pub low : s.low ≤ 63
  pub some : 1 ≤ s.doublings
  pub few : s.doublings ≤ 64
  pub from : s.from ≤ 9
  pub some_tenths : 1 ≤ s.tenths
  pub to : s.from + s.tenths ≤ 10
