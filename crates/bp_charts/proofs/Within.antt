-- Every point of a chart stands within its axes.
use Rattle.std.proofs.Common.{◌≡◌, ℕ, suc, zero, ◌+◌, ◌-◌, ◌*◌, ◌/◌, ◌^◌, ◌<◌, ◌≤◌, min, max, List, [], ◌∷◌, length, get_or, inl, inr, ap, ◌∙◌, arith}
use Rattle.std.specs.List.{fold}
use Rattle.std.proofs.Math.Nat.{div-le_of_le-mul, div-lt_iff_lt-mul, div-mul-le_self, lt-div-mul-add, eq-or-lt_of_le, mul_comm, one-le-pow, pow-le-pow_right, pow-succ'}
use Rattle.std.proofs.lemmas.Nat.{mul-le, row_fits}
use Rattle.bp_charts.specs.declared.curves.Curve.{Curve}
use Rattle.bp_charts.specs.declared.curves.Point.{Point}
use Rattle.bp_charts.specs.declared.scale.Span.{Span}
use Rattle.bp_charts.specs.Scale.{and_line, and_point, halvings, scale_over, span_of}
use Rattle.bp_charts.specs.Within.{AreOnAxes, HasFrames, HaveFrames, IsOnAxes}
use Rattle.bp_charts.proofs.Halvings.{halvings-above, halvings-below, halvings-from, halvings-top}

-- the one span reaches as far as the other
record Reaches (s t : Span) : Type 0 where
  pub least : s.least ≤ t.least
  pub greatest : t.greatest ≤ s.greatest
  pub lowest : s.lowest ≤ t.lowest
  pub highest : t.highest ≤ s.highest

-- ten times as many as the hits, and the fixes, some
abbrev tenfold : Point → ℕ
tenfold p = 10 * min p.hits p.fixes

abbrev some-fixes : Point → ℕ
some-fixes p = max p.fixes 1

record Covers (s : Span) (p : Point) : Type 0 where
  pub least : s.least ≤ p.frames
  pub greatest : p.frames ≤ s.greatest
  pub lowest : s.lowest * some-fixes p ≤ tenfold p
  pub highest : tenfold p ≤ s.highest * some-fixes p

covers-more : (s t : Span) (p : Point) → Reaches s t → Covers t p → Covers s p
covers-more s t p r c =
    let low : s.lowest * some-fixes p ≤ t.lowest * some-fixes p = mul-le s.lowest (some-fixes p) t.lowest (some-fixes p) r.lowest (omega arith) in
    let high : t.highest * some-fixes p ≤ s.highest * some-fixes p = mul-le t.highest (some-fixes p) s.highest (some-fixes p) r.highest (omega arith) in
    record {
      least = omega (arith, r.least, c.least);
      greatest = omega (arith, r.greatest, c.greatest);
      lowest = omega (arith, low, c.lowest);
      highest = omega (arith, high, c.highest);
    }

-- a span covers the point that it was widened by
covers-one : (s : Span) (p : Point) → Covers (and_point s p) p
covers-one s p =
    let f = some-fixes p in
    let n = tenfold p in
    let down : n / f * f ≤ n = div-mul-le_self n f in
    let up : n + f - 1 < (n + f - 1) / f * f + f = lt-div-mul-add {a = n + f - 1} {b = f} (omega arith) in
    let low : min s.lowest (n / f) * f ≤ n / f * f = mul-le (min s.lowest (n / f)) f (n / f) f (omega arith) (omega arith) in
    let high : (n + f - 1) / f * f ≤ max s.highest ((n + f - 1) / f) * f = mul-le ((n + f - 1) / f) f (max s.highest ((n + f - 1) / f)) f (omega arith) (omega arith) in
    record { least = omega arith; greatest = omega arith; lowest = omega (arith, low, down); highest = omega (arith, high, up) }

points-reach : (s : Span) (points : List Point) → Reaches (fold and_point s points) s
points-reach s [] = record { least = omega arith; greatest = omega arith; lowest = omega arith; highest = omega arith }
points-reach s (p ∷ later) =
    let r = points-reach (and_point s p) later in
    record { least = omega (arith, r.least); greatest = omega (arith, r.greatest); lowest = omega (arith, r.lowest); highest = omega (arith, r.highest) }

lines-reach : (s : Span) (lines : List Curve) → Reaches (fold and_line s lines) s
lines-reach s [] = record { least = omega arith; greatest = omega arith; lowest = omega arith; highest = omega arith }
lines-reach s (line ∷ later) =
    let r = lines-reach (and_line s line) later in
    let here = points-reach s line.points.items in
    record {
      least = omega (arith, r.least, here.least);
      greatest = omega (arith, r.greatest, here.greatest);
      lowest = omega (arith, r.lowest, here.lowest);
      highest = omega (arith, r.highest, here.highest);
    }

points-covered : (s : Span) (points : List Point) (i : ℕ) (d : Point) → i < length points → Covers (fold and_point s points) (get_or points i d)
points-covered s [] i d h = absurd (omega arith)
points-covered s (p ∷ later) zero d h =
    covers-more (fold and_point (and_point s p) later) (and_point s p) p (points-reach (and_point s p) later) (covers-one s p)
points-covered s (p ∷ later) (suc i) d h = points-covered (and_point s p) later i d (omega arith)

lines-covered : (s : Span) (lines : List Curve) (k : ℕ) (line : Curve) → k < length lines → (i : ℕ) (d : Point) → i < length (get_or lines k line).points.items
    → Covers (fold and_line s lines) (get_or (get_or lines k line).points.items i d)
lines-covered s [] k line h i d l = absurd (omega arith)
lines-covered s (first ∷ later) zero line h i d l =
    covers-more (fold and_line (and_line s first) later) (and_line s first) (get_or first.points.items i d)
    (lines-reach (and_line s first) later) (points-covered s first.points.items i d l)
lines-covered s (first ∷ later) (suc k) line h i d l = lines-covered (and_line s first) later k line (omega arith) i d l

-- no ratio is above one, nor does a span go beyond
points-tenths : (s : Span) (points : List Point) → s.highest ≤ 10 → (fold and_point s points).highest ≤ 10
points-tenths s [] most = most
points-tenths s (p ∷ later) most =
    let f = some-fixes p in
    let within : tenfold p + f - 1 ≤ f * 10 + f - 1 = omega arith in
    let below : tenfold p + f - 1 < 11 * f = omega arith in
    let less : (tenfold p + f - 1) / f < 11 = (div-lt_iff_lt-mul {k = f} {x = tenfold p + f - 1} {y = 11} (omega arith)).1 below in
    points-tenths (and_point s p) later (omega (arith, most, less))

lines-tenths : (s : Span) (lines : List Curve) → s.highest ≤ 10 → (fold and_line s lines).highest ≤ 10
lines-tenths s [] most = most
lines-tenths s (line ∷ later) most = lines-tenths (and_line s line) later (points-tenths s line.points.items most)

-- the lowest tenth is 9 at most
lines-low : (lines : List Curve) → (span_of lines).lowest ≤ 9
lines-low lines = (lines-reach (record { least = 2 ^ 64 - 1; greatest = 1; lowest = 9; highest = 0 }) lines).lowest

points-few : (s : Span) (points : List Point) → ((i : ℕ) (d : Point) → i < length points → HasFrames (get_or points i d)) → s.greatest < 2 ^ 64
    → (fold and_point s points).greatest < 2 ^ 64
points-few s [] have few = few
points-few s (p ∷ later) have few =
    let here = have 0 p (omega arith) in
    points-few (and_point s p) later (λ i d h. have (suc i) d (omega arith)) (omega (arith, here.few))

lines-few : (s : Span) (lines : List Curve) → HaveFrames lines → s.greatest < 2 ^ 64 → (fold and_line s lines).greatest < 2 ^ 64
lines-few s [] have few = few
lines-few s (line ∷ later) have few =
    lines-few (and_line s line) later (λ k d h. have (suc k) d (omega arith)) (points-few s line.points.items (have 0 line (omega arith)) few)

share-fits : (w a b : ℕ) → a ≤ b → w * a / b ≤ w
share-fits w a b h =
    let big : w * a ≤ b * w = rw (mul_comm w a) (mul-le a w b w h (omega arith)) in
    div-le_of_le-mul b big

-- the frames alone
record CoversFrames (s : Span) (frames : ℕ) : Type 0 where
  pub least : s.least ≤ frames
  pub greatest : frames ≤ s.greatest

-- past a power of two, frames are less doublings from the axis's beginning than it has
doublings-past : (s : Span) (frames h : ℕ) → CoversFrames s frames → s.greatest < 2 ^ 64 → 2 ^ h < frames → h - (scale_over s).low < (scale_over s).doublings
doublings-past s frames h c few past =
    let some : 0 < s.greatest - 1 = omega (arith, c.greatest, one-le-pow h 2 (omega arith)) in
    let reach : h ≤ halvings (s.greatest - 1) = halvings-from h (s.greatest - 1) (omega (arith, c.greatest)) some (omega arith) in
    omega arith

-- at a power of two they are no more
doublings-at : (s : Span) (frames h : ℕ) → CoversFrames s frames → s.greatest < 2 ^ 64 → 2 ^ h ≡ frames → h - (scale_over s).low ≤ (scale_over s).doublings
doublings-at s frames zero c few is = omega arith
doublings-at s frames (suc h) c few is =
    let twice : 2 ^ suc h ≡ 2 * 2 ^ h = pow-succ' 2 h in
    let past : 2 ^ h < frames = omega (arith, one-le-pow h 2 (omega arith)) in
    let before : h - (scale_over s).low < (scale_over s).doublings = doublings-past s frames h c few past in
    omega arith

-- frames past a power of two, in parts of a doubling
parts-past : (a power d frames : ℕ) → a < d → frames < 2 * power → a * power + (frames - power) ≤ d * power
parts-past a power d frames less below =
    let row : a * power + power ≤ d * power = row_fits a power d power less (omega arith) in
    omega arith

parts-at : (a power d frames : ℕ) → a ≤ d → power ≡ frames → a * power + (frames - power) ≤ d * power
parts-at a power d frames le is =
    let row : a * power ≤ d * power = mul-le a power d power le (omega arith) in
    omega arith

parts-fit : (s : Span) (frames : ℕ) → CoversFrames s frames → 0 < frames → s.greatest < 2 ^ 64
    → (halvings frames - (scale_over s).low) * 2 ^ halvings frames + (frames - 2 ^ halvings frames) ≤ (scale_over s).doublings * 2 ^ halvings frames
parts-fit s frames c some few =
    let h = halvings frames in
    let top = halvings-top frames some (omega (arith, c.greatest)) in
    let next : h + 1 ≡ suc h = omega arith in
    let twice : 2 ^ (h + 1) ≡ 2 * 2 ^ h = ap (λ (k : ℕ). 2 ^ k) next ∙ pow-succ' 2 h in
    let low = (scale_over s).low in
    let d = (scale_over s).doublings in
    elim (eq-or-lt_of_le top.from) as (λ _. (h - low) * 2 ^ h + (frames - 2 ^ h) ≤ d * 2 ^ h) [
      | inl is ↦ parts-at (h - low) (2 ^ h) d frames (doublings-at s frames h c few is) is
      | inr past ↦ parts-past (h - low) (2 ^ h) d frames (doublings-past s frames h c few past) (omega (arith, top.below))
    ]

-- the axis of ratios begins no higher than the point, and ends no lower
ratio-from : (s : Span) (p : Point) → Covers s p → s.lowest ≤ 9 → (scale_over s).from * max p.fixes 1 ≤ 10 * min p.hits p.fixes
ratio-from s p c low = (let is : min s.lowest 9 ≡ s.lowest = omega (arith, low) in rw is c.lowest)

ratio-to : (s : Span) (p : Point) → Covers s p → s.lowest ≤ 9 → s.highest ≤ 10 → 10 * min p.hits p.fixes ≤ ((scale_over s).from + (scale_over s).tenths) * max p.fixes 1
ratio-to s p c low high =
    let f = max p.fixes 1 in
    let reach : s.highest ≤ (scale_over s).from + (scale_over s).tenths = omega (arith, low, high) in
    let more : s.highest * f ≤ ((scale_over s).from + (scale_over s).tenths) * f = mul-le s.highest f ((scale_over s).from + (scale_over s).tenths) f reach (omega arith) in
    omega (arith, c.highest, more)

point-within : (s : Span) (p : Point) → Covers s p → HasFrames p → s.greatest < 2 ^ 64 → s.lowest ≤ 9 → s.highest ≤ 10 → IsOnAxes (scale_over s) p
point-within s p c have few lowest highest =
    let h = halvings p.frames in
    let low = (scale_over s).low in
    let d = (scale_over s).doublings in
    let a = (h - low) * 2 ^ h + (p.frames - 2 ^ h) in
    let b = d * 2 ^ h in
    let frames : CoversFrames s p.frames = record { least = c.least; greatest = c.greatest } in
    let across : 6400 * a / b ≤ 6400 = share-fits 6400 a b (parts-fit s p.frames frames (omega (arith, have.some)) few) in
    let all = (scale_over s).tenths * max p.fixes 1 in
    let part = min (10 * min p.hits p.fixes - (scale_over s).from * max p.fixes 1) all in
    let up : 4000 * part / all ≤ 4000 = share-fits 4000 part all (omega arith) in
    let last = halvings (s.greatest - 1) + 1 in
    let above : s.greatest - 1 < 2 ^ last = halvings-above (s.greatest - 1) (omega arith) in
    let end : 2 ^ last ≤ 2 ^ (low + d) = pow-le-pow_right {n = 2} (omega arith) (omega arith) in
    record {
      from = halvings-below (min s.least s.greatest) p.frames (omega (arith, c.least)) (omega (arith, have.some)) (omega arith);
      to = omega (arith, c.greatest);
      ratio_from = ratio-from s p c lowest;
      ratio_to = ratio-to s p c lowest highest;
      within = record { left = omega arith; right = omega arith; top = omega arith; bottom = omega arith };
    }

pub lines-within : (lines : List Curve) → HaveFrames lines → AreOnAxes (scale_over (span_of lines)) lines
lines-within lines have =
    let start : Span = record { least = 2 ^ 64 - 1; greatest = 1; lowest = 9; highest = 0 } in
    let few : (span_of lines).greatest < 2 ^ 64 = lines-few start lines have (omega arith) in
    let high : (span_of lines).highest ≤ 10 = lines-tenths start lines (omega arith) in
    λ k line h i d l. point-within (span_of lines) (get_or (get_or lines k line).points.items i d) (lines-covered start lines k line h i d l) (have k line h i d l) few (lines-low lines) high
