-- Where the points of a chart stand, and the text that says so.
use Rattle.std.specs.Prelude.{ℕ, ◌+◌, ◌-◌, ◌*◌, ◌/◌, ◌^◌, min, max, List, ◌++◌, codes}
use Rattle.std.specs.Fmt.{decimal}
use Rattle.bp_charts.specs.declared.curves.Point.{Point}
use Rattle.bp_charts.specs.declared.scale.Scale.{Scale}
use Rattle.bp_charts.specs.declared.places.Place.{Place}
use Rattle.bp_charts.specs.Scale.{halvings}

-- how far right so many frames stand: 800 is where the axis begins, and 6400 its width. A doubling
-- from 2 ^ h frames on has 2 ^ h parts, one for each frame that it adds
abbrev pub right_of : Scale → ℕ → ℕ
right_of s frames =
    800 + 6400 * ((halvings frames - s.low) * 2 ^ halvings frames + (frames - 2 ^ halvings frames))
    / (s.doublings * 2 ^ halvings frames)

-- how far down the ratio of so many hits to so many fixes stands: that with which the axis begins at
-- 4400, and that with which it ends, or a greater one, higher by 4000
abbrev pub down_of : Scale → ℕ → ℕ → ℕ
down_of s hits fixes =
    4400 - 4000 * min (10 * min hits fixes - s.from * max fixes 1) (s.tenths * max fixes 1)
    / (s.tenths * max fixes 1)

abbrev pub place_of : Scale → Point → Place
place_of s p = record { right = right_of s p.frames; down = down_of s p.hits p.fixes }

unfoldable pub place_text : Place → List ℕ
place_text place = decimal place.right ++ codes "," ++ decimal place.down ++ codes " "

-- a circle there, and the point's numbers
unfoldable pub mark_text : Place → Point → List ℕ
mark_text place p =
    codes "<circle cx='" ++ (decimal place.right ++ (codes "' cy='" ++ (decimal place.down
    ++ (codes "' r='40'><title>" ++ (decimal p.frames ++ (codes " frames: " ++ (decimal p.hits
    ++ (codes " hits of " ++ (decimal p.fixes ++ codes " fixes</title></circle>\n")))))))))

-- what a point adds to its line's stroke
abbrev pub stroke_of : Scale → Point → List ℕ
stroke_of s p = place_text (place_of s p)

-- its mark
abbrev pub mark_of : Scale → Point → List ℕ
mark_of s p = mark_text (place_of s p) p
