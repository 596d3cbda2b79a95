-- The grid lines and numbers of the axes.
use Rattle.std.specs.Prelude.{ℕ, suc, zero, ◌+◌, ◌*◌, ◌/◌, ◌%◌, ◌^◌, max, nat_le, if◌then◌else◌, List, [], ◌++◌, codes}
use Rattle.std.specs.Fmt.{decimal}
use Rattle.bp_charts.specs.declared.scale.Scale.{Scale}
use Rattle.bp_charts.specs.Places.{down_of}

-- how many hundredths lie between two grid lines of hit ratios
abbrev pub step_of : ℕ → ℕ
step_of tenths = if nat_le tenths 2 then max tenths 1 else if nat_le tenths 5 then 5 else 10

-- the grid line of a hit ratio of so many hundredths, and the ratio
unfoldable pub ratio_line_text : ℕ → ℕ → List ℕ
ratio_line_text down hundredths =
    codes "<path class='grid' d='M800 " ++ (decimal down
    ++ (codes "h6400'/><text class='left' x='720' y='" ++ (decimal down
    ++ (codes "' dy='45'>" ++ (decimal (hundredths / 100) ++ (codes "."
    ++ (decimal (hundredths / 10 % 10) ++ (decimal (hundredths % 10) ++ codes "</text>\n"))))))))

-- so many hundredths have the grid line after so many
abbrev pub ratio_at : Scale → ℕ → ℕ
ratio_at s line = 10 * s.from + line * step_of s.tenths

-- how many grid lines of hit ratios come after the first
abbrev pub last_line : Scale → ℕ
last_line s = 10 * s.tenths / step_of s.tenths

-- the first so many: each where a point with so many hits of a hundred fixes stands
unfoldable pub ratio_lines_text : Scale → ℕ → List ℕ
ratio_lines_text s zero = []
ratio_lines_text s (suc line) =
    ratio_lines_text s line ++ ratio_line_text (down_of s (ratio_at s line) 100) (ratio_at s line)

-- how far right the axis is after so many doublings
abbrev pub tick_at : Scale → ℕ → ℕ
tick_at s step = 800 + 6400 * step / s.doublings

-- the grid line of so many frames, and the number
unfoldable pub tick_text : ℕ → ℕ → List ℕ
tick_text right frames =
    codes "<path class='grid' d='M" ++ (decimal right
    ++ (codes " 400v4000'/><text class='middle small' x='" ++ (decimal right
    ++ (codes "' y='4600'>" ++ (decimal frames ++ codes "</text>\n")))))

-- the first so many
unfoldable pub ticks_text : Scale → ℕ → List ℕ
ticks_text s zero = []
ticks_text s (suc step) = ticks_text s step ++ tick_text (tick_at s step) (2 ^ (s.low + step))
