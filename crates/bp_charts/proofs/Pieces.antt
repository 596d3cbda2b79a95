-- The lines and the grid lines of a chart, one after the other.
use Rattle.std.proofs.Common.{◌≡◌, ◌∙◌, ℕ, suc, ◌+◌, ◌^◌, ◌<◌, List, ◌∷◌, ◌++◌, length, drop, get_or, sym, ap, arith, add-one, drop-cons}
use Rattle.bp_charts.specs.declared.curves.Curve.{Curve}
use Rattle.bp_charts.specs.declared.scale.Scale.{Scale}
use Rattle.bp_charts.specs.Places.{down_of}
use Rattle.bp_charts.specs.Axis.{ratio_at, ratio_line_text, ratio_lines_text, tick_at, tick_text, ticks_text}
use Rattle.bp_charts.specs.Chart.{line_text, lines_text}

drop-item : {X : Type 0} (xs : List X) (i : ℕ) (x : X) → i < length xs → x ≡ get_or xs i x → drop i xs ≡ x ∷ drop (i + 1) xs
drop-item xs i x h is = rw add-one (drop-cons xs i x h ∙ ap (λ y. y ∷ drop (suc i) xs) (sym is))

pub lines_text-drop : (s : Scale) (n : ℕ) (lines : List Curve) (i : ℕ) (line : Curve) → i < length lines → line ≡ get_or lines i line
    → lines_text s n (drop i lines) ≡ line_text s n line ++ lines_text s (n + 1) (drop (i + 1) lines)
unfolding lines_text
lines_text-drop s n lines i line h is = ap (lines_text s n) (drop-item lines i line h is)

pub ticks_text-next : (s : Scale) (step : ℕ) → ticks_text s (step + 1) ≡ ticks_text s step ++ tick_text (tick_at s step) (2 ^ (s.low + step))
unfolding ticks_text
ticks_text-next s step = let on : step + 1 ≡ suc step = omega arith in ap (ticks_text s) on

pub ratio_lines_text-next : (s : Scale) (n : ℕ) → ratio_lines_text s (n + 1) ≡ ratio_lines_text s n ++ ratio_line_text (down_of s (ratio_at s n) 100) (ratio_at s n)
unfolding ratio_lines_text
ratio_lines_text-next s n = let on : n + 1 ≡ suc n = omega arith in ap (ratio_lines_text s) on
