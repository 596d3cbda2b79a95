-- What tells the lines of a chart apart.
use Rattle.std.specs.Prelude.{ℕ, ◌+◌, ◌*◌, ◌%◌, ◌==◌, if◌then◌else◌, List, ◌++◌, codes}
use Rattle.std.specs.Fmt.{decimal}
use Rattle.bp_charts.specs.declared.curves.Which.{Which}
use Rattle.bp_charts.specs.declared.curves.Which.TheVariants.{K, Optimum}

abbrev pub name_of_k : ℕ → List ℕ
name_of_k k = if k == 1 then codes "K = 1 (LRU)" else codes "K = " ++ decimal k

-- what the legend calls a line
abbrev pub name_text : Which → List ℕ
name_text (K k) = name_of_k k
name_text Optimum = codes "optimum"

-- one of six colours and one of five dashes, so that 30 lines one after the other all differ; the
-- optimum is black
abbrev pub style_text : Which → ℕ → List ℕ
style_text (K k) number =
    codes "<g class='c" ++ decimal (number % 6) ++ codes " d" ++ decimal (number % 5)
    ++ codes "'>\n"
style_text Optimum number = codes "<g class='optimum'>\n"

-- how far down the legend has the line with this number
abbrev pub row_of : ℕ → ℕ
row_of number = 500 + 210 * number

-- a piece of the line there, and the beginning of its name
unfoldable pub sample_text : ℕ → List ℕ
sample_text row =
    codes "<path d='M7450 "
    ++ (decimal row ++ (codes "h600'/><text x='8150' y='" ++ (decimal row ++ codes "' dy='45'>")))

unfoldable pub legend_text : Which → ℕ → List ℕ
legend_text which number =
    sample_text (row_of number) ++ (name_text which ++ codes "</text>\n</g>\n")
