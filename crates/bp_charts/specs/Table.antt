-- The table of a sweep: a header, and a line for each pool.
use Rattle.std.specs.Prelude.{ℕ, List, [], ◌∷◌, ◌++◌, codes, Option, Some, None}
use Rattle.std.specs.Fmt.{decimal}
use Rattle.bp_charts.specs.declared.table.Line.{Line}
use Rattle.bp_charts.specs.Ratio.{ratio_text}

abbrev pub header_text : List ℕ
header_text = codes "frames,k,fixes,hits,faults,hit_ratio,evictions,writes,failed,refused\n"

-- the K of LRU-K, or that the line is of the optimum
abbrev pub k_text : Option ℕ → List ℕ
k_text (Some k) = decimal k
k_text None = codes "opt"

-- the counts that both kinds of line have
unfoldable pub counts_text : Line → List ℕ
counts_text l =
    codes "," ++ decimal l.fixes ++ codes "," ++ decimal l.hits ++ codes "," ++ decimal l.faults
    ++ codes "," ++ ratio_text l.hits l.fixes ++ codes "," ++ decimal l.evictions

-- what was written and failed, and what was refused, of which the optimum has nothing
abbrev pub rest_text : Line → Option ℕ → List ℕ
rest_text l (Some k) =
    codes "," ++ decimal l.writes ++ codes "," ++ decimal l.failed ++ codes "," ++ decimal l.refused
    ++ codes "\n"
rest_text l None = codes ",,,\n"

unfoldable pub line_text : Line → List ℕ
line_text l = decimal l.frames ++ codes "," ++ k_text l.k ++ counts_text l ++ rest_text l l.k

unfoldable pub lines_text : List Line → List ℕ
lines_text [] = []
lines_text (l ∷ later) = line_text l ++ lines_text later

abbrev pub table_text : List Line → List ℕ
table_text lines = header_text ++ lines_text lines
