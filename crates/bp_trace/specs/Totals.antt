-- The lines that say how many replies of each kind a list of entries has.
use Rattle.std.specs.Prelude.{ℕ, List, [], ◌++◌, ◌==◌, if◌then◌else◌, codes}
use Rattle.std.specs.Fmt.{decimal}
use Rattle.bp_trail.specs.declared.totals.Totals.{Totals}

unfoldable pub total_line : List ℕ → ℕ → List ℕ
total_line name n = name ++ codes " " ++ decimal n ++ codes "\n"

-- the line of the discards, which stands only where a page was discarded
unfoldable pub discards_text : ℕ → List ℕ
discards_text n = if n == 0 then [] else total_line (codes "discards") n

-- the lines of the totals
unfoldable pub totals_text : Totals → List ℕ
totals_text t =
    total_line (codes "hits") t.hits
    ++ (total_line (codes "faults") t.faults
    ++ (total_line (codes "evictions") t.evictions
    ++ (total_line (codes "writes") t.writes
    ++ (total_line (codes "failed") t.failed
    ++ (total_line (codes "refused") t.refused
    ++ discards_text t.discards)))))
