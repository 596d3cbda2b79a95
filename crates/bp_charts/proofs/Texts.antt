-- The text of a line in the order in which its pieces are written, and the lines one after the other.
use Rattle.std.proofs.Common.{◌≡◌, ◌+◌, ◌<◌, ◌++◌, ℕ, List, Option, Some, None, Result, Ok, Err, OnOk, codes, length, drop, get_or, ap, add-one, drop-cons, append_assoc}
use Rattle.std.specs.Fmt.{decimal}
use Rattle.std.specs.Io.KnownBytes.{Appends}
use Rattle.std.proofs.KnownBytes.{Appends-trans}
use Rattle.bp_charts.specs.declared.table.Line.{Line}
use Rattle.bp_charts.specs.Ratio.{ten_thousandths, decimals_text}
use Rattle.bp_charts.specs.Table.{counts_text, line_text, lines_text}

five-columns : (comma fixes hits faults ratio evictions : List ℕ)
    → comma ++ fixes ++ comma ++ hits ++ comma ++ faults ++ comma ++ ratio ++ comma ++ evictions
    ≡ comma ++ (fixes ++ (comma ++ (hits ++ (comma ++ (faults ++ (comma ++ (ratio ++ (comma ++ evictions))))))))
five-columns comma fixes hits faults ratio evictions = simp append_assoc

pub counts_line : (l : Line) (ratio : ℕ) → ratio ≡ ten_thousandths l.hits l.fixes
    → counts_text l ≡ codes "," ++ (decimal l.fixes ++ (codes "," ++ (decimal l.hits ++ (codes "," ++ (decimal l.faults ++ (codes "," ++ (decimals_text ratio ++ (codes "," ++ decimal l.evictions))))))))
unfolding counts_text
counts_line l ratio of_hits =
    rw of_hits (five-columns (codes ",") (decimal l.fixes) (decimal l.hits) (decimal l.faults) (decimals_text (ten_thousandths l.hits l.fixes)) (decimal l.evictions))

pool-columns : (comma frames k counts writes failed refused end : List ℕ)
    → frames ++ comma ++ k ++ counts ++ (comma ++ writes ++ comma ++ failed ++ comma ++ refused ++ end)
    ≡ frames ++ (comma ++ k) ++ counts ++ (comma ++ (writes ++ (comma ++ (failed ++ (comma ++ (refused ++ end))))))
pool-columns comma frames k counts writes failed refused end = simp append_assoc

pub pool_line : (l : Line) (k : ℕ) → l.k ≡ Some k
    → line_text l ≡ decimal l.frames ++ (codes "," ++ decimal k) ++ counts_text l ++ (codes "," ++ (decimal l.writes ++ (codes "," ++ (decimal l.failed ++ (codes "," ++ (decimal l.refused ++ codes "\n"))))))
unfolding line_text counts_text
pool_line l k is = rw is (pool-columns (codes ",") (decimal l.frames) (decimal k) (counts_text l) (decimal l.writes) (decimal l.failed) (decimal l.refused) (codes "\n"))

optimum-columns : (comma frames k counts rest : List ℕ) → frames ++ comma ++ k ++ counts ++ rest ≡ frames ++ (comma ++ k) ++ counts ++ rest
optimum-columns comma frames k counts rest = ap (λ (front : List ℕ). front ++ counts ++ rest) (append_assoc frames comma k)

pub optimum_line : (l : Line) → l.k ≡ None → line_text l ≡ decimal l.frames ++ (codes "," ++ codes "opt") ++ counts_text l ++ codes ",,,\n"
unfolding line_text counts_text
optimum_line l is = rw is (optimum-columns (codes ",") (decimal l.frames) (codes "opt") (counts_text l) (codes ",,,\n"))

pub lines_text-drop : (lines : List Line) (i : ℕ) (d : Line) → i < length lines → lines_text (drop i lines) ≡ line_text (get_or lines i d) ++ lines_text (drop (i + 1) lines)
unfolding lines_text
lines_text-drop lines i d h = rw add-one (ap lines_text (drop-cons lines i d h))

-- a write, and then one that may fail
pub appends_next : {T E : Type 0} (r : Result T E) (a b c : Option (List ℕ)) (xs ys : List ℕ) → Appends a b xs → OnOk r (Appends b c ys) → OnOk r (Appends a c (xs ++ ys))
appends_next (Ok x) a b c xs ys first second = Appends-trans a b c xs ys first second
appends_next (Err x) a b c xs ys first second = tt

-- two writes, and then one that may fail
pub appends_both : {T E : Type 0} (r : Result T E) (a b c d : Option (List ℕ)) (xs ys zs : List ℕ) → Appends a b xs → Appends b c ys → OnOk r (Appends c d zs) → OnOk r (Appends a d (xs ++ ys ++ zs))
appends_both r a b c d xs ys zs first second third = appends_next r a c d (xs ++ ys) zs (Appends-trans a b c xs ys first second) third
