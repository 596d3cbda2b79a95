-- The names of a picture's lines, one after the other.
use Rattle.std.proofs.Common.{◌≡◌, ◌∙◌, ℕ, suc, ◌+◌, List, ◌++◌, sym, ap, arith}
use Rattle.bp_run.specs.Drawing.{if_among, names_up_to}

-- one K more
pub names-next : (ks : List ℕ) (k : ℕ) → names_up_to ks (k + 1) ≡ names_up_to ks k ++ if_among ks (k + 1)
unfolding names_up_to
names-next ks k = let on : k + 1 ≡ suc k = omega arith in ap (names_up_to ks) on ∙ ap (λ n. names_up_to ks k ++ if_among ks n) (sym on)
