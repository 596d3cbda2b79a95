-- One cell after the other, and the plans of a table.
use Rattle.std.proofs.Common.{◌≡◌, sym, ◌∙◌, ap, subst, ℕ, ◌+◌, ◌<◌, arith, suc, List, [], ◌∷◌, ◌++◌, append_assoc, length, length-take, take, drop, drop-cons, get_or}
use Rattle.std.proofs.lemmas.List.{append-nil, take_more, take-append-drop}
use Rattle.bp_charts.specs.declared.table.Line.{Line}
use Rattle.bp_sweep.specs.declared.cells.Plan.{Plan}
use Rattle.bp_sweep.specs.declared.cells.Policy.TheVariants.{LruK}
use Rattle.bp_sweep.specs.declared.cells.CellFault.{CellFault}
use Rattle.bp_sweep.specs.Dense.{Pages}
use Rattle.bp_sweep.specs.Sweeping.{AreCells, IsCell, PlanRefused, SweepRefused, plans_of, plans_with}
use Rattle.bp_sweep.specs.Sweeping.AreCells.{one_more}

-- ---- cells

-- one cell more
pub cell-next : (r : Pages) (plans : List Plan) (k : ℕ) (d : Plan) (lines : List Line) (line : Line) → k < length plans → AreCells r (take k plans) lines → IsCell r (get_or plans k d) line → AreCells r (take (k + 1) plans) (lines ++ line ∷ [])
cell-next r plans k d lines line within so_far cell = subst (λ ps. AreCells r ps (lines ++ line ∷ [])) (sym (take_more plans k d within)) (one_more (get_or plans k d) so_far cell)

-- a cell that was refused
pub cell_refuses : (r : Pages) (plans : List Plan) (k : ℕ) (d : Plan) (lines : List Line) (fault : CellFault) → k < length plans → AreCells r (take k plans) lines → fault.cell ≡ k + 1 → PlanRefused (get_or plans k d) fault.refusal → SweepRefused r plans fault
cell_refuses r plans k d lines fault within so_far at refused = record {
  before = take k plans;
  plan = get_or plans k d;
  after = drop (suc k) plans;
  plans_are = sym (take-append-drop k plans) ∙ ap (λ ps. take k plans ++ ps) (drop-cons plans k d within);
  lines = lines;
  counted = so_far;
  cell_is = omega (arith, at, within, length-take k plans);
  refused = refused;
}

-- a plan where there is none
abbrev pub no_plan : Plan
no_plan = record { frames = 0; policy = LruK 0 0 }

-- ---- the plans of a table

plans-more : (frames : List ℕ) (n : ℕ) (ks : List ℕ) (correlated : ℕ) → plans_of (frames ++ n ∷ []) ks correlated ≡ plans_of frames ks correlated ++ plans_with n ks correlated
plans-more [] n ks correlated = append-nil (plans_with n ks correlated)
plans-more (m ∷ frames) n ks correlated = ap (λ ps. plans_with m ks correlated ++ ps) (plans-more frames n ks correlated) ∙ sym (append_assoc (plans_with m ks correlated) (plans_of frames ks correlated) (plans_with n ks correlated))

-- with the plans of one number of frames more
pub plans-next : (frames : List ℕ) (k : ℕ) (ks : List ℕ) (correlated : ℕ) → k < length frames → plans_of (take (k + 1) frames) ks correlated ≡ plans_of (take k frames) ks correlated ++ plans_with (get_or frames k 0) ks correlated
plans-next frames k ks correlated within = ap (λ fs. plans_of fs ks correlated) (take_more frames k 0 within) ∙ plans-more (take k frames) (get_or frames k 0) ks correlated
