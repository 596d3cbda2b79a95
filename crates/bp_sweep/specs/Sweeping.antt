-- The cells of a sweep, and their table.
use Rattle.std.specs.Prelude.{◌≡◌, ℕ, ◌+◌, ◌^◌, List, [], ◌∷◌, ◌++◌, map, length, Option, Some, None}
use Rattle.bp_page.specs.declared.refusals.Refusal.{Refusal}
use Rattle.bp_page.specs.declared.refusals.Refusal.TheVariants.{BadSettings}
use Rattle.bp_replacer.specs.Limits.{IsWithinLimits}
use Rattle.bp_charts.specs.declared.farthest.Optimum.{Optimum as BestCounts}
use Rattle.bp_charts.specs.Optimum.{IsOptimum}
use Rattle.bp_charts.specs.declared.table.Line.{Line}
use Rattle.bp_trail.specs.declared.totals.Totals.{Totals}
use Rattle.bp_sweep.specs.declared.cells.Plan.{Plan}
use Rattle.bp_sweep.specs.declared.cells.Policy.{Policy}
use Rattle.bp_sweep.specs.declared.cells.Policy.TheVariants.{LruK, Optimum}
use Rattle.bp_sweep.specs.declared.cells.CellFault.{CellFault}
use Rattle.bp_sweep.specs.Dense.{Pages}
use Rattle.bp_sweep.specs.Cells.{Counted, pool_parameters}
use Rattle.bp_sweep.specs.Referring.{AreFrames, EndsCell}

-- the totals of an optimum, which writes nothing out, and of which nothing fails or is refused
abbrev pub best_totals : BestCounts → Totals
best_totals best =
    record {
      hits = best.hits;
      faults = best.faults;
      evictions = best.evictions;
      writes = 0;
      failed = 0;
      refused = 0;
      discards = 0;
    }

-- the totals are those of an optimum of the references over so many frames
abbrev pub CountsBest : ℕ → List ℕ → Totals → Type 0
CountsBest frames pages totals =
    (best : BestCounts) × IsOptimum frames pages best × (totals ≡ best_totals best)

-- the totals are those of a pool with this policy over the references
abbrev pub CountsOf : Pages → ℕ → Policy → Totals → Type 0
CountsOf r frames (LruK k correlated) totals =
    Counted (pool_parameters r.different frames k correlated) r.pages totals
CountsOf r frames Optimum totals = CountsBest frames r.pages totals

-- what a plan may have
abbrev pub IsPolicy : Policy → Type 0
IsPolicy (LruK k correlated) = IsWithinLimits k correlated (2 ^ 62)
IsPolicy Optimum = Unit {0}

abbrev pub IsPlan : Plan → Type 0
IsPlan plan = AreFrames plan.frames × IsPolicy plan.policy

-- a plan was refused: it is out of its limits, or its cell was not counted to its end
abbrev pub PlanRefused : Plan → Refusal → Type 0
PlanRefused plan BadSettings = ¬ IsPlan plan
PlanRefused plan why = EndsCell why

abbrev pub k_of : Policy → Option ℕ
k_of (LruK k correlated) = Some k
k_of Optimum = None

-- the line of a plan in the table, where so many fixes are asked for
abbrev pub line_of : ℕ → Plan → Totals → Line
line_of fixes plan totals = record {
  frames = plan.frames;
  k = k_of plan.policy;
  fixes = fixes;
  hits = totals.hits;
  faults = totals.faults;
  evictions = totals.evictions;
  writes = totals.writes;
  failed = totals.failed;
  refused = totals.refused;
}

-- the line says what the plan's pool counts over the references, where no read failed
pub record IsCell (r : Pages) (plan : Plan) (line : Line) : Type 0 where
  pub totals : Totals
  pub fit : IsPlan plan
  pub counted : CountsOf r plan.frames plan.policy totals
  pub read : totals.failed ≡ 0
  pub line_is : line ≡ line_of (length r.pages) plan totals

-- each plan has the line of its cell, in order
pub data AreCells (r : Pages) : List Plan → List Line → Type 0 where
  none : AreCells r [] []
  one_more : {plans : List Plan} {lines : List Line} (plan : Plan) {line : Line}
      → AreCells r plans lines → IsCell r plan line
      → AreCells r (plans ++ plan ∷ []) (lines ++ line ∷ [])

-- the plans before this one had their cells counted, and then it was refused
pub record SweepRefused (r : Pages) (plans : List Plan) (fault : CellFault) : Type 0 where
  pub before : List Plan
  pub plan : Plan
  pub after : List Plan
  pub plans_are : plans ≡ before ++ plan ∷ after
  pub lines : List Line
  pub counted : AreCells r before lines
  pub cell_is : fault.cell ≡ length before + 1
  pub refused : PlanRefused plan fault.refusal

-- ---- a table

abbrev pub pool_with : ℕ → ℕ → ℕ → Plan
pool_with frames correlated k = record { frames = frames; policy = LruK k correlated }

abbrev pub optimum_with : ℕ → Plan
optimum_with frames = record { frames = frames; policy = Optimum }

-- for so many frames a pool of each K, and then the optimum
abbrev pub plans_with : ℕ → List ℕ → ℕ → List Plan
plans_with frames ks correlated = map (pool_with frames correlated) ks ++ optimum_with frames ∷ []

-- the same for each number of frames
abbrev pub plans_of : List ℕ → List ℕ → ℕ → List Plan
plans_of [] ks correlated = []
plans_of (frames ∷ more) ks correlated =
    plans_with frames ks correlated ++ plans_of more ks correlated
