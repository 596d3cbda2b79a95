-- What a cell of a sweep counts: the replies of a legal trail that follows the references, each a
-- fix, an unfix and a tick.
use Rattle.std.specs.Prelude.{◌≡◌, ℕ, ◌+◌, ◌*◌, ◌^◌, ◌<◌, max, List, [], ◌∷◌, ◌++◌, All}
use Rattle.bp_page.specs.declared.limits.Geometry.{Geometry}
use Rattle.bp_replacer.specs.declared.settings.Settings.{Settings}
use Rattle.bp_scripts.specs.declared.rows.Row.{Row}
use Rattle.bp_scripts.specs.declared.rows.Step.TheVariants.{Fix, Unfix, Tick}
use Rattle.bp_scripts.specs.declared.rows.Refused.{Refused}
use Rattle.bp_trail.specs.Parameters.{Parameters}
use Rattle.bp_trail.specs.Trail.{Trail}
use Rattle.bp_trail.specs.Legal.{Legal}
use Rattle.bp_trail.specs.Pieces.Manner.{driver}
use Rattle.bp_scripts.specs.Script.{Follows}
use Rattle.bp_trail.specs.declared.totals.Totals.{Totals}
use Rattle.bp_trail.specs.Totals.{totals_of}

-- the rows of the reference with this number, from 0: client 0 fixes the page, gives it back, and
-- moves the clock by one
abbrev pub rows_of : ℕ → ℕ → List Row
rows_of i page =
    record { row = 3 * i + 1; client = 0; step = Fix page }
    ∷ record { row = 3 * i + 2; client = 0; step = Unfix page }
    ∷ record { row = 3 * i + 3; client = 0; step = Tick 1 }
    ∷ []

-- those of references, of which the first has this number
abbrev pub script_from : ℕ → List ℕ → List Row
script_from i [] = []
script_from i (page ∷ later) = rows_of i page ++ script_from (i + 1) later

abbrev pub script_of : List ℕ → List Row
script_of pages = script_from 0 pages

-- the pool of a cell: one client, and entries that are only counted
abbrev pub cell_parameters : Geometry → Settings → ℕ → Parameters
cell_parameters g settings frames = record {
  frames = frames;
  k = settings.k;
  correlated = settings.correlated;
  retained = settings.retained;
  pages = g.pages;
  size = g.size;
  clients = 1;
  room = 2 ^ 61;
}

-- the pool of a table's cell: over a page of 16 bytes for each different number, and with a history
-- that is never forgotten
abbrev pub pool_parameters : ℕ → ℕ → ℕ → ℕ → Parameters
pool_parameters different frames k correlated = record {
  frames = frames;
  k = k;
  correlated = correlated;
  retained = 2 ^ 62;
  pages = max 1 different;
  size = 16;
  clients = 1;
  room = 2 ^ 61;
}

-- the totals are those of a legal trail that follows the rows of the references, none of which was
-- refused for want of room, time or memory
pub record Counted (c : Parameters) (pages : List ℕ) (totals : Totals) : Type 0 where
  pub past : Trail
  pub refusals : List Refused
  pub legal : Legal c past
  pub follows : Follows driver (script_of pages) past refusals
  pub went_on : All (λ r. r.number < 20) refusals
  pub totals_are : totals ≡ totals_of past
