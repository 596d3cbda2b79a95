-- What a run does over the page file that was opened for it.
use Rattle.std.proofs.Common.{◌≡◌, ◌∙◌, ◌⊎◌, inl, inr, sym, ap, subst, ℕ, ◌<◌, arith, Bool, List, [], ◌∷◌, length, get_or, All, Option, Result, Ok, Err}
use Rattle.std.proofs.lemmas.List.Elements.{All-get_or}
use Rattle.std.specs.Prelude.{IfErr, IfOk, Vec}
use Rattle.std.specs.declared.alloc.Global.{Global}
use Rattle.bp_page.specs.declared.limits.Geometry.{Geometry}
use Rattle.bp_scripts.specs.declared.rows.Row.{Row}
use Rattle.bp_scripts.specs.Fits.{RowFits}
use Rattle.bp_trail.specs.Parameters.{Parameters}
use Rattle.bp_core.specs.Work.{Reads, Writes}
use Rattle.bp_trace.specs.InRange.{IsInRange}
use Rattle.bp_cli.specs.declared.ending.Ending.{Ending}
use Rattle.bp_cli.specs.declared.stop.Stop.{Stop}
use Rattle.bp_cli.specs.declared.words.Order.{Order}
use Rattle.bp_cli.specs.declared.words.Order.TheVariants as order
use Rattle.bp_cli.specs.Words.{RunOptions}
use Rattle.bp_run.specs.Opening.{Ends}
use Rattle.bp_run.specs.PageFile.{IsNamed}
use Rattle.bp_run.specs.Scripts.{scripts_of}
use Rattle.bp_run.specs.Ways.{Ways}
use Rattle.bp_run.specs.Run.{AreRead, Reports, ReportsFree, ReportsIn, Runs, parameters_for, ports_for}
use Rattle.bp_run.specs.Stops.{NotConnected, NotRead, NotReported, StopsRun}

-- a run asks for a port
pub some_ports : (o : Order) (rows : List Row) → 0 < ports_for o rows
some_ports order.Trace rows = omega arith
some_ports order.Free rows = omega arith

pub port_is : {X : Type 0} (f : X → Geometry) (ports : List X) (x : X) (g : Geometry) → All (λ p. f p ≡ g) ports → 0 < length ports → x ≡ get_or ports 0 x → f x ≡ g
port_is f ports x g alike some is = ap f is ∙ All-get_or (λ p. f p ≡ g) ports 0 x some alike

-- the first of one is all
only_one : {X : Type 0} (ports : List X) (x : X) → length ports ≡ 1 → x ≡ get_or ports 0 x → ports ≡ x ∷ []
only_one [] x one is = absurd (omega (arith, one))
only_one (p ∷ []) x one is = ap (λ y. y ∷ []) (sym is)
only_one (p ∷ q ∷ ports) x one is = absurd (omega (arith, one))

-- rows that are in range of the pages fit the core of a run in the order of the trace
pub rows_fit : (t : RunOptions) (g h : Geometry) (rows : List Row) (c : Parameters) → All (IsInRange g) rows → h ≡ g → c ≡ parameters_for order.Trace t h rows → All (RowFits c) rows
rows_fit t g h rows c in_range same made k d inside =
    let row = in_range k d inside in
    row.fits c (ap (λ (q : Parameters). q.pages) made ∙ ap (λ (q : Geometry). q.pages) same) (ap (λ (q : Parameters). q.size) made ∙ ap (λ (q : Geometry). q.size) same)
    (omega (arith, row.client, ap (λ (q : Parameters). q.clients) made))

-- a run in the order of the trace over the one port
pub in_trace : {P : Type 0} (reads : Reads P) (writes : Writes P) (o : Order) (t : RunOptions) (g h : Geometry) (ports : List P) (port : P) (totals : Bool) (rows said : List Row) (old new : Option (List ℕ)) (result : Result Bool Stop)
    → o ≡ order.Trace → h ≡ g → said ≡ rows → length ports ≡ ports_for o rows → port ≡ get_or ports 0 port → IfOk result (λ ok. Reports reads writes totals (parameters_for order.Trace t h said) port said ok old new)
    → IfOk result (λ ok. ReportsIn reads writes o totals (parameters_for o t g rows) ports rows ok old new)
in_trace reads writes order.Trace t g h ports port totals rows said old new (Ok ok) is same are one first reports = (
  port,
  only_one ports port one first,
  subst (λ rows. Reports reads writes totals (parameters_for order.Trace t g rows) port rows ok old new) are
      (subst (λ g. Reports reads writes totals (parameters_for order.Trace t g said) port said ok old new) same reports),
)
in_trace reads writes order.Trace t g h ports port totals rows said old new (Err ended) is same are one first reports = tt
in_trace reads writes order.Free t g h ports port totals rows said old new result is same are one first reports = cc

-- and a run in free order over all of them
pub in_free : {P : Type 0} (reads : Reads P) (writes : Writes P) (o : Order) (t : RunOptions) (g : Geometry) (ports : List P) (totals : Bool) (rows : List Row) (old new : Option (List ℕ)) (result : Result Bool Stop) → o ≡ order.Free
    → IfOk result (λ ok. ReportsFree reads writes totals (parameters_for order.Free t g rows) ports (scripts_of rows) ok old new) → IfOk result (λ ok. ReportsIn reads writes o totals (parameters_for o t g rows) ports rows ok old new)
in_free reads writes order.Free t g ports totals rows old new result is reports = reports
in_free reads writes order.Trace t g ports totals rows old new result is reports = cc

-- what is reported over the page file that was opened
pub over_pages : {F P T : Type 0} (ways : Ways F P T) (bytes_of : T → Option (List ℕ)) (reads : Reads P) (writes : Writes P) (t : RunOptions) (bytes old new : Option (List ℕ)) (result : Result Bool Stop)
    (file : F) (h : Geometry) (rows lent : List Row) (ports : Vec P Global)
    → ways.opens t.page_file t.size t.format (Ok file) → IsNamed t.page_file t.size t.format (ways.memory file) (ways.geometry file) (ways.headed file)
    → h ≡ ways.geometry file → lent ≡ rows → AreRead ways.traces bytes_of t.trace h bytes rows → ways.connects file (ports_for t.order lent) (Ok ports)
    → IfOk result (λ ok. ReportsIn reads writes t.order t.totals (parameters_for t.order t h rows) ports.items rows ok old new)
    → IfOk result (λ ok. Runs ways bytes_of reads writes t bytes ok old new)
over_pages ways bytes_of reads writes t bytes old new (Ok ok) file h rows lent ports opened named same are read connected reports = record {
  file = file;
  opened = opened;
  named = named;
  rows = rows;
  read = subst (λ g. AreRead ways.traces bytes_of t.trace g bytes rows) same read;
  ports = ports;
  connected = subst (λ rows. ways.connects file (ports_for t.order rows) (Ok ports)) are connected;
  reports = subst (λ g. ReportsIn reads writes t.order t.totals (parameters_for t.order t g rows) ports.items rows ok old new) same reports;
}
over_pages ways bytes_of reads writes t bytes old new (Err ended) file h rows lent ports opened named same are read connected reports = tt

-- ---- why there is no report

pub stopped_at_trace : {F P T : Type 0} (ways : Ways F P T) (bytes_of : T → Option (List ℕ)) (t : RunOptions) (bytes : Option (List ℕ)) (ended : Ending) (file : F) (h : Geometry)
    → ways.opens t.page_file t.size t.format (Ok file) → h ≡ ways.geometry file → NotRead ways.traces bytes_of t.trace h bytes ended → StopsRun ways bytes_of t bytes ended
stopped_at_trace ways bytes_of t bytes ended file h opened same not =
    inr (inl (record { file = file; opened = opened; not_read = subst (λ g. NotRead ways.traces bytes_of t.trace g bytes ended) same not }))

stopped_after : {F P T : Type 0} (ways : Ways F P T) (bytes_of : T → Option (List ℕ)) (t : RunOptions) (bytes : Option (List ℕ)) (ended : Ending) (file : F) (h : Geometry) (rows : List Row)
    → ways.opens t.page_file t.size t.format (Ok file) → h ≡ ways.geometry file → AreRead ways.traces bytes_of t.trace h bytes rows
    → NotConnected ways file (ports_for t.order rows) ended ⊎ NotReported ended → StopsRun ways bytes_of t bytes ended
stopped_after ways bytes_of t bytes ended file h rows opened same read stopped =
    inr (inr (record { file = file; opened = opened; rows = rows; read = subst (λ g. AreRead ways.traces bytes_of t.trace g bytes rows) same read; stopped = stopped }))

pub stopped_at_ports : {F P T : Type 0} (ways : Ways F P T) (bytes_of : T → Option (List ℕ)) (t : RunOptions) (bytes : Option (List ℕ)) (ended : Ending) (file : F) (h : Geometry) (rows lent : List Row)
    → ways.opens t.page_file t.size t.format (Ok file) → h ≡ ways.geometry file → lent ≡ rows → AreRead ways.traces bytes_of t.trace h bytes rows
    → NotConnected ways file (ports_for t.order lent) ended → StopsRun ways bytes_of t bytes ended
stopped_at_ports ways bytes_of t bytes ended file h rows lent opened same are read not =
    stopped_after ways bytes_of t bytes ended file h rows opened same read (inl (subst (λ rows. NotConnected ways file (ports_for t.order rows) ended) are not))

pub stopped_in_run : {F P T : Type 0} (ways : Ways F P T) (bytes_of : T → Option (List ℕ)) (t : RunOptions) (bytes : Option (List ℕ)) (result : Result Bool Stop) (file : F) (h : Geometry) (rows : List Row)
    → ways.opens t.page_file t.size t.format (Ok file) → h ≡ ways.geometry file → AreRead ways.traces bytes_of t.trace h bytes rows
    → IfErr result (Ends NotReported) → IfErr result (Ends (StopsRun ways bytes_of t bytes))
stopped_in_run ways bytes_of t bytes (Ok ok) file h rows opened same read not = tt
stopped_in_run ways bytes_of t bytes (Err stop) file h rows opened same read not = stopped_after ways bytes_of t bytes stop.ending file h rows opened same read (inr not)
