-- The scripts of a trace are ones that its clients may run.
use Rattle.std.proofs.Common.{◌≡◌, ◌∙◌, refl, sym, ap, subst, ℕ, ◌<◌, ◌≤◌, arith, ◌==◌, List, [], ◌∷◌, map, length, All, None, true}
use Rattle.std.proofs.lemmas.Bool.{eqb-true}
use Rattle.std.proofs.lemmas.List.Elements.{All-filter, All-head, All-tail, All-nil, All-cons, filter_passes}
use Rattle.std.proofs.lemmas.List.FromFn.{get_or-map-range_with_len, length-map-range_with_len}
use Rattle.bp_page.specs.declared.limits.Geometry.{Geometry}
use Rattle.bp_scripts.specs.declared.rows.Row.{Row}
use Rattle.bp_scripts.specs.declared.rows.Step.{Step}
use Rattle.bp_scripts.specs.declared.rows.Step.TheVariants as step
use Rattle.bp_trail.specs.Lists.{greatest}
use Rattle.bp_trail.specs.Parameters.{Parameters}
use Rattle.bp_scripts.specs.LogBound.{log_of}
use Rattle.bp_trace.specs.InRange.{IsInRange, SpeaksForLog}
use Rattle.bp_trail.specs.declared.entries.Entry.{Entry}
use Rattle.bp_scripts.specs.declared.rows.Refused.{Refused}
use Rattle.bp_core.specs.declared.config.Config.{Config}
use Rattle.bp_core.specs.Agreement.{parameters_with}
use Rattle.bp_replay.specs.Scripts.{EachScriptFits, RowFitsClient, list_of}
use Rattle.bp_core.specs.Work.{Reads, Writes}
use Rattle.bp_replay.specs.ScriptRuns.{IsRun}
use Rattle.bp_run.specs.Scripts.{clients_of, rows_of, scripts_for, scripts_of}

no_log : (client : ℕ) (step : Step) → SpeaksForLog client step → 0 < client → log_of step ≡ None
no_log client (step.Log lsn) speaks some = absurd (omega (arith, speaks))
no_log client other speaks some = refl

all_fit : (g : Geometry) (p : Parameters) (client : ℕ) (rows : List Row) → p.pages ≡ g.pages → p.size ≡ g.size → client < p.clients → All (IsInRange g) rows → All (λ row. (row.client == client) ≡ true) rows
    → All (RowFitsClient p client) rows
all_fit g p client [] pages size below fits own = All-nil (RowFitsClient p client)
all_fit g p client (row ∷ rows) pages size below fits own =
    let is = All-head (IsInRange g) row rows fits in
    let mine : row.client ≡ client = eqb-true row.client client (All-head (λ row. (row.client == client) ≡ true) row rows own) in
    All-cons (RowFitsClient p client) row rows
    (record { fits = is.fits p pages size (subst (λ n. n < p.clients) (sym mine) below); own = mine; log = λ some. no_log row.client row.step is.log (subst (λ n. 0 < n) (sym mine) some) })
    (all_fit g p client rows pages size below (All-tail (IsInRange g) row rows fits) (All-tail (λ row. (row.client == client) ≡ true) row rows own))

-- each client's rows fit it
pub scripts_fit : (g : Geometry) (p : Parameters) (rows : List Row) (scripts : List (List Row)) → p.pages ≡ g.pages → p.size ≡ g.size → p.clients ≡ clients_of rows → All (IsInRange g) rows → scripts ≡ scripts_of rows → EachScriptFits p scripts
scripts_fit g p rows scripts pages size clients fits are c below =
    subst (λ script. All (RowFitsClient p c) script) (sym here)
    (all_fit g p c (rows_of c rows) pages size (omega (arith, within, clients)) (All-filter (λ row. row.client == c) (IsInRange g) rows fits) (filter_passes (λ row. row.client == c) rows))
  where
    counted : length scripts ≡ clients_of rows
    counted = ap length are ∙ length-map-range_with_len (λ client. rows_of client rows) 0 (clients_of rows)

    within : c < clients_of rows
    within = omega (arith, counted, below)

    here : list_of c scripts ≡ rows_of c rows
    here = ap (list_of c) are ∙ get_or-map-range_with_len (λ client. rows_of client rows) 0 (clients_of rows) c c [] within (omega arith)

most_at : (g : Geometry) (rows : List Row) → All (IsInRange g) rows → greatest (map (λ row. row.client) rows) ≤ 63
most_at g [] fits = omega arith
most_at g (row ∷ rows) fits = let is = All-head (IsInRange g) row rows fits in let rest = most_at g rows (All-tail (IsInRange g) row rows fits) in omega (arith, is.client, rest)

-- a trace has 1 to 64 clients
pub few_clients : (g : Geometry) (rows : List Row) → All (IsInRange g) rows → clients_of rows ≤ 64
few_clients g rows fits = let most = most_at g rows fits in omega (arith, most)

-- as many scripts as clients
pub script_count : (rows : List Row) (scripts : List (List Row)) → scripts ≡ scripts_of rows → length scripts ≡ clients_of rows
script_count rows scripts are = ap length are ∙ length-map-range_with_len (λ client. rows_of client rows) 0 (clients_of rows)

-- a run of some scripts is one of the scripts that they are
pub run_of : {P : Type 0} (reads : Reads P) (writes : Writes P) (config : Config) (n : ℕ) (scripts : List (List Row)) (ports : List P) (rows : List Row) (trail : List Entry) (said : List (List Entry)) (refused : List Refused) (after : List P)
    → n ≡ clients_of rows → scripts ≡ scripts_of rows → IsRun reads writes (parameters_with config n) scripts ports trail said refused after
    → IsRun reads writes (parameters_with config (clients_of rows)) (scripts_of rows) ports trail said refused after
run_of reads writes config n scripts ports rows trail said refused after count are run =
    subst (λ m. IsRun reads writes (parameters_with config m) (scripts_of rows) ports trail said refused after) count
    (subst (λ s. IsRun reads writes (parameters_with config n) s ports trail said refused after) are run)

-- the scripts that the rows were split into are those of their clients
pub record AreScripts (rows : List Row) (n : ℕ) (scripts : List (List Row)) : Type 0 where
  pub count : n ≡ clients_of rows
  pub are : scripts ≡ scripts_of rows
  pub counted : length scripts ≡ clients_of rows

pub scripts_are : (rows lent : List Row) (n : ℕ) (scripts : List (List Row)) → n ≡ clients_of lent → lent ≡ rows → scripts ≡ scripts_for n rows → AreScripts rows n scripts
scripts_are rows lent n scripts of_lent same split =
    let count : n ≡ clients_of rows = of_lent ∙ ap clients_of same in
    let are : scripts ≡ scripts_of rows = split ∙ ap (λ m. scripts_for m rows) count in
    record { count = count; are = are; counted = script_count rows scripts are }
