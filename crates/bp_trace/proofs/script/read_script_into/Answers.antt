-- The rows are those of the records that csv reads.
use Rattle.std.proofs.Common.{List, Result, Ok, Err, IfOk, Vec}
use Rattle.std.specs.declared.alloc.Global.{Global}
use Rattle.csv.specs.Reading.{default_config, records, strip_bom}
use Rattle.bp_page.specs.declared.limits.Geometry.{Geometry}
use Rattle.bp_scripts.specs.declared.rows.Row.{Row}
use Rattle.bp_trace.specs.declared.faults.TraceFault.{TraceFault}
use Rattle.bp_trace.specs.Script.{Answers, IsScriptOfSome, script_from}
use Rattle.bp_trace.specs.InRange.{IsScript}
use Rattle.bp_trace.proofs.Fitting.{some-script}
use Rattle.bp_trace.proofs.script.read_script_into.Goals as goal

some-records : (g : Geometry) (found : List (List (List _))) (r : Result (Vec Row Global) TraceFault) → Answers r (script_from g 1 found) → IfOk r (λ rows. IsScriptOfSome g rows.items)
some-records g found (Ok rows) said = record { found = found; read = said }
some-records g found (Err e) said = tt

-- what holds of such rows
some-are : (g : Geometry) (P : List Row → Type 0) → ((rows : List Row) → IsScript g rows → P rows) → (r : Result (Vec Row Global) TraceFault)
    → IfOk r (λ rows. IsScriptOfSome g rows.items) → IfOk r (λ rows. P rows.items)
some-are g P holds (Ok rows) some = holds rows.items (some-script g rows.items some)
some-are g P holds (Err e) some = tt

pub returns-clause-some : goal.returns-clause-some
returns-clause-some g c = some-records c.args.geometry.now (records default_config (strip_bom c.as_slice.result.now)) c.rows_of-rows.result c.rows_of-rows.ensures

pub returns-clause-few : goal.returns-clause-few
returns-clause-few g c = some-are c.args.geometry.now _ (λ rows are. are.few) c.rows_of-rows.result (returns-clause-some g c)

pub returns-clause-numbered : goal.returns-clause-numbered
returns-clause-numbered g c = some-are c.args.geometry.now _ (λ rows are. are.numbered) c.rows_of-rows.result (returns-clause-some g c)

pub returns-clause-in_range : goal.returns-clause-in_range
returns-clause-in_range g c = some-are c.args.geometry.now _ (λ rows are. are.in_range) c.rows_of-rows.result (returns-clause-some g c)
