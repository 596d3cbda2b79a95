-- From what the workers left to the headline.
use Rattle.std.proofs.Common.{◌≡◌, refl, sym, ◌∙◌, ap, subst, ◌<◌, arith, List, length, map, vec_len, Err}
use Rattle.std.specs.declared.vec.Vec.{Vec}
use Rattle.std.proofs.lemmas.List.{length-map}
use Rattle.std.proofs.lemmas.Result.{err_from_is_err_and}
use Rattle.bp_trail.specs.Legal.{Legal}
use Rattle.bp_page.specs.declared.limits.Geometry.{Geometry}
use Rattle.bp_scripts.specs.declared.rows.Row.{Row}
use Rattle.bp_core.specs.Agreement.{parameters_with}
use Rattle.bp_core.specs.Outcomes.{IsFit}
use Rattle.bp_workers.specs.Runs.{CanRun}
use Rattle.bp_replay.specs.Scripts.{lists}
use Rattle.bp_replay.specs.Players.{left_value, PlayerValue, new_players}
use Rattle.bp_replay.proofs.Headline.{are_left, are_played, books_uncut, core_uncut, run_all}
use Rattle.bp_replay.proofs.Making.{each_can_play, length-new_players}
use Rattle.bp_replay.proofs.Refusing.{for_settings, for_workers, not_joined}
use Rattle.bp_replay.proofs.run.run_clients.Goals as goal

pub make_players-requires-clause-fits : goal.make_players-requires-clause-fits
make_players-requires-clause-fits g c = each_can_play (parameters_with c.args.config (vec_len c.args.scripts)) c.args.config.geometry (lists c.args.scripts.items) refl refl c.requires.fits

-- there is a player for each script
many : {A : Type 0} (g : Geometry) (scripts : List (Vec Row A)) (players : List PlayerValue) → players ≡ new_players g 0 (lists scripts) → length players ≡ length scripts
many g scripts players are = ap length are ∙ length-new_players g 0 (lists scripts) ∙ length-map scripts (λ v. v.items)

-- the same of the lists in vectors
as_many : {A B P : Type 0} (scripts : Vec (Vec Row A) B) (ports : Vec P B) → vec_len ports ≡ vec_len scripts → length ports.items ≡ length (lists scripts.items)
as_many scripts ports same = omega (arith, same, length-map scripts.items (λ v. v.items), ports.ok, scripts.ok)

some_of : {A B : Type 0} (scripts : Vec (Vec Row A) B) → 0 < vec_len scripts → 0 < length (lists scripts.items)
some_of scripts some = omega (arith, some, length-map scripts.items (λ v. v.items), scripts.ok)

pub joined-requires-clause-uncut : goal.joined-requires-clause-uncut
joined-requires-clause-uncut g c =
    let reads = g.P.Port.read_gives in
    let writes = g.P.Port.write_gives in
    let geometry = c.args.config.geometry in
    let scripts = lists c.args.scripts.items in
    let ports = c.args.ports.items in
    let run = c.in_ok-run.run' in
    let counted = as_many c.args.scripts c.args.ports c.requires.ports in
    let left = are_left reads writes run.core g.P.Port.geometry_of geometry c.in_ok-players.players.items scripts ports run.left.items c.in_ok-players.ensures.players c.in_ok-run.ensures.left in (
      core_uncut reads writes run.core g.P.Port.geometry_of geometry scripts ports run.left.items (some_of c.args.scripts c.requires.clients.0) counted left,
      books_uncut reads writes run.core g.P.Port.geometry_of geometry 0 scripts ports run.left.items counted left,
    )

pub returns-in_err-check_fit-clause-answers : goal.returns-in_err-check_fit-clause-answers
returns-in_err-check_fit-clause-answers g c =
    let is = err_from_is_err_and c.from_residual.result c.from_residual.ensures.1 in
    let unfit = rw c.len-clients.ensures at c.in_err-check_fit.ensures.unfit in
    for_settings (parameters_with c.args.config (vec_len c.args.scripts)) c.from_residual.result _ (is.1 ∙ ap Err is.2) unfit.0 unfit.1

pub returns-in_err-run-clause-answers : goal.returns-in_err-run-clause-answers
returns-in_err-run-clause-answers g c =
    let n = vec_len c.args.scripts in
    let config = c.args.config in
    let is = err_from_is_err_and c.from_residual-in_err-run.result c.from_residual-in_err-run.ensures.1 in
    let fit : IsFit (parameters_with config n) = rw c.len-clients.ensures at c.in_ok-check_fit.ensures.fit in
    let same : vec_len c.in_ok-players.players ≡ n = omega (arith, many config.geometry c.args.scripts.items c.in_ok-players.players.items c.in_ok-players.ensures.players, c.args.scripts.ok, c.in_ok-players.players.ok) in
    let can : CanRun g.P.Port.geometry_of config c.args.ports.items (vec_len c.in_ok-players.players) = record {
      fit = record { some = omega (arith, same, c.requires.clients.0); few = omega (arith, same, c.requires.clients.1); ports_are = omega (arith, same, c.requires.ports, c.args.ports.ok); of_file = c.requires.geometry };
      core = subst (λ m. IsFit (parameters_with config m)) (sym same) fit;
    } in
    for_workers (parameters_with config n) (CanRun g.P.Port.geometry_of config c.args.ports.items (vec_len c.in_ok-players.players)) c.from_residual-in_err-run.result c.run_workers.result _ (is.1 ∙ ap Err is.2) c.in_err-run.ensures.answers can fit

pub returns-clause-run : goal.returns-clause-run
returns-clause-run g c =
    let reads = g.P.Port.read_gives in
    let writes = g.P.Port.write_gives in
    let config = c.args.config in
    let scripts = lists c.args.scripts.items in
    let ports = c.args.ports.items in
    let run = c.in_ok-run.run' in
    let counted = as_many c.args.scripts c.args.ports c.requires.ports in
    let left = are_left reads writes run.core g.P.Port.geometry_of config.geometry c.in_ok-players.players.items scripts ports run.left.items c.in_ok-players.ensures.players c.in_ok-run.ensures.left in
    let players : vec_len c.in_ok-players.players ≡ vec_len c.args.scripts = omega (arith, many config.geometry c.args.scripts.items c.in_ok-players.players.items c.in_ok-players.ensures.players, c.args.scripts.ok, c.in_ok-players.players.ok) in
    run_all reads writes (parameters_with config (vec_len c.args.scripts)) scripts ports run.core.past (map left_value run.left.items) c.joined.result (some_of c.args.scripts c.requires.clients.0) counted
    (are_played reads writes run.core g.P.Port.geometry_of config.geometry scripts ports run.left.items counted c.requires.geometry left)
    (subst (λ n. Legal (parameters_with config n) run.core.past) players c.in_ok-run.ensures.legal) c.joined.ensures.own c.joined.ensures.joined

pub returns-clause-room : goal.returns-clause-room
returns-clause-room g c = rw c.in_ok-run.ensures.parameters at c.joined.ensures.room

pub returns-clause-answers : goal.returns-clause-answers
returns-clause-answers g c = not_joined (parameters_with c.args.config (vec_len c.args.scripts)) c.joined.result (rw c.len-clients.ensures at c.in_ok-check_fit.ensures.fit) c.joined.ensures.refused
