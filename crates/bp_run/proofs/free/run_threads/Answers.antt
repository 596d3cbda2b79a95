-- The scripts of the rows, each with a port.
use Rattle.std.proofs.Common.{◌≡◌, ◌∙◌, ap, subst, ℕ, arith, refl}
use Rattle.std.proofs.lemmas.List.{length-map}
use Rattle.bp_core.specs.Outcomes.{IsFit}
use Rattle.bp_replay.specs.Scripts.{lists}
use Rattle.bp_core.specs.Agreement.{parameters_with}
use Rattle.bp_run.specs.Scripts.{clients_of}
use Rattle.bp_run.proofs.Splitting.{all_below}
use Rattle.bp_run.proofs.Stopping.{wants_memory}
use Rattle.bp_run.proofs.Threads.{few_clients, run_of, scripts_are, scripts_fit}
use Rattle.bp_run.proofs.free.run_threads.Goals as goal

pub split-requires : goal.split-requires
split-requires g c =
    let count : c.client_count-clients.result ≡ clients_of c.args.rows.items = c.client_count-clients.ensures ∙ ap clients_of c.deref.ensures.value in
    rw count (all_below c.args.rows.items)

pub run_clients-requires-clause-clients : goal.run_clients-requires-clause-clients
run_clients-requires-clause-clients g c κs within =
    let is = scripts_are c.args.rows.items c.deref.result.now c.client_count-clients.result (lists c.in-Ok.scripts.items) c.client_count-clients.ensures c.deref.ensures.value c.in-Ok.ensures.scripts in
    let few = few_clients c.args.config.geometry c.args.rows.items c.requires.fits in
    (omega (arith, is.counted, length-map c.in-Ok.scripts.items (λ v. v.items), c.in-Ok.scripts.ok), omega (arith, few, is.counted, length-map c.in-Ok.scripts.items (λ v. v.items), c.in-Ok.scripts.ok))

pub run_clients-requires-clause-ports : goal.run_clients-requires-clause-ports
run_clients-requires-clause-ports g c κs within =
    let is = scripts_are c.args.rows.items c.deref.result.now c.client_count-clients.result (lists c.in-Ok.scripts.items) c.client_count-clients.ensures c.deref.ensures.value c.in-Ok.ensures.scripts in
    omega (arith, is.counted, c.requires.ports, length-map c.in-Ok.scripts.items (λ v. v.items), c.in-Ok.scripts.ok)

pub run_clients-requires-clause-fits : goal.run_clients-requires-clause-fits
run_clients-requires-clause-fits g c κs within =
    let is = scripts_are c.args.rows.items c.deref.result.now c.client_count-clients.result (lists c.in-Ok.scripts.items) c.client_count-clients.ensures c.deref.ensures.value c.in-Ok.ensures.scripts in
    scripts_fit c.args.config.geometry (parameters_with c.args.config c.in-Ok.scripts.len) c.args.rows.items (lists c.in-Ok.scripts.items) refl refl
    (omega (arith, is.counted, length-map c.in-Ok.scripts.items (λ v. v.items), c.in-Ok.scripts.ok)) c.requires.fits is.are

pub returns-in-Ok-run_clients-clause-run : goal.returns-in-Ok-run_clients-clause-run
returns-in-Ok-run_clients-clause-run g c =
    let is = scripts_are c.args.rows.items c.deref.result.now c.client_count-clients.result (lists c.in-Ok.scripts.items) c.client_count-clients.ensures c.deref.ensures.value c.in-Ok.ensures.scripts in
    let e = c.in-Ok-run_clients.ensures in
    let run = c.in-Ok-run_clients.ran in (
      run.1.items,
      run_of g.P.Port.read_gives g.P.Port.write_gives c.args.config c.in-Ok.scripts.len (lists c.in-Ok.scripts.items) c.args.ports.items c.args.rows.items run.0.trail.items (lists run.0.said.items) run.0.refused.items
          run.1.items (omega (arith, is.counted, length-map c.in-Ok.scripts.items (λ v. v.items), c.in-Ok.scripts.ok)) is.are e.run,
    )

pub returns-in-Err-run_clients-clause-fault : goal.returns-in-Err-run_clients-clause-fault
returns-in-Err-run_clients-clause-fault g c =
    let is = scripts_are c.args.rows.items c.deref.result.now c.client_count-clients.result (lists c.in-Ok.scripts.items) c.client_count-clients.ensures c.deref.ensures.value c.in-Ok.ensures.scripts in
    let count : clients_of c.args.rows.items ≡ c.in-Ok.scripts.len = omega (arith, is.counted, length-map c.in-Ok.scripts.items (λ v. v.items), c.in-Ok.scripts.ok) in
    wants_memory (parameters_with c.args.config c.in-Ok.scripts.len) c.run_clients.result c.in-Err-run_clients.refusal
    (subst (λ (n : ℕ). IsFit (parameters_with c.args.config n)) count c.requires.fit) c.in-Err-run_clients.is c.run_clients.ensures.answers
