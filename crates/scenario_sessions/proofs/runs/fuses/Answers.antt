-- The port that is pushed is to the device, as all before it are.
use Rattle.std.proofs.Common.{◌≡◌, sym, subst, All, [], ◌∷◌}
use Rattle.std.proofs.lemmas.List.Elements.{All-append, All-cons, All-nil}
use Rattle.test_ports.specs.declared.fuse.FusePort.{FusePort}
use Rattle.bp_device.specs.declared.MemPort.{MemPort}
use Rattle.scenario_sessions.proofs.runs.fuses.Goals as goal

pub loop-client-preserved : goal.loop-client-preserved
loop-client-preserved c =
    let P = λ (p : FusePort MemPort). p.inner.device ≡ c.args.device.now in
    let pushed = All-cons P c.in_ok-port.port [] c.in_ok-port.ensures (All-nil P) in
    record {
      geometry = subst (All P) (sym c.in-Ok.ensures.items)
          (All-append P c.loop-client.ports.items (c.in_ok-port.port ∷ []) c.loop-client.invariant.geometry pushed);
    }
