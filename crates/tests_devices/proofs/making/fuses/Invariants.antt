-- So many ports so far, all to the device.
use Rattle.std.proofs.Common.{◌≡◌, All, vec_len}
use Rattle.tests_devices.proofs.making.fuses.Given as goal

abbrev pub invariant-loop-client : goal.invariant-loop-client
invariant-loop-client g l = record {
  count : vec_len l.ports ≡ l.client;
  geometry : All (λ p. p.inner.device ≡ l.fn.device) l.ports.items;
}
