-- The parts flushed so far.
use Rattle.std.proofs.Common.{◌≡◌}
use Rattle.bp_parts.specs.Flushes.{FlushesParts}
use Rattle.bp_parts.proofs.pool.PartedPool.flush_all.Given as goal

abbrev pub invariant-loop-part : goal.invariant-loop-part
invariant-loop-part g l = record {
  client : l.session.client ≡ l.initial.session.client;
  device : l.port.file.device ≡ l.initial.port.file.device;
  stripes : l.port.parts ≡ l.initial.port.parts;
  flushed : FlushesParts (record { refuses = g.K.Keeper.REFUSES; parameters = g.N.PartNames.parameters; start = g.N.PartNames.past; reads = g.S.Store.reads; writes = g.S.Store.writes }) l.initial.session l.initial.port l.part l.session l.port;
}
