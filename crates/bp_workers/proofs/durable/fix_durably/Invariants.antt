-- The tries so far.
use Rattle.std.proofs.Common.{◌≡◌}
use Rattle.bp_shared.specs.Keeping.{MayAct}
use Rattle.bp_shared.specs.Sessions.{DoesWorkSaid, IsRoomy}
use Rattle.bp_shared.specs.Writing.{WithLsnSeen}
use Rattle.bp_workers.specs.Logs.{RaisesWithin}
use Rattle.bp_workers.proofs.Trying.{LeadsTo}
use Rattle.bp_workers.proofs.durable.fix_durably.Given as goal

abbrev pub invariant-loop-round : goal.invariant-loop-round
invariant-loop-round g l =
    let durable = g.L.DurableLog.durable_to in
    let raised = g.L.DurableLog.raised_to in
    record {
      client : l.client.session.client ≡ l.initial.client.session.client;
      before : l.client.session.before ≡ l.initial.client.session.before;
      acts : MayAct g.N.PoolName.parameters g.N.PoolName.past l.initial.client.session l.client.session;
      roomy : IsRoomy l.initial.client.session → IsRoomy l.client.session;
      port : g.P.Port.geometry_of l.client.port ≡ g.P.Port.geometry_of l.initial.client.port;
      lent : g.L.DurableLog.lent l.log ≡ g.L.DurableLog.lent l.initial.log;
      raises : RaisesWithin (durable l.initial.log) (raised l.initial.log) (durable l.log) (raised l.log);
      leads : LeadsTo g.A.Asked.fixes g.A.Asked.ticks l.initial.client.session.client l.page l.patience.ticks l.patience.rounds (raised l.log) l.is_ticked l._round l.initial.client.session.said l.client.session.said;
      work : DoesWorkSaid g.P.Port.read_gives (WithLsnSeen l.initial.client.session l.client.session g.P.Port.write_gives) l.initial.client.session.said l.client.session.said l.initial.client.port l.client.port;
    }
