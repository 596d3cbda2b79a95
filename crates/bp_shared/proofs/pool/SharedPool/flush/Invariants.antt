-- The turns so far.
use Rattle.std.proofs.Common.{◌≡◌, ◌≤◌}
use Rattle.bp_shared.proofs.Turning.{FlushWaits}
use Rattle.bp_shared.specs.Sessions.{DoesWorkSaid}
use Rattle.bp_shared.specs.Keeping.{MayAct}
use Rattle.bp_shared.specs.Writing.{WithLsnSeen}
use Rattle.bp_shared.proofs.pool.SharedPool.flush.Given as goal

abbrev pub invariant-loop : goal.invariant-loop
invariant-loop g l =
    record {
      client : l.session.client ≡ l.initial.session.client;
      before : l.session.before ≡ l.initial.session.before;
      acts : MayAct g.N.PartNames.parameters g.N.PartNames.past l.initial.session l.session;
      passes : l.initial.session.passes ≤ l.session.passes;
      places : l.initial.session.places ≤ l.session.places;
      port : g.P.Port.geometry_of l.port ≡ g.P.Port.geometry_of l.initial.port;
      waits : FlushWaits l.initial.session.client l.page l.initial.session.said l.session.said;
      work : DoesWorkSaid g.P.Port.read_gives (WithLsnSeen l.initial.session l.session g.P.Port.write_gives) l.initial.session.said l.session.said l.initial.port l.port;
    }
