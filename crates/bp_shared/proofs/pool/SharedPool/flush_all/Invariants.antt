-- The pages flushed so far.
use Rattle.std.proofs.Common.{◌≡◌, ◌-◌}
use Rattle.bp_shared.specs.FlushAll.{FlushesEach}
use Rattle.bp_shared.specs.Sessions.{DoesWorkSaid, IsRoomy}
use Rattle.bp_shared.specs.Keeping.{MayAct}
use Rattle.bp_shared.specs.Writing.{WithLsnSeen}
use Rattle.bp_shared.proofs.pool.SharedPool.flush_all.Given as goal

abbrev pub invariant-loop-page : goal.invariant-loop-page
invariant-loop-page g l =
    record {
      client : l.session.client ≡ l.initial.session.client;
      before : l.session.before ≡ l.initial.session.before;
      acts : MayAct g.N.PartNames.parameters g.N.PartNames.past l.initial.session l.session;
      roomy : IsRoomy l.initial.session → IsRoomy l.session;
      port : g.P.Port.geometry_of l.port ≡ g.P.Port.geometry_of l.initial.port;
      flushed : FlushesEach (record { parameters = g.N.PartNames.parameters; start = g.N.PartNames.past }) l.initial.session l.from l.session;
      work : DoesWorkSaid g.P.Port.read_gives (WithLsnSeen l.initial.session l.session g.P.Port.write_gives) l.initial.session.said l.session.said l.initial.port l.port;
    }

abbrev pub decreases-loop-page : goal.decreases-loop-page
decreases-loop-page g l = g.N.PartNames.parameters.pages - l.from
