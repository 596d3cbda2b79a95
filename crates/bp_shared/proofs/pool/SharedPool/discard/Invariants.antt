-- The turns so far.
use Rattle.std.proofs.Common.{◌≡◌}
use Rattle.bp_shared.proofs.Discarding.{DiscardWaits}
use Rattle.bp_shared.specs.Keeping.{MayAct}
use Rattle.bp_shared.specs.Sessions.{IsRoomy}
use Rattle.bp_shared.proofs.pool.SharedPool.discard.Given as goal

abbrev pub invariant-loop : goal.invariant-loop
invariant-loop g l =
    record {
      client : l.session.client ≡ l.initial.session.client;
      before : l.session.before ≡ l.initial.session.before;
      acts : MayAct g.N.PartNames.parameters g.N.PartNames.past l.initial.session l.session;
      roomy : IsRoomy l.initial.session → IsRoomy l.session;
      waits : DiscardWaits l.initial.session.client l.page l.initial.session.said l.session.said;
    }
