-- What was taken so far went back.
use Rattle.std.proofs.Common.{◌≡◌}
use Rattle.bp_session_log.specs.Rings.{ring_view}
use Rattle.bp_session_log.proofs.Drains.{Takes}
use Rattle.bp_session_log.proofs.draining.drain_known.Given as goal

abbrev pub invariant-loop : goal.invariant-loop
invariant-loop g l =
    record {
      parameters : l.core.parameters ≡ l.initial.core.parameters;
      before : l.core.before ≡ l.initial.core.before;
      takes : Takes l.initial.client l.counter (ring_view l.initial.consumer) (ring_view l.consumer) l.initial.core.past l.core.past;
    }
