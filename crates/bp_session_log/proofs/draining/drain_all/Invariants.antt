-- The rings before this one were drained, and the others are as they were.
use Rattle.std.proofs.Common.{◌≡◌, map, take, drop, vec_len, IsTrue}
use Rattle.bp_session_log.specs.Rings.{ring_view, DrainsRings, NoneWaits}
use Rattle.bp_session_log.proofs.draining.drain_all.Given as goal

abbrev pub invariant-loop-client : goal.invariant-loop-client
invariant-loop-client g l =
    let i = l.client in
    let first = map ring_view l.initial.consumers.items in
    let now = map ring_view l.consumers.items in
    record {
      parameters : l.core.parameters ≡ l.initial.core.parameters;
      before : l.core.before ≡ l.initial.core.before;
      count : vec_len l.consumers ≡ vec_len l.initial.consumers;
      drained : DrainsRings 32 0 (take i first) (take i now) l.initial.core.past l.core.past;
      left : drop i now ≡ drop i first;
      quiet : IsTrue l.is_quiet → NoneWaits (take i now);
    }
