use Rattle.std.proofs.Common.{◌≢◌, ◌∙◌, ◌<◌, arith}
use Rattle.std.proofs.lemmas.List.Sorted.{length_permutation}
use Rattle.bp_replacer.specs.Young.{since}
use Rattle.bp_replacer.proofs.YoungLaws.{queued_taken, queued_stale, since_is, since_past}
use Rattle.bp_replacer.proofs.young.Young.take_below.Goals as goal
use Rattle.bp_replacer.proofs.young.Young.take_below.Goals.{else-known-gt0-via-then-known-gt0+then-seat-len+else-index-known, else-known-gt0-via-then-known-gt0+else-seat-len, else-known-gt0-via-else-known-gt0}

pub invariant_of-self : goal.invariant_of-self
invariant_of-self c =
    let i = c.loop-known.self-inside in
    queued_taken i.since.items i.queue.pages c.pop_below.new.self.pages c.in-Some.known c.in-Some.seat (omega (arith, c.if-seat-len.true, c.len.ensures, i.since.ok.0)) c.loop-known.invariant.queued c.in-Some.ensures.taken

pub loop-known-smaller : goal.loop-known-smaller
loop-known-smaller c = omega (arith, length_permutation _ _ c.in-Some.ensures.taken)

pub loop-known-preserved : goal.loop-known-preserved
loop-known-preserved c =
    let i = c.loop-known.self-inside in
    let seat = c.in-Some.seat in
    let stale : 0 < since i.since.items seat → since i.since.items seat ≢ c.in-Some.known = λ waits is. elim c.else-known-gt0.branch [
      | else-known-gt0-via-then-known-gt0+then-seat-len+else-index-known w ↦ w.if-index-known.false (w.index.ensures ∙ since_is i.since.items seat w.index.result.now (omega (arith, w.if-seat-len.true, w.len.ensures, i.since.ok.0)) ∙ is)
      | else-known-gt0-via-then-known-gt0+else-seat-len w ↦ omega (arith, waits, since_past i.since.items seat (omega (arith, w.if-seat-len.false, w.len.ensures, i.since.ok.0)))
      | else-known-gt0-via-else-known-gt0 w ↦ omega (arith, waits, is, w.if-known-gt0.false)
    ] in
    record {
      same = c.loop-known.invariant.same;
      queued = queued_stale i.since.items i.queue.pages c.pop_below.new.self.pages (c.in-Some.known, seat) stale c.loop-known.invariant.queued c.in-Some.ensures.taken;
    }
