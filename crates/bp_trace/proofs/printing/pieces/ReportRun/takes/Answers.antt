use Rattle.std.proofs.Common.{◌∙◌, ◌+◌, length, drop, sym, ap, arith}
use Rattle.std.proofs.lemmas.Bool.{lt-ltb, ltb-true, leb-true}
use Rattle.std.proofs.lemmas.List.{drop_all}
use Rattle.bp_trace.specs.Pieces.{Taken, none_taken, and_one, and_taken}
use Rattle.bp_trace.proofs.Pieces.{and_taken-drop, time-alone}
use Rattle.bp_trace.proofs.printing.pieces.ReportRun.takes.Goals as goal

pub loop-entry-init : goal.loop-entry-init
loop-entry-init c = record {
  bound = omega (arith, c.from-time.ensures);
  left = time-alone _ _ c.args.entries.now c.from-time.ensures;
}

pub loop-entry-preserved : goal.loop-entry-preserved
loop-entry-preserved c =
    let inv = c.loop-entry.invariant in
    let i = c.loop-entry.entry-index in
    let e = c.entry-item.result in
    let es = c.args.entries.now in
    let now : Taken = record none_taken { time = c.loop-entry.time } in
    let steps = c.from-time-in-loop-entry.ensures ∙ c.steps_of.ensures in
    record {
      bound = omega (arith, inv.bound);
      left = time-alone (record none_taken { time = c.loop-entry.time + c.from-time-in-loop-entry.result }) (and_one e now) (drop (i + 1) es) (ap (λ n. c.loop-entry.time + n) steps)
          ∙ sym (ap (λ (t : Taken). t.time) (and_taken-drop now es i e c.loop-entry-test.true c.entry-item.is)) ∙ inv.left;
    }

pub returns-then-time-le-TIME_END : goal.returns-then-time-le-TIME_END
unfolding and_taken
returns-then-time-le-TIME_END c =
    let none = drop_all c.loop-entry.entry-index c.args.entries.now c.loop-entry-test.false in
    let time = rw none at c.loop-entry.invariant.left in
    let from = c.from.ensures in (
      (λ few. (omega (arith, time, c.if-time-le-TIME_END.true), omega (arith, from, ltb-true (length c.args.entries.now + c.from.result) 18446744073709551616 few))),
      (λ may. lt-ltb (length c.args.entries.now + c.from.result) 18446744073709551616 (omega (arith, from, may.1))),
    )

pub returns-else-time-le-TIME_END : goal.returns-else-time-le-TIME_END
unfolding and_taken
returns-else-time-le-TIME_END c =
    let none = drop_all c.loop-entry.entry-index c.args.entries.now c.loop-entry-test.false in
    let time = rw none at c.loop-entry.invariant.left in (
      (λ early. absurd (omega (arith, c.if-time-le-TIME_END.false, leb-true c.loop-entry.time 4611686018427387904 early))),
      (λ may. absurd (omega (arith, time, c.if-time-le-TIME_END.false, may.0))),
    )
