use Rattle.std.proofs.Common.{◌≡◌, ◌∙◌, ◌++◌, ◌+◌, drop, sym, ap, append_assoc, arith}
use Rattle.std.proofs.KnownBytes.{Appends-trans}
use Rattle.std.proofs.lemmas.List.{append-nil, drop_all}
use Rattle.bp_trace.specs.Lines.{event_line}
use Rattle.bp_trace.specs.Pieces.{lines_from, Taken, taken_by, and_one, and_taken}
use Rattle.bp_trace.proofs.Pieces.{and_taken-drop, lines_from-drop, time-grows}
use Rattle.bp_trace.proofs.printing.pieces.ReportRun.lines.Goals as goal

pub line-requires-clause-time : goal.line-requires-clause-time
line-requires-clause-time g c =
    let inv = c.loop-entry.invariant in
    let i = c.loop-entry.entry-index in
    let e = c.entry-item.result in
    let es = c.args.entries.now in
    let now = taken_by c.loop-entry.self in
    let same : and_taken (and_one e now) (drop (i + 1) es) ≡ and_taken (taken_by c.args.self.now) es = sym (and_taken-drop now es i e c.loop-entry-test.true c.entry-item.is) ∙ inv.taken in
    omega (arith, time-grows (and_one e now) (drop (i + 1) es), ap (λ (t : Taken). t.time) same, c.requires.taken.0)

pub loop-entry-preserved : goal.loop-entry-preserved
loop-entry-preserved g c =
    let inv = c.loop-entry.invariant in
    let i = c.loop-entry.entry-index in
    let e = c.entry-item.result in
    let es = c.args.entries.now in
    let now = taken_by c.loop-entry.self in
    let w = g.W.Write.contents in
    let line = event_line c.loop-entry.self.time e in
    let next = c.in-Ok.ensures.taken in
    record {
      well = c.line.ensures.well ∙ inv.well;
      count = omega (arith, inv.count, ap (λ (t : Taken). t.entries) next);
      taken = ap (λ t. and_taken t (drop (i + 1) es)) next ∙ sym (and_taken-drop now es i e c.loop-entry-test.true c.entry-item.is) ∙ inv.taken;
      written = inv.written ++ line;
      appended = Appends-trans (w c.args.writer.now) (w c.loop-entry.writer) (w c.line.new.writer) inv.written line inv.appended c.in-Ok.ensures.line;
      left = ap (λ (t : Taken). (inv.written ++ line) ++ lines_from t.time (drop (i + 1) es)) next
          ∙ append_assoc inv.written line (lines_from (and_one e now).time (drop (i + 1) es))
          ∙ ap (λ t. inv.written ++ t) (sym (lines_from-drop now es i e c.loop-entry-test.true c.entry-item.is))
          ∙ inv.left;
    }

-- what stands before this entry is of the piece
pub returns-in-Err-clause-no_more : goal.returns-in-Err-clause-no_more
returns-in-Err-clause-no_more g c =
    let inv = c.loop-entry.invariant in
    let i = c.loop-entry.entry-index in
    let es = c.args.entries.now in
    let now = taken_by c.loop-entry.self in
    let same = c.in-Err.ensures.stays in (
      omega (arith, ap (λ (t : Taken). t.time) same, time-grows now (drop i es), ap (λ (t : Taken). t.time) inv.taken),
      omega (arith, ap (λ (t : Taken). t.entries) same, inv.count, c.loop-entry-test.true),
    )

pub returns-then-self-clause-no_more : goal.returns-then-self-clause-no_more
returns-then-self-clause-no_more g c = (time-grows (taken_by c.args.self.now) c.args.entries.now, omega arith)

pub returns-clause-lines : goal.returns-clause-lines
unfolding lines_from
returns-clause-lines g c =
    let inv = c.loop-entry.invariant in
    let none = drop_all c.loop-entry.entry-index c.args.entries.now c.loop-entry-test.false in
    rw (← (sym (append-nil inv.written) ∙ rw none at inv.left)) inv.appended

pub returns-clause-taken : goal.returns-clause-taken
unfolding and_taken
returns-clause-taken g c =
    let inv = c.loop-entry.invariant in
    let none = drop_all c.loop-entry.entry-index c.args.entries.now c.loop-entry-test.false in
    rw none at inv.taken
