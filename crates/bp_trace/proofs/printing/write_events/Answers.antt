use Rattle.std.proofs.Common.{◌∙◌, ◌++◌, ◌+◌, ◌<◌, ◌^◌, [], ◌∷◌, ℕ, List, length, length-take, take, drop, sym, ap, append_assoc, arith, refl}
use Rattle.std.proofs.KnownBytes.{Appends-nil, Appends-trans}
use Rattle.std.proofs.lemmas.List.{append-nil, drop_all}
use Rattle.bp_trail.specs.Clock.{clock}
use Rattle.bp_trace.specs.Lines.{event_line}
use Rattle.bp_trail.specs.Totals.{totals_of}
use Rattle.bp_trace.specs.Report.{lines_after}
use Rattle.bp_trace.proofs.Entries.{clock-next, lines_after-drop}
use Rattle.bp_trail.proofs.Replies.{totals_of-room, totals_of-take}
use Rattle.bp_trace.proofs.printing.write_events.Goals as goal

pub loop-entry-init : goal.loop-entry-init
unfolding totals_of
loop-entry-init g c = record {
  past = [];
  time = refl;
  bound = omega arith;
  totals = c.none-totals.ensures;
  written = [];
  appended = Appends-nil (g.W.Write.contents c.args.writer.now);
  left = refl;
}

pub loop-entry-preserved : goal.loop-entry-preserved
loop-entry-preserved g c =
    let inv = c.loop-entry.invariant in
    let entries = c.args.entries.now in
    let i = c.loop-entry.entry-index in
    let e = c.entry-item.result in
    let w = g.W.Write.contents in
    let few : length (take i entries) + 1 < 2 ^ 64 = omega (arith, length-take i entries, c.loop-entry-test.true) in
    let line = event_line (clock inv.past) e in
    let shown = rw inv.time at c.in_ok-write_event.ensures in
    let steps = c.from-time.ensures ∙ c.steps_of.ensures in
    let lines = lines_after-drop inv.past entries i e c.loop-entry-test.true c.entry-item.is in
    record {
      past = e ∷ inv.past;
      time = rw (inv.time, steps) (sym (clock-next inv.past e.client e.call e.reply));
      bound = omega arith;
      totals = c.count.ensures (rw inv.totals (totals_of-room (take i entries) few)) ∙ rw inv.totals (sym (totals_of-take entries i e c.loop-entry-test.true c.entry-item.is));
      written = inv.written ++ line;
      appended = Appends-trans (w c.args.writer.now) (w c.loop-entry.writer) (w c.write_event.new.writer) inv.written line inv.appended shown;
      left = append_assoc inv.written line (lines_after (e ∷ inv.past) (drop (i + 1) entries)) ∙ ap (λ (t : List ℕ). inv.written ++ t) (sym lines) ∙ inv.left;
    }

pub returns-clause-lines : goal.returns-clause-lines
unfolding lines_after
returns-clause-lines g c =
    let inv = c.loop-entry.invariant in
    let none = drop_all c.loop-entry.entry-index c.args.entries.now c.loop-entry-test.false in
    rw (← (sym (append-nil inv.written) ∙ rw none at inv.left)) inv.appended
