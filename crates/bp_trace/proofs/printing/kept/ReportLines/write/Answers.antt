use Rattle.std.proofs.Common.{◌∙◌, [], take, get_or, subst, sym, ap}
use Rattle.std.specs.List.{flat_map}
use Rattle.std.specs.Io.KnownBytes.{Appends}
use Rattle.std.proofs.KnownBytes.{Appends-nil, Appends-trans}
use Rattle.std.proofs.lemmas.List.{take_more, flat_map_more}
use Rattle.bp_trace.specs.KeptLines.{text_of}
use Rattle.bp_trace.proofs.printing.kept.ReportLines.write.Goals as goal

pub loop-line-init : goal.loop-line-init
loop-line-init g c = Appends-nil (g.W.Write.contents c.args.writer.now)

pub loop-line-preserved : goal.loop-line-preserved
loop-line-preserved g c =
    let w = g.W.Write.contents in
    let i = c.loop-line.line-index in
    let lines = c.deref-line-items.result.now in
    let item = c.line-item.result in
    let line = get_or lines i item in
    subst (Appends (w c.args.writer.now) (w c.write.new.writer)) (flat_map_more text_of [] (take i lines) line ∙ ap (flat_map text_of) (sym (take_more lines i item c.loop-line-test.true)))
    (Appends-trans (w c.args.writer.now) (w c.loop-line.writer) (w c.write.new.writer) (flat_map text_of (take i lines)) (text_of line) c.loop-line.invariant
    (subst (λ x. Appends (w c.loop-line.writer) (w c.write.new.writer) (text_of x)) c.line-item.is c.in_ok-write.ensures))
