use Rattle.std.proofs.Common.{codes, ◌++◌}
use Rattle.bp_trace.specs.Totals.{discards_text, total_line, totals_text}
use Rattle.bp_trace.proofs.Writes.{appends_next}
use Rattle.bp_trace.proofs.total_lines.write_totals.Goals as goal

pub returns : goal.returns
unfolding totals_text
returns g c =
    let w = g.W.Write.contents in
    let r = c.write_discards.result in
    let t = c.args.totals.now in
    let all = w c.write_discards.new.writer in
    let hits = total_line (codes "hits") t.hits in
    let faults = total_line (codes "faults") t.faults in
    let evictions = total_line (codes "evictions") t.evictions in
    let writes = total_line (codes "writes") t.writes in
    let failed = total_line (codes "failed") t.failed in
    let refused = total_line (codes "refused") t.refused in
    let discards = discards_text t.discards in
    appends_next r (w c.args.writer.now) (w c.write_total.new.writer) all hits (faults ++ (evictions ++ (writes ++ (failed ++ (refused ++ discards))))) c.in_ok-write_total.ensures
    (appends_next r (w c.write_total.new.writer) (w c.write_total-2.new.writer) all faults (evictions ++ (writes ++ (failed ++ (refused ++ discards)))) c.in_ok-write_total-2.ensures
    (appends_next r (w c.write_total-2.new.writer) (w c.write_total-3.new.writer) all evictions (writes ++ (failed ++ (refused ++ discards))) c.in_ok-write_total-3.ensures
    (appends_next r (w c.write_total-3.new.writer) (w c.write_total-4.new.writer) all writes (failed ++ (refused ++ discards)) c.in_ok-write_total-4.ensures
    (appends_next r (w c.write_total-4.new.writer) (w c.write_total-5.new.writer) all failed (refused ++ discards) c.in_ok-write_total-5.ensures
    (appends_next r (w c.write_total-5.new.writer) (w c.write_total-6.new.writer) all refused discards c.in_ok-write_total-6.ensures c.write_discards.ensures)))))
