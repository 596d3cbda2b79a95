use Rattle.std.proofs.Common.{arith}
use Rattle.bp_trace.proofs.ReadBack.{rows-read_back}
use Rattle.bp_trace.proofs.laws.written_rows_read_back.Goals as goal

pub returns : goal.returns
returns c =
    let can = c.requires in
    let few = can.few in
    rows-read_back c.args.geometry.now 1 c.args.rows.now (omega arith) can.numbered can.in_range
