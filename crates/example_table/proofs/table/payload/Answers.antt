use Rattle.std.proofs.Common.{◌+◌, ◌≤◌, length, refl, ap, arith}
use Rattle.example_table.proofs.Tabling.{payload-next}
use Rattle.example_table.proofs.table.payload.Goals as goal

pub loop-change-preserved : goal.loop-change-preserved
loop-change-preserved c =
    let fits : c.change-item.result.offset + length c.bytes.result.now ≤ c.args.device.now.size = c.fits.ensures.0 c.if-not-fits.false in
    let limits = c.args.device.now.in_limits in
    let bytes = ap (λ t. length t) c.bytes.ensures in
    λ lsn. payload-next lsn c.args.changes.now c.loop-change.change-index c.change-item.result c.loop-change.payload.items c.put_change.new.into.items c.loop-change-test.true c.change-item.is (c.loop-change.invariant lsn) c.in_ok-put_change.ensures
    (record { under = refl; page = omega (arith, c.number.ensures, c.number.type_inv); offset = omega (arith, fits, limits.small); size = omega (arith, fits, bytes, limits.small) })
