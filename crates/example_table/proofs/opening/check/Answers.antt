use Rattle.std.proofs.Common.{◌≡◌, ◌+◌, ◌≤◌, true, length, refl, ap, subst, arith}
use Rattle.std.proofs.lemmas.List.{take_all}
use Rattle.example_table.specs.Opening.{AreWithin}
use Rattle.example_table.proofs.Openings.{within-at, within-next}
use Rattle.example_table.proofs.opening.check.Goals as goal

pub loop-change-init : goal.loop-change-init
loop-change-init c = tt

pub loop-change-preserved : goal.loop-change-preserved
loop-change-preserved c =
    let fits : c.change-item.result.offset + length c.bytes.result.now ≤ c.args.device.now.size = c.fits.ensures.0 c.if-not-fits.false in
    within-next c.args.device.now.pages c.args.device.now.size c.args.changes.now c.loop-change.change-index c.change-item.result c.loop-change-test.true c.change-item.is c.loop-change.invariant
    (omega (arith, c.number.ensures)) (omega (arith, fits, ap (λ t. length t) c.bytes.ensures))

pub returns-clause-within : goal.returns-clause-within
returns-clause-within c = subst (AreWithin c.args.device.now.pages c.args.device.now.size) (take_all c.loop-change.change-index c.args.changes.now c.loop-change-test.false) c.loop-change.invariant

pub returns-then-number-device-clause-beyond : goal.returns-then-number-device-clause-beyond
returns-then-number-device-clause-beyond c = (refl, λ w. (let at = within-at c.args.device.now.pages c.args.device.now.size c.args.changes.now c.loop-change.change-index c.change-item.result c.loop-change-test.true c.change-item.is w in omega (arith, at.0, c.number.ensures)))

pub returns-then-not-fits-clause-beyond : goal.returns-then-not-fits-clause-beyond
returns-then-not-fits-clause-beyond c = (refl, λ w. (let at = within-at c.args.device.now.pages c.args.device.now.size c.args.changes.now c.loop-change.change-index c.change-item.result c.loop-change-test.true c.change-item.is w in let yes : c.fits.result ≡ true = c.fits.ensures.1 (omega (arith, at.1, ap (λ t. length t) c.bytes.ensures)) in let no = c.if-not-fits.true in absurd cc))
