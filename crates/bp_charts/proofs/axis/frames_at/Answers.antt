use Rattle.std.proofs.Common.{◌+◌, arith}
use Rattle.std.proofs.lemmas.Nat.{pow_below}
use Rattle.bp_charts.proofs.axis.frames_at.Goals as goal

pub pow-requires : goal.pow-requires
pow-requires c =
    pow_below (c.args.scale.now.low + c.args.step) 128 (omega (arith, c.requires.sound.low, c.requires.sound.few, c.requires.on))
