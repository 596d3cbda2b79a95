use Rattle.std.proofs.Common.{◌∙◌, ap, arith}
use Rattle.std.specs.Int.{w64, from_le_bytes}
use Rattle.example_log.proofs.Framing.{number-split}
use Rattle.example_log.proofs.frames.split_number.Goals as goal

pub returns-clause-some : goal.returns-clause-some
returns-clause-some c =
    number-split c.args.bytes.now c.split_at.result.1.now c.from_le_bytes-number.result (omega arith) c.type_inv.bytes
    (c.from_le_bytes-number.ensures ∙ ap (from_le_bytes w64) c.split_at.ensures.front) c.split_at.ensures.back
