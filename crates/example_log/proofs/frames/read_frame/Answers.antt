use Rattle.std.proofs.Common.{◌∙◌, ap, arith}
use Rattle.example_log.specs.Frames.{checksum}
use Rattle.example_log.proofs.Framing.{none-short, none-one, none-two, none-zero, none-cut, none-summed}
use Rattle.example_log.proofs.frames.read_frame.Goals as goal

pub returns-in_default-clause-none : goal.returns-in_default-clause-none
returns-in_default-clause-none c = none-short c.args.bytes.now c.in_default.ensures.none

pub returns-in_default-split_number-clause-none : goal.returns-in_default-split_number-clause-none
returns-in_default-split_number-clause-none c =
    none-one c.args.bytes.now c.in-Some.length c.in-Some.rest.now c.in-Some.ensures.some c.in-Some.ensures.range c.in_default-split_number.ensures.none

pub returns-in_default-split_number-2-clause-none : goal.returns-in_default-split_number-2-clause-none
returns-in_default-split_number-2-clause-none c =
    none-two c.args.bytes.now c.in-Some.length c.in-Some-split_number.lsn c.in-Some.rest.now c.in-Some-split_number.rest.now
    c.in-Some.ensures.some c.in-Some-split_number.ensures.some c.in-Some.ensures.range c.in-Some-split_number.ensures.range c.in_default-split_number-2.ensures.none

pub returns-then-lsn-eq0-clause-none : goal.returns-then-lsn-eq0-clause-none
returns-then-lsn-eq0-clause-none c =
    none-zero c.args.bytes.now c.in-Some.length c.in-Some-split_number.lsn c.in-Some-split_number-2.sum c.in-Some.rest.now c.in-Some-split_number.rest.now c.in-Some-split_number-2.rest.now
    c.in-Some.ensures.some c.in-Some-split_number.ensures.some c.in-Some-split_number-2.ensures.some c.in-Some.ensures.range c.in-Some-split_number.ensures.range c.in-Some-split_number-2.ensures.range c.if-lsn-eq0.true

pub returns-then-rest-length-clause-none : goal.returns-then-rest-length-clause-none
returns-then-rest-length-clause-none c =
    none-cut c.args.bytes.now c.in-Some.length c.in-Some-split_number.lsn c.in-Some-split_number-2.sum c.in-Some.rest.now c.in-Some-split_number.rest.now c.in-Some-split_number-2.rest.now
    c.in-Some.ensures.some c.in-Some-split_number.ensures.some c.in-Some-split_number-2.ensures.some c.in-Some.ensures.range c.in-Some-split_number.ensures.range c.in-Some-split_number-2.ensures.range (omega arith)

pub returns-then-checksum-sum-clause-none : goal.returns-then-checksum-sum-clause-none
returns-then-checksum-sum-clause-none c =
    none-summed c.args.bytes.now c.in-Some.length c.in-Some-split_number.lsn c.in-Some-split_number-2.sum c.in-Some.rest.now c.in-Some-split_number.rest.now c.in-Some-split_number-2.rest.now
    c.in-Some.ensures.some c.in-Some-split_number.ensures.some c.in-Some-split_number-2.ensures.some c.in-Some.ensures.range c.in-Some-split_number.ensures.range c.in-Some-split_number-2.ensures.range
    (λ e. c.if-checksum-sum.true (c.checksum.ensures ∙ ap (checksum c.in-Some-split_number.lsn) c.split_at.ensures.front ∙ e))
