use Rattle.std.proofs.Common.{arith}
use Rattle.example_log.proofs.Refusals.{none-short, none-one, none-two, none-far, none-cut}
use Rattle.example_log.proofs.reading.read_change.Goals as goal

pub returns-in_default-clause-unread : goal.returns-in_default-clause-unread
returns-in_default-clause-unread c = none-short c.args.bytes.now c.args.lsn c.in_default.ensures.none

pub returns-in_default-split_number-clause-unread : goal.returns-in_default-split_number-clause-unread
returns-in_default-split_number-clause-unread c =
    none-one c.args.bytes.now c.args.lsn c.in-Some.page c.in-Some.rest.now c.in-Some.ensures.some c.in-Some.ensures.range c.in_default-split_number.ensures.none

pub returns-in_default-split_number-2-clause-unread : goal.returns-in_default-split_number-2-clause-unread
returns-in_default-split_number-2-clause-unread c =
    none-two c.args.bytes.now c.args.lsn c.in-Some.page c.in-Some.rest.now c.in-Some.ensures.some c.in-Some.ensures.range
    c.in-Some-split_number.offset c.in-Some-split_number.rest.now c.in-Some-split_number.ensures.some c.in-Some-split_number.ensures.range c.in_default-split_number-2.ensures.none

pub returns-then-offset-clause-unread : goal.returns-then-offset-clause-unread
returns-then-offset-clause-unread c =
    none-far c.args.bytes.now c.args.lsn c.in-Some.page c.in-Some.rest.now c.in-Some.ensures.some c.in-Some.ensures.range
    c.in-Some-split_number.offset c.in-Some-split_number.rest.now c.in-Some-split_number.ensures.some c.in-Some-split_number.ensures.range
    c.in-Some-split_number-2.length c.in-Some-split_number-2.rest.now c.in-Some-split_number-2.ensures.some c.in-Some-split_number-2.ensures.range (omega arith)

pub returns-then-rest-length-clause-unread : goal.returns-then-rest-length-clause-unread
returns-then-rest-length-clause-unread c =
    none-cut c.args.bytes.now c.args.lsn c.in-Some.page c.in-Some.rest.now c.in-Some.ensures.some c.in-Some.ensures.range
    c.in-Some-split_number.offset c.in-Some-split_number.rest.now c.in-Some-split_number.ensures.some c.in-Some-split_number.ensures.range
    c.in-Some-split_number-2.length c.in-Some-split_number-2.rest.now c.in-Some-split_number-2.ensures.some c.in-Some-split_number-2.ensures.range (omega arith)
