use Rattle.std.proofs.Common.{◌≡◌, ◌∙◌, ◌++◌, ap, arith}
use Rattle.example_log.specs.Commits.{log_of}
use Rattle.example_log.specs.Frames.{IsRecord, NoFrame, frame, frames}
use Rattle.example_log.specs.Heads.{OtherHead, ReadFault}
use Rattle.example_log.specs.Heads.ReadFault.{no_log, other_head, uneven}
use Rattle.example_log.proofs.Heads.{before-rest, changes-fault, err-of, no-log, none-of, other-head, some-of, tells-any}
use Rattle.example_log.proofs.CommitsRead.{shorter-frame, finds-first, finds-next, finds-all}
use Rattle.example_log.proofs.Refusals.{next-is, refused-on}
use Rattle.example_log.proofs.reading.read_log.Goals as goal

pub loop-next-init : goal.loop-next-init
loop-next-init c =
    let told = some-of c.in_ok-found.field-0 c.in-Some.found (λ f. c.args.bytes.now ≡ frame f.lsn f.payload.now ++ f.rest.now) c.in-Some.is c.in_ok-found.ensures.some in
    let range = some-of c.in_ok-found.field-0 c.in-Some.found (λ f. IsRecord f.lsn f.payload.now) c.in-Some.is c.in_ok-found.ensures.range in
    let same = some-of c.in_ok-found.field-0 c.in-Some.found (λ f. f.payload.now ≡ c.args.head.now) c.in-Some.is c.in_ok-found.ensures.same in
    finds-first c.args.head.now c.in-Some.found.payload.now c.args.bytes.now c.in-Some.found.rest.now c.in-Some.found.lsn c.new-changes.result.items told range same c.new-changes.ensures.items

pub loop-next-smaller : goal.loop-next-smaller
loop-next-smaller c = shorter-frame c.loop-next.rest.now c.in-Some-read_frame.next.rest.now c.in-Some-read_frame.next.lsn c.in-Some-read_frame.next.payload.now c.in-Some-read_frame.ensures.some

pub loop-next-preserved : goal.loop-next-preserved
loop-next-preserved c =
    let read = c.in_ok-read_changes.ensures.read in
    finds-next c.args.head.now c.args.bytes.now c.in-Some.found.lsn c.loop-next.last c.in-Some-read_frame.next.lsn c.loop-next.changes.items c.read_changes.new.into.items read.0
    c.in-Some-read_frame.next.payload.now c.loop-next.rest.now c.in-Some-read_frame.next.rest.now
    c.loop-next.invariant c.in-Some-read_frame.ensures.some c.in-Some-read_frame.ensures.range c.if-next-last.false read.1 read.2 read.3

pub returns-clause-read : goal.returns-clause-read
returns-clause-read c =
    let so = c.loop-next.invariant in
    finds-all c.args.head.now c.args.bytes.now c.in-Some.found.lsn c.loop-next.last c.loop-next.changes.items c.loop-next.rest.now _ so c.in_default-read_frame.ensures.none
    (before-rest c.args.bytes.now (frames c.in-Some.found.lsn (log_of c.args.head.now so.commits)) c.loop-next.rest.now so.told)

pub returns-in_default-clause-fault : goal.returns-in_default-clause-fault
returns-in_default-clause-fault c = no_log (none-of c.in_ok-found.field-0 (NoFrame c.args.bytes.now) c.in_default.is c.in_ok-found.ensures.none)

pub returns-in_default-clause-unread : goal.returns-in_default-clause-unread
returns-in_default-clause-unread c = no-log c.args.head.now c.args.bytes.now (none-of c.in_ok-found.field-0 (NoFrame c.args.bytes.now) c.in_default.is c.in_ok-found.ensures.none)

pub returns-in_err-found-clause-fault : goal.returns-in_err-found-clause-fault
returns-in_err-found-clause-fault c = err-of c.from_residual.result c.in_err-found.field-0.0 (ReadFault c.args.head.now c.args.bytes.now) c.from_residual.ensures.1 (other_head c.in_err-found.ensures.other)

pub returns-in_err-found-clause-unread : goal.returns-in_err-found-clause-unread
returns-in_err-found-clause-unread c =
    refused-on c.from_residual.result c.in_err-found.field-0.0 (OtherHead c.args.head.now c.args.bytes.now c.in_err-found.field-0.0) _ c.from_residual.ensures.1
    (other-head c.args.head.now c.args.bytes.now c.in_err-found.field-0.0) (tells-any c.in_err-found.field-0.0 _ c.in_err-found.ensures.other)

pub returns-then-next-last-clause-fault : goal.returns-then-next-last-clause-fault
returns-then-next-last-clause-fault c =
    let so = c.loop-next.invariant in
    let next = c.in-Some-read_frame.next in
    let fit = c.in-Some-read_frame.ensures.range in
    let differs = c.if-next-last.true in
    let last = so.last_is in
    let positive = fit.positive in
    uneven {commits = so.commits} (record { rest = next.rest.now; records = so.records; is_record = fit; stands = so.told ∙ ap (λ t. frames c.in-Some.found.lsn (log_of c.args.head.now so.commits) ++ t) c.in-Some-read_frame.ensures.some })
    (λ e. differs (omega (arith, e)))

pub returns-in_err-read_changes-clause-fault : goal.returns-in_err-read_changes-clause-fault
returns-in_err-read_changes-clause-fault c =
    let so = c.loop-next.invariant in
    let next = c.in-Some-read_frame.next in
    err-of c.from_residual-in_err-read_changes.result c.in_err-read_changes.field-0.0 (ReadFault c.args.head.now c.args.bytes.now) c.from_residual-in_err-read_changes.ensures.1
    (changes-fault c.in_err-read_changes.field-0.0 c.args.head.now c.args.bytes.now so.commits c.in-Some.found.lsn next.lsn next.payload.now
    (record { rest = next.rest.now; records = so.records; is_record = c.in-Some-read_frame.ensures.range; stands = so.told ∙ ap (λ t. frames c.in-Some.found.lsn (log_of c.args.head.now so.commits) ++ t) c.in-Some-read_frame.ensures.some })
    c.in_err-read_changes.ensures.fault c.in_err-read_changes.ensures.unread)

pub returns-then-next-last-clause-unread : goal.returns-then-next-last-clause-unread
returns-then-next-last-clause-unread c = λ f l cs h.
    (let n =
    next-is c.args.head.now c.args.bytes.now c.in-Some.found.lsn c.loop-next.last c.loop-next.changes.items c.loop-next.rest.now c.in-Some-read_frame.next.lsn c.in-Some-read_frame.next.payload.now c.in-Some-read_frame.next.rest.now
    c.loop-next.invariant c.in-Some-read_frame.ensures.some c.in-Some-read_frame.ensures.range f l cs h in
    c.if-next-last.true (omega (arith, n.0)))

pub returns-in_err-read_changes-clause-unread : goal.returns-in_err-read_changes-clause-unread
returns-in_err-read_changes-clause-unread c =
    refused-on c.from_residual-in_err-read_changes.result c.in_err-read_changes.field-0.0 _ _ c.from_residual-in_err-read_changes.ensures.1
    (λ none f l cs h.
    (let n =
    next-is c.args.head.now c.args.bytes.now c.in-Some.found.lsn c.loop-next.last c.loop-next.changes.items c.loop-next.rest.now c.in-Some-read_frame.next.lsn c.in-Some-read_frame.next.payload.now c.in-Some-read_frame.next.rest.now
    c.loop-next.invariant c.in-Some-read_frame.ensures.some c.in-Some-read_frame.ensures.range f l cs h in
    none n.1 n.3 n.2)) c.in_err-read_changes.ensures.unread
