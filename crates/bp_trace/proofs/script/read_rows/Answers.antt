use Rattle.std.proofs.Common.{Bor, List, ℕ, ◌≡◌, ◌∙◌, ◌≤◌, ap, rules, inl, inr, true, Some, Err, arith}
use Rattle.std.specs.Result.{is_ok}
use Rattle.csv.specs.Records.{fields_of}
use Rattle.bp_trace.specs.declared.faults.InputFault.TheVariants as input_fault
use Rattle.bp_trace.specs.Script.{fault, most_rows}
use Rattle.bp_trace.proofs.CsvRecords.{takes_next, takes_none}
use Rattle.bp_trace.proofs.RowSteps.{rows_then-none, script_from-end, refused_at, script_from-row, script_from-too_long}
use Rattle.bp_trace.proofs.script.read_rows.Goals as goal

pub loop-number-init : goal.loop-number-init
loop-number-init c = record { trim = c.requires.trim; ready = c.requires.ready; goes = λ left leaves. (left, leaves, rw c.requires.empty (rows_then-none _)) }

pub returns-then-not-found : goal.returns-then-not-found
returns-then-not-found c = λ all leaves.
    let loop = c.loop-number in
    let inv = loop.invariant in
    let (left, leaves_left, so_far) = inv.goes all leaves in
    let read = rw c.if-not-found.true at (c.in-Ok.ensures.reads inv.trim inv.ready) in
    let none = takes_none (λ (s : Bor (List ℕ)). Some s.now) loop.reader c.read_byte_record.new.self (fields_of c.read_byte_record.new.row) left leaves_left read in
    script_from-end c.args.geometry.now loop.number loop.rows.items left _ so_far none

pub returns-in-Err-parse_row : goal.returns-in-Err-parse_row
returns-in-Err-parse_row c = λ all leaves.
    let loop = c.loop-number in
    let inv = loop.invariant in
    let (left, leaves_left, so_far) = inv.goes all leaves in
    let fields = fields_of c.read_byte_record.new.row in
    let read = rw c.if-not-found.false at (c.in-Ok.ensures.reads inv.trim inv.ready) in
    let taken = takes_next (λ (s : Bor (List ℕ)). Some s.now) loop.reader c.read_byte_record.new.self fields left leaves_left read in
    let bound : loop.number ≤ most_rows = let h = c.loop-number-test.true in omega arith in
    rw c.fault_at.ensures (
    (refused_at c.args.geometry.now loop.number loop.rows.items left _ so_far fields taken.rest taken.split c.in-Err-parse_row.why bound c.in-Err-parse_row.ensures))

pub loop-number-preserved : goal.loop-number-preserved
loop-number-preserved c =
    let loop = c.loop-number in
    let inv = loop.invariant in
    let fields = fields_of c.read_byte_record.new.row in
    let read = rw c.if-not-found.false at (c.in-Ok.ensures.reads inv.trim inv.ready) in
    let bound : loop.number ≤ most_rows = let h = c.loop-number-test.true in omega arith in
    let good : is_ok c.push.result ≡ true = search rules in
    let items = rw good at c.push.ensures.items in
    record {
      trim = read.3 ∙ inv.trim;
      ready = inl (c.in-Ok.ensures.ready inv.trim);
      goes = λ all leaves.
          let (left, leaves_left, so_far) = inv.goes all leaves in
          let taken = takes_next (λ (s : Bor (List ℕ)). Some s.now) loop.reader c.read_byte_record.new.self fields left leaves_left read in
          (taken.rest, taken.leaves, rw items (script_from-row c.args.geometry.now loop.number loop.rows.items left _ so_far fields taken.rest taken.split c.in-Ok-parse_row.row bound c.in-Ok-parse_row.ensures));
    }

pub returns-then-more : goal.returns-then-more
returns-then-more c = λ all leaves.
    let loop = c.loop-number in
    let inv = loop.invariant in
    let (left, leaves_left, so_far) = inv.goes all leaves in
    let fields = fields_of c.read_byte_record-2.new.row in
    let read = rw c.if-more.true at (c.in-Ok-read_byte_record.ensures.reads inv.trim inv.ready) in
    let taken = takes_next (λ (s : Bor (List ℕ)). Some s.now) loop.reader c.read_byte_record-2.new.self fields left leaves_left read in
    let last : loop.number ≡ 262145 = let h = c.loop-number-test.false in let e = c.loop-number.auto.number-end in omega arith in
    let long = script_from-too_long c.args.geometry.now loop.number loop.rows.items left _ so_far fields taken.rest taken.split (omega arith) in
    rw c.new-then-more.ensures (inr (long ∙ ap (λ (k : ℕ). Err (fault k input_fault.TooLong)) last))

pub returns : goal.returns
returns c = λ all leaves.
    let loop = c.loop-number in
    let inv = loop.invariant in
    let (left, leaves_left, so_far) = inv.goes all leaves in
    let read = rw c.if-more.false at (c.in-Ok-read_byte_record.ensures.reads inv.trim inv.ready) in
    let none = takes_none (λ (s : Bor (List ℕ)). Some s.now) loop.reader c.read_byte_record-2.new.self (fields_of c.read_byte_record-2.new.row) left leaves_left read in
    script_from-end c.args.geometry.now loop.number loop.rows.items left _ so_far none
