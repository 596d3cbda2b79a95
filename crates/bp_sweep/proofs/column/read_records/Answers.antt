-- One record after the other.
use Rattle.std.proofs.Common.{◌∙◌, ◌+◌, refl, sym, ap, subst, rules, arith, inl, length, [], Some, Ok}
use Rattle.std.specs.Prelude.{IfSome, option_map}
use Rattle.csv.specs.Reading.{default_config, records, strip_bom}
use Rattle.csv.specs.Records.{fields_of}
use Rattle.bp_sweep.specs.Column.{ReadsColumn, TakesRecord, field_in, is_title}
use Rattle.bp_sweep.proofs.Lines.{fault-is}
use Rattle.bp_sweep.proofs.Columns.{reading-next, reading-header, reading-end, reading-fault, reading-few, takes-plain, no-header, header-line, header-title}
use Rattle.bp_sweep.proofs.column.read_records.Goals as goal
use Rattle.bp_sweep.proofs.column.read_records.Goals.{then-not-is_header+in_ok-add-in-Some, else-not-is_header}

pub loop-line-init : goal.loop-line-init
loop-line-init g c =
    let made = c.from_reader-records.ensures in
    record {
      reading = record {
        numbers = [];
        seen = [];
        header = [];
        taken = [];
        holds = c.new-gathered.ensures;
        is_header = tt;
        begins = λ none. refl;
        said = refl;
        count = refl;
        line_is = refl;
        plain = search rules;
        ready = search rules;
        lasts = λ bytes known. record {
          left = records default_config (strip_bom bytes);
          leaves = record {
            config = search rules;
            between = rw made.state refl;
            text = strip_bom bytes;
            source = made.source ∙ ap (option_map strip_bom) known;
            fuel = length (strip_bom bytes) + 1;
            enough = omega arith;
            records = rw made.state refl;
          };
          split = refl;
        };
      };
      few = omega arith;
    }

pub returns-in-None : goal.returns-in-None
returns-in-None g c =
    let rem = g.R.Read.remaining in
    let known = g.R.Read.remaining c.args.reader in
    let r = c.loop-line.invariant.reading in
    let row = fields_of c.next_record.new.row in
    let takes = subst (λ f. TakesRecord g.R.Read.remaining c.loop-line.records c.next_record.new.records c.args.column row f) c.in-None.is (c.in_ok-next_record.ensures.taken r.plain r.ready) in
    subst (λ pages. IfSome known (ReadsColumn (Ok pages) c.args.column)) (sym c.into_references.ensures)
    (reading-end rem c.args.column known c.loop-line.records c.next_record.new.records c.loop-line.line row c.loop-line.gathered r takes)

pub returns-in_err-add-in-Some : goal.returns-in_err-add-in-Some
returns-in_err-add-in-Some g c =
    let rem = g.R.Read.remaining in
    let known = g.R.Read.remaining c.args.reader in
    let r = c.loop-line.invariant.reading in
    let row = fields_of c.next_record.new.row in
    let takes = subst (λ f. TakesRecord g.R.Read.remaining c.loop-line.records c.next_record.new.records c.args.column row f) c.in-Some.is (c.in_ok-next_record.ensures.taken r.plain r.ready) in
    let fault = c.in_err-add-in-Some.field-0.0 in
    subst (λ a. IfSome known (ReadsColumn a c.args.column)) (sym (fault-is c.from_residual-in_err-add-in-Some.result fault c.from_residual-in_err-add-in-Some.ensures.1))
    (reading-fault rem c.args.column known c.loop-line.records c.next_record.new.records c.loop-line.line c.in-Some.said row c.loop-line.gathered c.add.new.self fault r takes
    (no-header c.loop-line.line (is_title (field_in c.args.column row)) c.is_header.result c.is_header.ensures c.if-not-is_header.true) c.in_err-add-in-Some.ensures)

pub loop-line-preserved : goal.loop-line-preserved
loop-line-preserved g c =
    let rem = g.R.Read.remaining in
    let known = g.R.Read.remaining c.args.reader in
    let old = c.loop-line.records in
    let new = c.next_record.new.records in
    let r = c.loop-line.invariant.reading in
    let row = fields_of c.next_record.new.row in
    let takes = subst (λ f. TakesRecord g.R.Read.remaining c.loop-line.records c.next_record.new.records c.args.column row f) c.in-Some.is (c.in_ok-next_record.ensures.taken r.plain r.ready) in
    let plain = takes-plain rem c.args.column old new row (Some c.in-Some.said) takes r.plain in
    let ready = inl (c.in_ok-next_record.ensures.ready r.plain) in
    elim c.if-not-is_header.branch [
      | then-not-is_header+in_ok-add-in-Some w ↦ rw w.gathered-is (
          let after = reading-next rem c.args.column known old new c.loop-line.line c.in-Some.said row c.loop-line.gathered w.add.new.self r takes plain ready
          (no-header c.loop-line.line (is_title (field_in c.args.column row)) c.is_header.result c.is_header.ensures w.if-not-is_header.true) w.in_ok-add-in-Some.ensures in
          record { reading = after; few = reading-few rem c.args.column known new (c.loop-line.line + 1) w.add.new.self after })
      | else-not-is_header w ↦ rw w.gathered-is (
          let after = reading-header rem c.args.column known old new c.loop-line.line c.in-Some.said row c.loop-line.gathered r takes plain ready
          (header-line c.loop-line.line (is_title (field_in c.args.column row)) c.is_header.result c.is_header.ensures w.if-not-is_header.false) (header-title c.loop-line.line (is_title (field_in c.args.column row)) c.is_header.result c.is_header.ensures w.if-not-is_header.false) in
          record { reading = after; few = reading-few rem c.args.column known new (c.loop-line.line + 1) c.loop-line.gathered after })
    ]
