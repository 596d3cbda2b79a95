use Rattle.std.proofs.Common.{arith, sym, ◌∙◌, List, ℕ, Bor}
use Rattle.csv.specs.Records.{fields_of}
use Rattle.bp_trace.proofs.SixFields.{no_seventh, seventh, six_of-short, six_of-whole}
use Rattle.bp_trace.proofs.fields.six_fields.Goals as goal

pub returns-then-is_some : goal.returns-then-is_some
returns-then-is_some c = seventh (λ (s : Bor (List ℕ)). s.now) c.get.result (fields_of c.args.raw.now) (sym c.is_some.ensures ∙ c.if-is_some.true) c.get.ensures.value

pub returns-in_err-get : goal.returns-in_err-get
returns-in_err-get c = rw c.from_residual.ensures (six_of-short 0 (fields_of c.args.raw.now) (omega arith) c.in_err-get.ensures.value)

pub returns-in_err-get-2 : goal.returns-in_err-get-2
returns-in_err-get-2 c = rw c.from_residual-in_err-get-2.ensures (six_of-short 1 (fields_of c.args.raw.now) (omega arith) c.in_err-get-2.ensures.value)

pub returns-in_err-get-3 : goal.returns-in_err-get-3
returns-in_err-get-3 c = rw c.from_residual-in_err-get-3.ensures (six_of-short 2 (fields_of c.args.raw.now) (omega arith) c.in_err-get-3.ensures.value)

pub returns-in_err-get-4 : goal.returns-in_err-get-4
returns-in_err-get-4 c = rw c.from_residual-in_err-get-4.ensures (six_of-short 3 (fields_of c.args.raw.now) (omega arith) c.in_err-get-4.ensures.value)

pub returns-in_err-get-5 : goal.returns-in_err-get-5
returns-in_err-get-5 c = rw c.from_residual-in_err-get-5.ensures (six_of-short 4 (fields_of c.args.raw.now) (omega arith) c.in_err-get-5.ensures.value)

pub returns-in_err-get-6 : goal.returns-in_err-get-6
returns-in_err-get-6 c = rw c.from_residual-in_err-get-6.ensures (six_of-short 5 (fields_of c.args.raw.now) (omega arith) c.in_err-get-6.ensures.value)

pub returns : goal.returns
returns c =
    let last = no_seventh (λ (s : Bor (List ℕ)). s.now) c.get.result (fields_of c.args.raw.now) (sym c.is_some.ensures ∙ c.if-is_some.false) c.get.ensures.value in
    six_of-whole (fields_of c.args.raw.now) c.in_ok-get.field-0.now c.in_ok-get-2.field-0.now c.in_ok-get-3.field-0.now c.in_ok-get-4.field-0.now c.in_ok-get-5.field-0.now c.in_ok-get-6.field-0.now
    c.in_ok-get.ensures.value c.in_ok-get-2.ensures.value c.in_ok-get-3.ensures.value c.in_ok-get-4.ensures.value c.in_ok-get-5.ensures.value c.in_ok-get-6.ensures.value last
