use Rattle.std.proofs.Common.{sym, arith}
use Rattle.bp_frames.proofs.Bits.{none-here, none-whole, first-word, first-here, first-fits, first-none}
use Rattle.bp_frames.proofs.bit_row.BitRow.first_in.Goals as goal

pub returns-then-rest-eq0-clause-none : goal.returns-then-rest-eq0-clause-none
returns-then-rest-eq0-clause-none c = λ r le same. none-here c.args.self.now c.args.from c.word.result (sym c.word.ensures) c.if-rest-eq0.true r le same

pub returns-then-rest-eq0-clause-empty : goal.returns-then-rest-eq0-clause-empty
returns-then-rest-eq0-clause-empty c = λ start. none-whole c.args.self.now c.args.from c.word.result (sym c.word.ensures) c.if-rest-eq0.true start

pub overflow_add-result : goal.overflow_add-result
overflow_add-result c = let fits = first-fits c.args.self.now c.args.from c.word.result (sym c.word.ensures) c.word.type_inv c.if-rest-eq0.false c.ranges.from.fits in omega (arith, fits)

pub returns-clause-same_word : goal.returns-clause-same_word
returns-clause-same_word c = first-word c.args.self.now c.args.from c.word.result (sym c.word.ensures) c.word.type_inv c.if-rest-eq0.false

pub returns-clause-here : goal.returns-clause-here
returns-clause-here c = first-here c.args.self.now c.args.from c.word.result (sym c.word.ensures) c.word.type_inv c.if-rest-eq0.false

pub returns-clause-none_between : goal.returns-clause-none_between
returns-clause-none_between c = λ r le lt. first-none c.args.self.now c.args.from c.word.result (sym c.word.ensures) c.word.type_inv c.if-rest-eq0.false r le lt
