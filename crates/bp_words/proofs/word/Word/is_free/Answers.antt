use Rattle.std.proofs.Common.{rules, arith}
use Rattle.bp_words.proofs.Left.{read_free_mask, write_free_mask}
use Rattle.bp_words.proofs.word.Word.is_free.Goals as goal

pub returns-then-latch-eq-READER : goal.returns-then-latch-eq-READER
returns-then-latch-eq-READER c =
    let e0 = read_free_mask c.args.self.0 (search rules) in
    grind arith

pub returns-else-latch-eq-READER : goal.returns-else-latch-eq-READER
returns-else-latch-eq-READER c =
    let e0 = write_free_mask c.args.self.0 (search rules) in
    grind arith
