use Rattle.std.proofs.Common.{rules, arith}
use Rattle.bp_words.proofs.Left.{not_waited_mask}
use Rattle.bp_words.proofs.word.Word.with_readers.Goals as goal

pub overflow_add-result : goal.overflow_add-result
overflow_add-result c =
    let e0 = not_waited_mask c.args.self.0 (search rules) in
    grind arith

pub returns-then-is_queue_empty-clause-had : goal.returns-then-is_queue_empty-clause-had
returns-then-is_queue_empty-clause-had c =
    let e0 = not_waited_mask c.args.self.0 (search rules) in
    grind arith

pub returns-else-is_queue_empty-clause-had : goal.returns-else-is_queue_empty-clause-had
returns-else-is_queue_empty-clause-had c =
    let e0 = not_waited_mask c.args.self.0 (search rules) in
    grind arith
