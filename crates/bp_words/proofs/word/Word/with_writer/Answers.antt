use Rattle.std.proofs.Common.{rules, arith}
use Rattle.bp_words.proofs.Left.{not_waited_mask}
use Rattle.bp_words.proofs.word.Word.with_writer.Goals as goal

pub overflow_add-result-else-is_queue_empty-2 : goal.overflow_add-result-else-is_queue_empty-2
overflow_add-result-else-is_queue_empty-2 c =
    let e0 = not_waited_mask c.args.self.0 (search rules) in
    grind arith

pub returns-then-is_latched-clause-latched : goal.returns-then-is_latched-clause-latched
returns-then-is_latched-clause-latched c =
    let e0 = not_waited_mask c.args.self.0 (search rules) in
    λ _. omega arith

pub returns-then-is_queue_empty-clause-free : goal.returns-then-is_queue_empty-clause-free
returns-then-is_queue_empty-clause-free c =
    let e0 = not_waited_mask c.args.self.0 (search rules) in
    grind arith

pub returns-else-is_queue_empty-clause-free : goal.returns-else-is_queue_empty-clause-free
returns-else-is_queue_empty-clause-free c =
    let e0 = not_waited_mask c.args.self.0 (search rules) in
    grind arith
