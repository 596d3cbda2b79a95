use Rattle.std.proofs.Common.{rules, arith}
use Rattle.bp_words.proofs.Left.{not_waited_mask}
use Rattle.bp_words.proofs.word.Word.with_queue.Goals as goal

pub returns-then-not-is_free-clause-queued : goal.returns-then-not-is_free-clause-queued
returns-then-not-is_free-clause-queued c =
    let e0 = not_waited_mask c.args.self.0 (search rules) in
    (search rules, search rules, omega arith)
