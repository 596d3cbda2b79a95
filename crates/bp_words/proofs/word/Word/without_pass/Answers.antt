use Rattle.std.proofs.Common.{rules, arith}
use Rattle.bp_words.proofs.Left.{unused_mask, not_pass_mask}
use Rattle.bp_words.proofs.word.Word.without_pass.Goals as goal

pub returns-then-self-eq-OUT-clause-had : goal.returns-then-self-eq-OUT-clause-had
returns-then-self-eq-OUT-clause-had c =
    let e0 = unused_mask c.args.self.0 (search rules) in
    let e1 = not_pass_mask c.args.self.0 (search rules) in
    grind arith

pub returns-else-self-eq-OUT-clause-not : goal.returns-else-self-eq-OUT-clause-not
returns-else-self-eq-OUT-clause-not c =
    let e0 = unused_mask c.args.self.0 (search rules) in
    grind arith
