use Rattle.std.proofs.Common.{rules, arith}
use Rattle.bp_words.proofs.Left.{over_mask}
use Rattle.bp_words.proofs.word.Word.is_over.Goals as goal

pub returns : goal.returns
returns c =
    let e0 = over_mask c.args.self.0 (search rules) in
    grind arith
