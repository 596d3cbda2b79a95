use Rattle.std.proofs.Common.{rules, arith}
use Rattle.bp_words.proofs.Left.{not_joined_mask}
use Rattle.bp_words.proofs.word.Word.without_joins.Goals as goal

pub returns : goal.returns
returns c =
    let e0 = not_joined_mask c.args.self.0 (search rules) in
    grind arith
