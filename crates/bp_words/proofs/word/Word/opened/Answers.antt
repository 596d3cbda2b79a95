use Rattle.std.proofs.Common.{rules, arith}
use Rattle.bp_words.proofs.Left.{not_closed_mask}
use Rattle.bp_words.proofs.word.Word.opened.Goals as goal

pub returns : goal.returns
returns c =
    let e0 = not_closed_mask c.args.self.0 (search rules) in
    grind arith
