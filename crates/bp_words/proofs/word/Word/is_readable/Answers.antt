use Rattle.std.proofs.Common.{rules, arith}
use Rattle.bp_words.proofs.Left.{readable_mask}
use Rattle.bp_words.proofs.word.Word.is_readable.Goals as goal

pub returns : goal.returns
returns c =
    let e0 = readable_mask c.args.self.0 (search rules) in
    grind arith
