use Rattle.std.proofs.Common.{rules, arith}
use Rattle.bp_words.proofs.Left.{pinnable_mask}
use Rattle.bp_words.proofs.word.Word.is_pinnable.Goals as goal

pub returns : goal.returns
returns c =
    let e0 = pinnable_mask c.args.self.0 (search rules) in
    grind arith
