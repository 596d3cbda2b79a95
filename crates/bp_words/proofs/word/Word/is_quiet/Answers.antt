use Rattle.std.proofs.Common.{rules, arith}
use Rattle.bp_words.proofs.Left.{quiet_mask}
use Rattle.bp_words.proofs.word.Word.is_quiet.Goals as goal

pub returns : goal.returns
returns c =
    let e0 = quiet_mask c.args.self.0 (search rules) in
    grind arith
