use Rattle.std.proofs.Common.{rules, arith}
use Rattle.bp_words.proofs.Left.{writable_at_once_mask}
use Rattle.bp_words.proofs.word.Word.is_writable_at_once.Goals as goal

pub returns : goal.returns
returns c =
    let e0 = writable_at_once_mask c.args.self.0 (search rules) in
    grind arith
