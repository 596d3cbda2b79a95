use Rattle.std.proofs.Common.{rules, arith}
use Rattle.bp_words.proofs.Left.{room_mask}
use Rattle.bp_words.proofs.word.Word.has_room.Goals as goal

pub returns : goal.returns
returns c =
    let e0 = room_mask c.args.self.0 (search rules) in
    grind arith
