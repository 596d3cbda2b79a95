use Rattle.std.proofs.Common.{◌≡◌, ◌*◌, ◌/◌, ◌%◌, bit_and, arith}
use Rattle.std.proofs.lemmas.Nat.Bits.{and_pow}
use Rattle.bp_words.proofs.word.Word.is_out.Goals as goal

pub returns : goal.returns
returns c =
    let n = c.args.self.0 in
    let e : bit_and n 4398046511104 ≡ n / 4398046511104 % 2 * 4398046511104 = and_pow n 42 in
    grind arith
