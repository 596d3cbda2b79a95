use Rattle.std.proofs.Common.{◌≡◌, ◌*◌, ◌/◌, ◌%◌, bit_and, arith}
use Rattle.std.proofs.lemmas.Nat.Bits.{and_pow}
use Rattle.bp_words.proofs.word.Word.is_written.Goals as goal

pub returns : goal.returns
returns c =
    let n = c.args.self.0 in
    let e : bit_and n 1099511627776 ≡ n / 1099511627776 % 2 * 1099511627776 = and_pow n 40 in
    grind arith
