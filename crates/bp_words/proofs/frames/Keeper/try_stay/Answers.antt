use Rattle.std.proofs.Common.{rules, ◌≡◌, arith}
use Rattle.bp_words.specs.Fields.{fields}
use Rattle.bp_words.proofs.Steps.{flag_word}
use Rattle.bp_words.proofs.frames.Keeper.try_stay.Goals as goal

pub compare_exchange-requires : goal.compare_exchange-requires
compare_exchange-requires c =
    let out : (fields c.peek-seen.result).out ≡ 1 = search rules in
    (search rules, search rules, flag_word _ _ c.peek-seen.result _ 1 (fields c.peek-seen.result).closed (fields c.peek-seen.result).joins _ (omega arith) (omega arith) c.staying-next.ensures)
