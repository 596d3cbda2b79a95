use Rattle.std.proofs.Common.{rules, arith}
use Rattle.bp_words.specs.Fields.{fields}
use Rattle.bp_words.proofs.Steps.{find_kept, flag_word}
use Rattle.bp_words.proofs.frames.Keeper.try_take_joins.Goals as goal

pub load-seen-requires : goal.load-seen-requires
load-seen-requires c = (search rules, search rules, find_kept _ _ _)

pub compare_exchange-requires : goal.compare_exchange-requires
compare_exchange-requires c = (search rules, search rules, flag_word _ _ c.load-seen.result _ (fields c.load-seen.result).stays (fields c.load-seen.result).closed 0 _ c.load-seen.ensures.2.4 (omega arith) c.without_joins-next.ensures)
