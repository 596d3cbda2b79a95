use Rattle.std.proofs.Common.{rules, arith}
use Rattle.bp_words.specs.Fields.{fields}
use Rattle.bp_words.proofs.Steps.{find_kept, flag_word}
use Rattle.bp_words.proofs.frames.Visitor.try_open.Goals as goal

pub load-seen-requires : goal.load-seen-requires
load-seen-requires c = (search rules, search rules, find_kept _ _ _)

pub compare_exchange-requires : goal.compare_exchange-requires
compare_exchange-requires c = (search rules, search rules, flag_word _ _ c.load-seen.result _ (fields c.load-seen.result).stays 0 (fields c.load-seen.result).joins _ c.load-seen.ensures.2.4 (omega arith) c.opened-next.ensures)
