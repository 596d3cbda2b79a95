use Rattle.std.proofs.Common.{rules, ap}
use Rattle.bp_words.proofs.Parts.{queue_split}
use Rattle.bp_words.proofs.frames.Frame.new.Goals as goal

pub split_seat-requires : goal.split_seat-requires
split_seat-requires c = (search rules, search rules, queue_split _ 262143 _ (ap (λ me. me.0) c.in_ok-table.ensures.4))
