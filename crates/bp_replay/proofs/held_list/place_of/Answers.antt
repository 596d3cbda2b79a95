use Rattle.std.proofs.Common.{◌∙◌}
use Rattle.bp_replay.proofs.held_list.place_of.Goals as goal

pub returns : goal.returns
returns c = c.copied.ensures ∙ c.get.ensures.value
