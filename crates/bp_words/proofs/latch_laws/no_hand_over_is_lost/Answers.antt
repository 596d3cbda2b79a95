use Rattle.bp_words.proofs.Latch.{heard_first, heard_step, heard_way}
use Rattle.bp_words.proofs.latch_laws.no_hand_over_is_lost.Goals as goal

pub returns-clause-first : goal.returns-clause-first
returns-clause-first c = heard_first

pub returns-clause-step : goal.returns-clause-step
returns-clause-step c = heard_step

pub returns-clause-way : goal.returns-clause-way
returns-clause-way c = heard_way
