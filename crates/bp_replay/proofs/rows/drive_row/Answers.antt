-- A discard asks nothing of the port.
use Rattle.std.proofs.Common.{refl}
use Rattle.bp_scripts.specs.declared.rows.Step.TheVariants.{Discard}
use Rattle.bp_replay.proofs.RowsWork.{row-work}
use Rattle.bp_replay.proofs.rows.drive_row.Goals as goal

pub returns-in-Discard-clause-work : goal.returns-in-Discard-clause-work
returns-in-Discard-clause-work g c = row-work _ _ _ _ _ _ (Discard c.in-Discard.page) _ _ _ refl c.requires.ends_in c.discard_row.ensures.outcome
