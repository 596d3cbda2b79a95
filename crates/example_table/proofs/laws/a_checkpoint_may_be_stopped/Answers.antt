use Rattle.std.proofs.Common.{inr, refl, [], ◌+◌, length, arith}
use Rattle.example_log.proofs.Moments.{at-moment}
use Rattle.example_table.specs.Checkpoints.{IsMoving}
use Rattle.example_table.proofs.Stopping.{moving-found, moving-mended, wiped-all}
use Rattle.example_table.proofs.Openings.{stood}
use Rattle.example_table.proofs.Checkpoints.{may-be-opened, old-good, old-left, old-long, old-synced, old-written}
use Rattle.example_table.proofs.Sounding.{all-shut, all-sound}
use Rattle.example_table.proofs.laws.a_checkpoint_may_be_stopped.Goals as goal

pub returns-clause-moving : goal.returns-clause-moving
returns-clause-moving g = λ c tears first left table file other_file bytes other cut start alive past calls log_calls opening_calls before other_calls commits kept n ran saved reopened honestly sized file_left tells long below_synced below_written beginning other_left other_tells leaves.
    may-be-opened c tears first left table file other_file bytes other cut start alive past calls log_calls opening_calls before other_calls commits kept n ran saved reopened honestly sized file_left tells long below_synced below_written beginning other_left other_tells leaves
    (all-sound c table cut file start alive past past calls log_calls commits (1 + length commits) [] ran tears (omega arith))
    (λ p. inr (all-shut c table cut file start alive past past calls log_calls commits (1 + length commits) [] ran refl saved p))

pub returns-clause-within : goal.returns-clause-within
returns-clause-within g = λ c tears first left table file other_file bytes other cut start records found last calls log_calls before commits changes steps later so_far each e honestly sized file_left tells long below_synced below_written other_left other_tells leaves finds.
    moving-mended c tears first left table file other_file bytes other cut start calls log_calls before commits records found last changes so_far
    (at-moment (IsMoving c table cut file start calls log_calls commits records other_file before) steps later so_far each e) honestly sized file_left tells long below_synced below_written other_left other_tells leaves finds

pub returns-clause-found : goal.returns-clause-found
returns-clause-found g = λ c table file other_file bytes other cut start records calls log_calls before commits steps later so_far each e leaves tells long below_synced below_written other_left other_tells.
    moving-found c table file other_file bytes other cut start calls log_calls before commits records so_far
    (at-moment (IsMoving c table cut file start calls log_calls commits records other_file before) steps later so_far each e) leaves tells long below_synced below_written other_left other_tells

pub returns-clause-wiping : goal.returns-clause-wiping
returns-clause-wiping g = λ file left start to before more long below_synced below_written wipes tells lsn payload rest fit e.
    stood file before long to below_synced below_written more start left wipes tells lsn payload rest fit e

pub returns-clause-wiped : goal.returns-clause-wiped
returns-clause-wiped g = wiped-all

pub returns-clause-follows : goal.returns-clause-follows
returns-clause-follows g = λ file start to alive calls later log kept durable n life reopened lt. (
  old-long file start to alive calls later log kept durable n life reopened lt,
  old-synced file start to alive calls later log kept durable n life reopened lt,
  old-written file start to alive calls later log kept durable n life reopened lt,
  old-left file start to alive calls later log kept durable n life reopened lt,
)

pub returns-clause-good : goal.returns-clause-good
returns-clause-good g = old-good
