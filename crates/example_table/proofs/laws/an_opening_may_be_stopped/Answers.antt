use Rattle.std.proofs.Common.{◌+◌, length}
use Rattle.example_log.proofs.Moments.{at-moment}
use Rattle.example_table.specs.Opening.{IsOpening, again_of}
use Rattle.example_table.proofs.Stopping.{opening-found, opening-mended}
use Rattle.example_table.proofs.Openings.{brings-leave, redoing, beginning, begins-before, left-is, settled-long, settled-synced-before, settled-written-before, wiping-before}
use Rattle.example_table.proofs.laws.an_opening_may_be_stopped.Goals as goal

pub returns-clause-seen : goal.returns-clause-seen
returns-clause-seen c = brings-leave

pub returns-clause-within : goal.returns-clause-within
returns-clause-within c = λ tears device wanted seen first left table newer older newer_file file left_newer left_older begun last changes newer_before before steps later so_far is each e within m k honest leaves size newer_long newer_left long below_synced below_written older_left tells.
    opening-mended tears device wanted seen first left table newer older newer_file file left_newer left_older begun last changes newer_before before so_far is
    (at-moment (IsOpening device (again_of is) table changes (last + 1) (length file)) steps later so_far each e) within m k honest leaves size newer_long newer_left long below_synced below_written older_left tells

pub returns-clause-found : goal.returns-clause-found
returns-clause-found c = λ tears device table newer older newer_file file left_newer left_older begun last changes newer_before before steps later so_far is each e size newer_long newer_left long below_synced below_written older_left tells.
    opening-found tears device table newer older newer_file file left_newer left_older begun last changes newer_before before so_far is
    (at-moment (IsOpening device (again_of is) table changes (last + 1) (length file)) steps later so_far each e) size newer_long newer_left long below_synced below_written older_left tells

pub returns-clause-redoing : goal.returns-clause-redoing
returns-clause-redoing c = λ tears pages size wanted seen first left table newer older left_newer left_older begun last changes done calls later so_far is settled below m k honest recovers e leaves.
    redoing tears pages size wanted seen first left table newer older left_newer begun last changes is settled m k left_older done calls later so_far below honest recovers e leaves

pub returns-clause-beginning : goal.returns-clause-beginning
returns-clause-beginning c = λ tears pages size wanted seen first left table newer older left_newer file left_older begun last changes calls before log_calls is settled within m k honest recovers leaves long below_synced below_written b file_left tells.
    beginning tears pages size wanted seen first left table newer older left_newer begun last changes is settled m k calls within honest recovers leaves file left_older before log_calls long below_synced below_written b file_left tells

pub returns-clause-wiping : goal.returns-clause-wiping
returns-clause-wiping c = λ file begun before more long below_synced below_written wipes. wiping-before file before long begun below_synced below_written more wipes

pub returns-clause-settled : goal.returns-clause-settled
returns-clause-settled c = λ table newer older file begun last changes calls is settled. (
  settled-long table newer older begun last changes is file calls settled,
  settled-synced-before table newer older begun last changes is file calls settled,
  settled-written-before table newer older begun last changes is file calls settled,
)

pub returns-clause-done : goal.returns-clause-done
returns-clause-done c = λ tears pages size wanted seen first left table newer older left_newer begun last changes calls is settled within m k honest recovers leaves. (
  left-is tears pages size wanted seen first left table newer older left_newer begun last changes is settled m k calls within honest recovers leaves,
  begins-before tears pages size wanted seen first left table newer older left_newer begun last changes is settled,
)
