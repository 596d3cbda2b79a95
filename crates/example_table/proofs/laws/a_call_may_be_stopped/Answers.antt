use Rattle.std.proofs.Common.{List, ◌++◌}
use Rattle.example_log.specs.Moments.{Step, log_in, pages_in}
use Rattle.example_log.proofs.Moments.{at-moment}
use Rattle.example_table.specs.Tables.{Stands}
use Rattle.example_table.proofs.Stopping.{stands-found, stands-mended}
use Rattle.example_table.proofs.laws.a_call_may_be_stopped.Goals as goal

pub returns-clause-mended : goal.returns-clause-mended
returns-clause-mended g = λ p tears first left table file bytes other cut start records found last calls log_calls commits after changes steps later so_far each e honestly sized file_left tells below leaves finds.
    stands-mended p tears first left table file bytes other cut start (pages_in so_far ++ calls) (log_in so_far ++ log_calls) commits after records found last changes
    (at-moment (λ (made : List Step). Stands p table cut file start (pages_in made ++ calls) (log_in made ++ log_calls) commits after records) steps later so_far each e) honestly sized file_left tells below leaves finds

pub returns-clause-found : goal.returns-clause-found
returns-clause-found g = λ c table file bytes other cut start records calls log_calls commits after steps later so_far each e leaves tells below.
    stands-found c table file bytes other cut start (pages_in so_far ++ calls) (log_in so_far ++ log_calls) commits after records
    (at-moment (λ (made : List Step). Stands c table cut file start (pages_in made ++ calls) (log_in made ++ log_calls) commits after records) steps later so_far each e) leaves tells below
