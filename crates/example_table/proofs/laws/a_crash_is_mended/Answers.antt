use Rattle.std.proofs.Common.{subst, ◌++◌}
use Rattle.example_log.specs.Disk.{Honest}
use Rattle.example_log.proofs.CommitsRead.{whole-commits}
use Rattle.example_table.proofs.Openings.{found-in}
use Rattle.example_table.proofs.PoolLives.{honest-then}
use Rattle.example_table.proofs.Sounding.{sound}
use Rattle.example_table.proofs.Stopping.{log-found}
use Rattle.example_table.proofs.Tables.{mended, ran-then}
use Rattle.example_table.proofs.laws.a_crash_is_mended.Goals as goal

pub returns-clause-mended : goal.returns-clause-mended
returns-clause-mended c = λ p tears first left table file bytes other cut start alive past synced calls later so_far log_calls opening_calls commits kept durable n found last changes pending ran reopened honestly sized e file_left tells below leaves finds.
    (let then = ran-then p table cut file start alive past synced calls log_calls commits durable pending ran later so_far e in
    let honest_then = honest-then tears first later (so_far ++ cut.calls) (subst (Honest tears first) e honestly) in
    let has = found-in table file bytes other start alive log_calls opening_calls commits kept durable n found last changes ran.log reopened ran.named file_left tells below finds in
    let k = whole-commits table file bytes start durable alive log_calls opening_calls commits kept n found last changes ran.log ran.are reopened file_left tells has in (
      k,
      mended p tears first left table file bytes cut start alive then.0 then.1 (so_far ++ cut.calls) log_calls commits durable found last changes then.2 opening_calls kept n then.3 reopened honest_then sized file_left tells leaves has
          (sound p table cut file start alive then.0 then.1 (so_far ++ cut.calls) log_calls commits durable then.2 then.3 tears found last changes k),
    ))

pub returns-clause-found : goal.returns-clause-found
returns-clause-found g = λ c table file bytes other cut start alive past synced calls log_calls opening_calls commits kept durable n pending ran reopened leaves tells below.
    log-found table file bytes other start alive log_calls opening_calls commits kept durable n ran.log ran.are reopened ran.named leaves tells below
