-- The work of a fix alone.
use Rattle.std.proofs.Common.{refl, []}
use Rattle.bp_shared.proofs.Writing.{work_of_some}
use Rattle.tests_workers.proofs.own_ports.visit.Goals as goal

pub returns-in_default-clause-work : goal.returns-in_default-clause-work
returns-in_default-clause-work g c = record { piece = []; grows = c.requires.fresh; through = refl }

pub returns-in-Ok-clause-work : goal.returns-in-Ok-clause-work
returns-in-Ok-clause-work g c = rw c.requires.fresh at (work_of_some _ _ c.args.client.now.session c.fix.new.session _ _ _ _ c.in-Ok.ensures.work)

pub returns-in-Err-clause-work : goal.returns-in-Err-clause-work
returns-in-Err-clause-work g c = rw c.requires.fresh at (work_of_some _ _ c.args.client.now.session c.fix.new.session _ _ _ _ c.in-Err.ensures.work)
