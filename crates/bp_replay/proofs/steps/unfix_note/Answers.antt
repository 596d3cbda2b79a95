-- A pass that the session holds is not refused.
use Rattle.bp_workers.proofs.GoingBack.{not_refused}
use Rattle.bp_replay.proofs.steps.unfix_note.Goals as goal

pub unreachable-requires : goal.unreachable-requires
unreachable-requires g c = not_refused c.args.session.now c.unfix_draining.new.session c.pass.result c.in-Err._pass c.args.note c.in-Err.field-0-1 c.requires.held c.pass.ensures.client c.pass.ensures.page c.pass.ensures.serial c.in-Err.ensures.room c.in-Err.ensures.outcome
