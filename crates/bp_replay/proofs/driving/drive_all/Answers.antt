-- The rows' work, and none for the passes that go back.
use Rattle.std.proofs.Common.{List, sym, ap, subst, arith}
use Rattle.bp_trail.specs.Event.{Grant}
use Rattle.bp_core.specs.CoreView.{CoreView}
use Rattle.bp_replay.specs.Rows.{EndsIn, GaveBack}
use Rattle.bp_device.proofs.Working.{work-join}
use Rattle.bp_replay.proofs.RowsWork.{gave-back-work}
use Rattle.bp_replay.proofs.ScriptSteps.{rows-end, script-done}
use Rattle.bp_replay.proofs.RowCauses.{script-caused}
use Rattle.bp_replay.proofs.driving.drive_all.Goals as goal

pub copy_to-requires : goal.copy_to-requires
copy_to-requires g c = record { empty = c.in_ok-left.ensures.items; room = omega (arith, c.drive_rows.ensures.few, c.in_ok-left.ensures.capacity) }

pub unfix_all-requires : goal.unfix_all-requires
unfix_all-requires g c = record { ends_in = subst (EndsIn c.drive_rows.new.core) (sym c.copy_to.ensures.notes) (rows-end _ _ _ _ _ c.drive_rows.ensures.outcome.driven) }

pub returns-clause-work : goal.returns-clause-work
returns-clause-work g c =
    let d = c.drive_rows.ensures.outcome.driven in
    let back = subst (λ (held : List Grant). GaveBack c.drive_rows.new.core held c.unfix_all.new.core) c.copy_to.ensures.notes c.unfix_all.ensures.outcome in
    work-join _ _ _ _ _ _ _ _ c.drive_rows.ensures.work
    (gave-back-work _ _ c.drive_rows.new.core c.unfix_all.new.core c.drive_rows.new.port c.drive_rows.new.held.passes (record { said = d.said; start = c.args.core.now.past; joined = ap (λ (core : CoreView). core.past) d.is; are_held = d.are_held }) back)

pub returns-clause-follows : goal.returns-clause-follows
returns-clause-follows g c =
    script-done _ _ _ _ _ _ c.drive_rows.ensures.outcome.driven
    (subst (λ (held : List Grant). GaveBack c.drive_rows.new.core held c.unfix_all.new.core) c.copy_to.ensures.notes c.unfix_all.ensures.outcome)

pub returns-clause-caused : goal.returns-clause-caused
returns-clause-caused g c =
    script-caused _ _ _ _ _ _ c.drive_rows.ensures.outcome
    (subst (λ (held : List Grant). GaveBack c.drive_rows.new.core held c.unfix_all.new.core) c.copy_to.ensures.notes c.unfix_all.ensures.outcome)
