-- Each row adds its piece to those of the rows before it.
use Rattle.std.proofs.Common.{◌≡◌, refl, sym, ◌∙◌, ap, subst, ◌+◌, ◌++◌, ◌∷◌, [], take, add-one, length, arith}
use Rattle.std.proofs.lemmas.List.{take_all}
use Rattle.std.proofs.Math.Seq.{take-suc}
use Rattle.bp_replay.specs.Rows.{DrivesRowsCaused}
use Rattle.bp_replay.proofs.ScriptSteps.{rows-parameters}
use Rattle.bp_replay.proofs.RowCauses.{caused-none, caused-step}
use Rattle.bp_device.proofs.Working.{none-yet, work-join}
use Rattle.bp_replay.proofs.driving.drive_rows.Goals as goal

pub loop-row-init : goal.loop-row-init
loop-row-init g c = record {
  driven = subst (λ refused. DrivesRowsCaused c.args.core.now [] refused c.args.held.now.passes c.args.core.now) (sym c.requires.none_refused) (subst (λ held. DrivesRowsCaused c.args.core.now [] [] held c.args.core.now) (sym c.requires.none_held) (caused-none c.args.core.now));
  few_held = omega (arith, ap length c.requires.none_held);
  few_refused = omega (arith, ap length c.requires.none_refused, c.args.refused.now.ok);
  held_room = omega (arith, c.requires.held_room);
  refused_room = refl;
  work = none-yet _ _ c.args.core.now c.args.port.now;
  geometry = refl;
}

pub loop-row-preserved : goal.loop-row-preserved
loop-row-preserved g c =
    let row = c.row-item.result in
    let more : take (c.loop-row.row-index + 1) c.args.rows.now ≡ take c.loop-row.row-index c.args.rows.now ++ row ∷ [] =
    rw add-one (take-suc c.args.rows.now c.loop-row.row-index row (omega (arith, c.loop-row-test.true)) ∙ ap (λ r. take c.loop-row.row-index c.args.rows.now ++ r ∷ []) (sym c.row-item.is)) in
    record {
      driven = subst (λ rows. DrivesRowsCaused c.args.core.now rows c.note_refused.new.refused.items c.drive_row-outcome.new.held.passes c.drive_row-outcome.new.core) (sym more)
          (caused-step _ c.loop-row.core _ _ row _ _ _ _ _ c.loop-row.invariant.driven c.drive_row-outcome.ensures.outcome c.drive_row-outcome.ensures.cause c.note_refused.ensures.refused);
      few_held = omega (arith, c.drive_row-outcome.ensures.more, c.loop-row.invariant.few_held);
      few_refused = omega (arith, c.note_refused.ensures.more, c.loop-row.invariant.few_refused);
      held_room = omega (arith, c.drive_row-outcome.ensures.room, c.loop-row.invariant.held_room);
      work = work-join _ _ _ _ _ _ _ _ c.loop-row.invariant.work c.drive_row-outcome.ensures.work;
      geometry = c.drive_row-outcome.ensures.geometry ∙ c.loop-row.invariant.geometry;
      refused_room = c.note_refused.ensures.capacity ∙ c.loop-row.invariant.refused_room;
    }

pub drive_row-outcome-requires-clause-size : goal.drive_row-outcome-requires-clause-size
drive_row-outcome-requires-clause-size g c =
    ap (λ g. g.size) c.loop-row.invariant.geometry ∙ c.requires.size ∙ ap (λ p. p.size) (sym (rows-parameters _ _ _ _ _ c.loop-row.invariant.driven.driven))

pub returns-clause-geometry : goal.returns-clause-geometry
returns-clause-geometry g c = c.loop-row.invariant.geometry

pub returns-clause-outcome : goal.returns-clause-outcome
returns-clause-outcome g c =
    subst (λ rows. DrivesRowsCaused c.args.core.now rows c.loop-row.refused.items c.loop-row.held.passes c.loop-row.core) (take_all c.loop-row.row-index c.args.rows.now (omega (arith, c.loop-row-test.false))) c.loop-row.invariant.driven
