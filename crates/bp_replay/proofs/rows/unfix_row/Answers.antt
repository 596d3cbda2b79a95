-- The latest pass goes back.
use Rattle.std.proofs.Common.{◌≤◌, List, [], sym, subst, ◌∙◌, length}
use Rattle.bp_trail.specs.Event.{Grant}
use Rattle.bp_trail.specs.declared.entries.Call.TheVariants.{Unfix}
use Rattle.bp_scripts.specs.declared.rows.Step.TheVariants as step
use Rattle.bp_trail.specs.Pieces.Outcome.{refused}
use Rattle.bp_replay.specs.Rows.{DrivesRow}
use Rattle.bp_replay.proofs.GivingBack.{no-more}
use Rattle.bp_replay.proofs.PieceSteps.{latest-known, no_pass-drives, unfix-drives}
use Rattle.bp_replay.proofs.rows.unfix_row.Goals as goal

pub take_latest-requires : goal.take_latest-requires
take_latest-requires g c = record { differ = c.serials_differ.ensures c.args.held.now.passes c.requires.ends_in }

pub unfix_note-requires : goal.unfix_note-requires
unfix_note-requires g c = record { known = (latest-known _ _ _ _ c.in-Some.note c.requires.ends_in (sym c.take_latest.ensures.note ∙ c.in-Some.is)).known }

pub returns-in_default-clause-outcome : goal.returns-in_default-clause-outcome
returns-in_default-clause-outcome g c =
    subst (λ (held : List Grant). DrivesRow c.args.core.now c.args.client (step.Unfix c.args.page) (refused 14) c.args.held.now.passes held c.args.core.now) (sym c.in_default.ensures.none)
    (no_pass-drives c.args.core.now c.args.held.now.passes c.args.client c.args.page (step.Unfix c.args.page) [] (λ n. Unfix n c.args.page) (λ said piece outcome w. w) (sym c.take_latest.ensures.note ∙ c.in_default.is))

pub returns-clause-outcome : goal.returns-clause-outcome
returns-clause-outcome g c = unfix-drives _ _ _ _ _ _ c.in-Some.note c.requires.ends_in (sym c.take_latest.ensures.note ∙ c.in-Some.is) c.unfix_note.ensures.entry c.in-Some.ensures.taken

pub returns-clause-fewer : goal.returns-clause-fewer
returns-clause-fewer g c = subst (λ (gs : List Grant). length gs ≤ length c.args.held.now.passes) (sym c.in-Some.ensures.taken) (no-more c.in-Some.note.serial c.args.held.now.passes)
