-- The row adds its piece to those of the rows before it.
use Rattle.std.proofs.Common.{◌∙◌, ap, ◌++◌, ◌∷◌, []}
use Rattle.bp_trail.specs.Pieces.{outcome_of}
use Rattle.bp_shared.proofs.Working.{work-on}
use Rattle.bp_replay.proofs.Following.{follows-more, known-more, quiet-log}
use Rattle.bp_replay.proofs.Playing.{step-work}
use Rattle.bp_replay.proofs.player.run_row.Goals as goal

pub returns-clause-plays : goal.returns-clause-plays
returns-clause-plays g c = λ rows first so_far.
    let old = c.args.client.now in
    record {
      pieces = follows-more old.session.client rows c.args.row.now c.args.ends.now.items c.push_reserved.new.self.items old.session.said c.step-outcome.new.client.session.said c.args.refused.now.items c.note_refused.new.refused.items (outcome_of c.step-outcome.result) c.requires.fits.own so_far.pieces c.step-outcome.ensures.outcome c.note_refused.ensures.refused
          (c.push_reserved.ensures.items ∙ ap (λ n. c.args.ends.now.items ++ n ∷ []) c.count.ensures);
      known = known-more c.args.row.now.row c.args.refused.now.items c.note_refused.new.refused.items c.step-outcome.result so_far.known c.step-outcome.ensures.known c.note_refused.ensures.refused;
      work = work-on _ _ _ _ _ _ _ _ so_far.work
          (step-work _ _ old.session.client c.args.row.now.step (outcome_of c.step-outcome.result) _ _ _ _ c.step-outcome.ensures.outcome c.step-outcome.ensures.work);
    }

pub returns-clause-grows : goal.returns-clause-grows
returns-clause-grows g c =
    let says = c.step-outcome.ensures.outcome in
    record { piece = says.piece; grows = says.grows; quiet = λ lsn is. quiet-log _ c.args.row.now.step lsn _ _ _ is says }
