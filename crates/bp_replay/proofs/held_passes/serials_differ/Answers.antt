-- A core's trail is legal.
use Rattle.bp_replay.proofs.Removing.{differ-in-legal}
use Rattle.bp_replay.proofs.held_passes.serials_differ.Goals as goal

pub returns : goal.returns
returns g c = λ held ends. differ-in-legal c.args.core.now held ends c.keeps_the_rules.ensures.legal
