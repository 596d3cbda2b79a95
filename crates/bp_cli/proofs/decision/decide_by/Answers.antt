use Rattle.clap.specs.Walk.{texts}
use Rattle.bp_cli.proofs.Refusals.{refusal_decides}
use Rattle.bp_cli.proofs.decision.decide_by.Goals as goal

pub returns-in-Err : goal.returns-in-Err
returns-in-Err c = refusal_decides (texts c.args.words.now) c.in-Err.error c.refused.result c.in-Err.ensures.faults c.refused.ensures
