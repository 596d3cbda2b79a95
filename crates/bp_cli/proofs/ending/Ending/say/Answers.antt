use Rattle.bp_cli.proofs.Messages.{message-line}
use Rattle.bp_cli.proofs.ending.Ending.say.Goals as goal

pub returns-else-is_help-clause-one_line : goal.returns-else-is_help-clause-one_line
returns-else-is_help-clause-one_line g c = message-line c.args.self.now
