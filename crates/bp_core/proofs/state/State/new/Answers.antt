use Rattle.std.proofs.Common.{rules}
use Rattle.bp_core.proofs.StampsKept.{none-ever}
use Rattle.bp_core.proofs.state.State.new.Goals as goal

pub returns : goal.returns
returns c = search (rules, none-ever)
