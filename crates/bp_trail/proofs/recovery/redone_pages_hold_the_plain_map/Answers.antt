use Rattle.bp_trail.proofs.Crashes.{seen-again}
use Rattle.bp_trail.proofs.recovery.redone_pages_hold_the_plain_map.Goals as goal

pub returns : goal.returns
returns c = seen-again
