use Rattle.bp_check.proofs.PageSteps.{blank-at}
use Rattle.bp_check.proofs.pages.blank_pages.Goals as goal

pub returns-clause-blank : goal.returns-clause-blank
returns-clause-blank c = blank-at c.loop.made.items c.loop.invariant.2
