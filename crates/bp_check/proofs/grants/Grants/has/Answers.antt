use Rattle.bp_trail.specs.Event.{same_grant}
use Rattle.bp_check.proofs.Reversed.{some-found}
use Rattle.bp_check.proofs.grants.Grants.has.Goals as goal

pub returns-then-same_grant : goal.returns-then-same_grant
returns-then-same_grant c = some-found (same_grant record { client = c.args.client; page = c.args.page; serial = c.args.serial }) _ _ _ _ _ _ c.self.view_is c.deref-given-items.ensures.value c.loop-given-test.true c.given-item.is c.if-same_grant.ensures
