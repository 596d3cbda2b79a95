use Rattle.bp_trail.specs.Passes.{is_of}
use Rattle.bp_check.proofs.Reversed.{some-found}
use Rattle.bp_check.proofs.grants.Grants.has_of.Goals as goal

pub returns-then-eq : goal.returns-then-eq
returns-then-eq c = some-found (is_of c.args.page) _ _ _ _ _ _ c.self.view_is c.deref-given-items.ensures.value c.loop-given-test.true c.given-item.is c.if-eq.ensures
